use Rattle.std.proofs.Common.{List, arith, subst, sym}
use Rattle.rp_base.specs.declared.value.Value.{Value}
use Rattle.rp_ops.specs.Outcome.{Meets, state_of}
use Rattle.rp_methods.specs.Lists.{insert}
use Rattle.rp_methods.proofs.Sound.{two-of}
use Rattle.rp_methods.proofs.list_changes.insert.Goals as goal

pub returns-clause-plain : goal.returns-clause-plain
returns-clause-plain c =
    let both = two-of c.args.args.now c.i-item.result c.x-item.result (omega (c.in-len2.len_at_least, c.in-len2.len_below, arith)) c.i-item.is c.x-item.is in
    (λ steps. subst (λ (xs : List Value). Meets c.insert_named.result (state_of c.insert_named.new.store steps) (insert c.args.at xs (state_of c.args.store.now steps))) (sym both)
    (c.insert_named.ensures.plain steps))
