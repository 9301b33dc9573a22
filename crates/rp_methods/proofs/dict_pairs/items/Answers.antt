use Rattle.std.proofs.Common.{List, arith, subst, sym}
use Rattle.rp_base.specs.declared.value.Value.{Value}
use Rattle.rp_ops.specs.Outcome.{Meets, state_of}
use Rattle.rp_methods.specs.Dicts.{items}
use Rattle.rp_methods.proofs.Sound.{none-of}
use Rattle.rp_methods.proofs.dict_pairs.items.Goals as goal

pub returns-clause-plain : goal.returns-clause-plain
returns-clause-plain c =
    let none = none-of c.args.args.now (omega (c.in-empty.len_below, arith)) in
    (λ steps. subst (λ (xs : List Value). Meets c.list_items.result (state_of c.list_items.new.store steps) (items c.args.at xs (state_of c.args.store.now steps))) (sym none)
    (c.list_items.ensures.plain steps))
