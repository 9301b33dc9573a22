use Rattle.std.proofs.Common.{List, arith, subst, sym}
use Rattle.rp_base.specs.declared.value.Value.{Value}
use Rattle.rp_ops.specs.Outcome.{Meets, state_of}
use Rattle.rp_methods.specs.Dicts.{copy}
use Rattle.rp_methods.proofs.Sound.{none-of}
use Rattle.rp_methods.proofs.dict_views.copy.Goals as goal

pub returns-clause-plain : goal.returns-clause-plain
returns-clause-plain c =
    let none = none-of c.args.args.now (omega (c.in-empty.len_below, arith)) in
    (λ steps. subst (λ (xs : List Value). Meets c.make_copy.result (state_of c.make_copy.new.store steps) (copy c.args.at xs (state_of c.args.store.now steps))) (sym none)
    (c.make_copy.ensures.plain steps))
