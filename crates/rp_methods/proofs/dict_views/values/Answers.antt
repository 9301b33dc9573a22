use Rattle.std.proofs.Common.{List, arith, subst, sym}
use Rattle.rp_base.specs.declared.value.Value.{Value}
use Rattle.rp_ops.specs.Outcome.{Meets, state_of}
use Rattle.rp_methods.specs.Dicts.{values}
use Rattle.rp_methods.proofs.Sound.{none-of}
use Rattle.rp_methods.proofs.dict_views.values.Goals as goal

pub returns-clause-plain : goal.returns-clause-plain
returns-clause-plain c =
    let none = none-of c.args.args.now (omega (c.in-empty.len_below, arith)) in
    (λ steps. subst (λ (xs : List Value). Meets c.list_values.result (state_of c.list_values.new.store steps) (values c.args.at xs (state_of c.args.store.now steps))) (sym none)
    (c.list_values.ensures.plain steps))
