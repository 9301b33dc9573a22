use Rattle.std.proofs.Common.{sym, subst}
use Rattle.rp_base.specs.declared.value.Value.{Value}
use Rattle.rp_ops.specs.Outcome.{Meets, state_of}
use Rattle.rp_methods.specs.Dicts.{get_or}
use Rattle.rp_methods.proofs.dict_keys.get_or.Goals as goal

pub returns-in-Rock-clause-plain : goal.returns-in-Rock-clause-plain
returns-in-Rock-clause-plain c =
    (λ steps. let s = state_of c.args.store.now steps in
    subst (λ (k : Value). Meets c.get_entry.result s (get_or c.args.at k c.args.default.now s)) (sym c.in-Rock.is) (c.get_entry.ensures.plain steps))
