use Rattle.std.proofs.Common.{sym, subst}
use Rattle.rp_base.specs.declared.value.Value.{Value}
use Rattle.rp_ops.specs.Outcome.{Meets, state_of}
use Rattle.rp_methods.specs.Dicts.{set_default}
use Rattle.rp_methods.proofs.dict_keys.set_default.Goals as goal

pub returns-in-Rock-clause-plain : goal.returns-in-Rock-clause-plain
returns-in-Rock-clause-plain c =
    (λ steps. subst (λ (k : Value). Meets c.set_missing.result (state_of c.set_missing.new.store steps) (set_default c.args.at k c.args.default.now (state_of c.args.store.now steps)))
    (sym c.in-Rock.is) (c.set_missing.ensures.plain steps))
