use Rattle.std.proofs.Common.{sym, subst}
use Rattle.std.specs.Option.{option_copied}
use Rattle.rp_base.specs.declared.value.Value.{Value}
use Rattle.rp_ops.specs.Outcome.{Meets, state_of}
use Rattle.rp_methods.specs.Dicts.{pop_or}
use Rattle.rp_methods.proofs.dict_keys.pop_or.Goals as goal

pub returns-in-Rock-clause-plain : goal.returns-in-Rock-clause-plain
returns-in-Rock-clause-plain c =
    (λ steps. subst (λ (k : Value). Meets c.pop_entry.result (state_of c.pop_entry.new.store steps) (pop_or c.args.at k (option_copied c.args.default) (state_of c.args.store.now steps)))
    (sym c.in-Rock.is) (c.pop_entry.ensures.plain steps))
