-- An answer that may not be known: of the same outcome, and what is so where it is not known.
use Rattle.std.proofs.Common.{◌≡◌, Bool, Option, Some, None, Result, Ok, Err, sym, subst}
use Rattle.std.specs.Prelude.{IfNone, IfOk, not}
use Rattle.std.specs.Option.{option_map}
use Rattle.rp_base.specs.declared.value.OpEnd.{OpEnd}
use Rattle.rp_meaning.specs.State.{State, Outcome}
use Rattle.rp_access.specs.Comes.{ComesIfAny}

pub ComesIfAny-same : {A : Type 0} (r : Result (Option A) OpEnd) (s : State) (o p : Outcome A) → o ≡ p → ComesIfAny r s p → ComesIfAny r s o
ComesIfAny-same r s o p same is = subst (ComesIfAny r s) (sym same) is

pub never_none : {A : Type 0} (r : Result (Option A) OpEnd) (P : Type 0) → IfOk r (λ v. IfNone v ⊥) → IfOk r (λ v. IfNone v P)
never_none (Ok (Some a)) P h = tt
never_none (Ok None) P h = absurd h
never_none (Err e) P h = tt

pub none_negated : (o : Option Bool) (P : Type 0) → IfNone o P → IfNone (option_map not o) P
none_negated (Some b) P h = tt
none_negated None P h = h
