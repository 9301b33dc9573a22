-- How an operation goes on with what another gives.
use Rattle.std.proofs.Common.{◌≡◌, Result, sym, subst}
use Rattle.rp_base.specs.declared.value.OpEnd.{OpEnd}
use Rattle.rp_ops.specs.Outcome.{Meets, Outcome, State, gives, on_value}

-- a value is gone on with
pub goes-on : {A B : Type 0} (r : Result B OpEnd) (s between : State) (a : A) (o : Outcome A) (go : A → State → Outcome B)
    → o ≡ gives a between → Meets r s (go a between) → Meets r s (on_value o go)
goes-on {A} {B} r s between a o go e h = subst (λ (o : Outcome A). Meets r s (on_value o go)) (sym e) h
