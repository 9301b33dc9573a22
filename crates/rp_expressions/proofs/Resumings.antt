-- A form that goes on with a value that was taken off those at hand.
use Rattle.std.proofs.Common.{◌≡◌, Result, subst}
use Rattle.std.specs.Prelude.{OnOk}
use Rattle.rp_base.specs.declared.value.Value.{Value}
use Rattle.rp_frame.specs.Top.{below, top}
use Rattle.rp_meaning.specs.Frame.{Meaning}
use Rattle.rp_proxy.specs.declared.world.World.{World}
use Rattle.rp_engine.specs.Law.{Evaluates}
use Rattle.rp_engine.specs.declared.halt.Halt.{Halt}
use Rattle.rp_engine.specs.declared.machine.Machine.{Machine}

pub resumes_with : (m h n : Machine) (w v : World) (r : Result (Unit {0}) Halt) (form : Value → Meaning) (a : Value) → h ≡ record m { values = below m.values } → a ≡ top m.values
    → OnOk r (Evaluates (form a) h w n v) → OnOk r (Evaluates (form (top m.values)) (record m { values = below m.values }) w n v)
resumes_with m h n w v r form a held is law =
    subst (λ (z : Machine). OnOk r (Evaluates (form (top m.values)) z w n v)) held (subst (λ (x : Value). OnOk r (Evaluates (form x) h w n v)) is law)
