-- A statement that goes on with values that were taken off those at hand.
use Rattle.std.proofs.Common.{◌≡◌, Result, subst}
use Rattle.std.specs.Prelude.{OnOk}
use Rattle.rp_base.specs.declared.value.Value.{Value}
use Rattle.rp_frame.specs.Top.{below, top}
use Rattle.rp_meaning.specs.Frame.{Doing}
use Rattle.rp_proxy.specs.declared.world.World.{World}
use Rattle.rp_engine.specs.Law.{Executes}
use Rattle.rp_engine.specs.declared.halt.Halt.{Halt}
use Rattle.rp_engine.specs.declared.machine.Machine.{Machine}

-- one
pub resumes_with : (m h n : Machine) (w v : World) (r : Result (Unit {0}) Halt) (form : Value → Doing) (a : Value) → h ≡ record m { values = below m.values } → a ≡ top m.values
    → OnOk r (Executes (form a) h w n v) → OnOk r (Executes (form (top m.values)) (record m { values = below m.values }) w n v)
resumes_with m h n w v r form a held is law =
    subst (λ (z : Machine). OnOk r (Executes (form (top m.values)) z w n v)) held (subst (λ (x : Value). OnOk r (Executes (form x) h w n v)) is law)

-- two
pub resumes_with_two : (m h k n : Machine) (w v : World) (r : Result (Unit {0}) Halt) (form : Value → Value → Doing) (a b : Value) → h ≡ record m { values = below m.values } → k ≡ record h { values = below h.values }
    → a ≡ top m.values → b ≡ top h.values → OnOk r (Executes (form a b) k w n v)
    → OnOk r (Executes (form (top m.values) (top (below m.values))) (record m { values = below (below m.values) }) w n v)
resumes_with_two m h k n w v r form a b first second a_is b_is law =
    subst (λ (z : Machine). OnOk r (Executes (form (top m.values) (top z.values)) (record z { values = below z.values }) w n v)) first
    (subst (λ (z : Machine). OnOk r (Executes (form (top m.values) (top h.values)) z w n v)) second
    (subst (λ (x : Value). OnOk r (Executes (form x (top h.values)) k w n v)) a_is
    (subst (λ (x : Value). OnOk r (Executes (form a x) k w n v)) b_is law)))
