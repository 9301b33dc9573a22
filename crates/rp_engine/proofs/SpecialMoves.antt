-- What the machine keeps at hand while a special method is called.
use Rattle.std.proofs.Common.{◌≡◌, ◌∷◌, Result, subst, sym}
use Rattle.std.specs.Prelude.{OnOk}
use Rattle.rp_base.specs.declared.value.Value.{Value}
use Rattle.rp_frame.specs.declared.control.Control.{Control}
use Rattle.rp_frame.specs.declared.task.Task.{Task}
use Rattle.rp_meaning.specs.Frame.{Run}
use Rattle.rp_meaning.specs.State.{State}
use Rattle.rp_proxy.specs.declared.world.World.{World}
use Rattle.rp_store.specs.Kept.{IsFit}
use Rattle.rp_engine.specs.Law.{frame_in, rest_of}
use Rattle.rp_engine.specs.Rest.{after, begun, rest}
use Rattle.rp_engine.specs.declared.halt.Halt.{Halt}
use Rattle.rp_engine.specs.declared.machine.Machine.{Machine}

-- a task and a part with two more values at hand
abbrev pub WaitsTwo : Machine → Machine → Result (Unit {0}) Halt → Task → Control → Value → Value → Type 0
WaitsTwo m n r t k x y = OnOk r ((base : Run) (s : State) → rest_of base n s ≡ rest m.tasks (after t (begun (frame_in base m) k (y ∷ x ∷ m.values) m.end s)))

-- upon a value that is held
pub waits_held : (m h n : Machine) (r : Result (Unit {0}) Halt) (t : Task) (k : Control) (v x y : Value) → h ≡ record m { values = v ∷ m.values }
    → WaitsTwo h n r t k x y → WaitsTwo (record m { values = v ∷ m.values }) n r t k x y
waits_held m h n r t k v x y is law = subst (λ (h : Machine). WaitsTwo h n r t k x y) is law

-- upon two
pub waits_held_two : (m h k n : Machine) (r : Result (Unit {0}) Halt) (t : Task) (z : Control) (v u x y : Value) → h ≡ record m { values = v ∷ m.values } → k ≡ record h { values = u ∷ h.values }
    → WaitsTwo k n r t z x y → WaitsTwo (record m { values = u ∷ v ∷ m.values }) n r t z x y
waits_held_two m h k n r t z v u x y first second law =
    subst (λ (h : Machine). WaitsTwo (record h { values = u ∷ h.values }) n r t z x y) first (subst (λ (k : Machine). WaitsTwo k n r t z x y) second law)

-- code may hold the same values as before
pub fit_held : (m h : Machine) (v x : Value) (w : World) → h ≡ record m { values = v ∷ m.values } → IsFit w.store.heap m.frame.side x → IsFit w.store.heap h.frame.side x
fit_held m h v x w is fit = subst (λ (z : Machine). IsFit w.store.heap z.frame.side x) (sym is) fit
