-- A statement that is cut off in any world.
use Rattle.std.proofs.Common.{◌≡◌, Result}
use Rattle.std.specs.Prelude.{OnOk}
use Rattle.rp_base.specs.declared.value.OpEnd.{OpEnd}
use Rattle.rp_meaning.specs.Frame.{Doing, Run}
use Rattle.rp_meaning.specs.State.{State, Outcome, Flow}
use Rattle.rp_proxy.specs.declared.world.World.{World}
use Rattle.rp_access.specs.Comes.{IsEnd}
use Rattle.rp_access.specs.Moment.{state_of}
use Rattle.rp_engine.specs.Law.{Executes, frame_in, rest_of}
use Rattle.rp_engine.specs.Rest.{did, rest}
use Rattle.rp_engine.specs.declared.halt.Halt.{Halt}
use Rattle.rp_engine.specs.declared.machine.Machine.{Machine}
use Rattle.rp_engine.proofs.Moves.{on_ok}

pub cut_any : (m n : Machine) (r : Result (Unit {0}) Halt) (D : Doing) (e : OpEnd) → ((base : Run) (s : State) → IsEnd e s (D (frame_in base m) s))
    → OnOk r ((base : Run) (s : State) (o : Outcome Flow) → IsEnd e s o → rest_of base n s ≡ rest m.tasks (did (frame_in base m) m.values o))
    → OnOk r ((w : World) → Executes D m w n w)
cut_any m n r D e is h = on_ok r ((base : Run) (s : State) (o : Outcome Flow) → IsEnd e s o → rest_of base n s ≡ rest m.tasks (did (frame_in base m) m.values o))
    ((w : World) → Executes D m w n w) (λ law w base. law base (state_of w) (D (frame_in base m) (state_of w)) (is base (state_of w))) h
