-- What a step of the machine does within a call: the callee and, upon it, so many arguments are at hand, and these arguments and trailers are left.
use Rattle.std.specs.Prelude.{◌≡◌, ℕ, suc, List, drop, take, reverse}
use Rattle.rp_base.specs.declared.value.Value.{Value}
use Rattle.rp_frame.specs.Top.{top}
use Rattle.rp_frame.specs.declared.task.ExprTask.{ExprTask}
use Rattle.rp_meaning.specs.Calls.{Argument}
use Rattle.rp_meaning.specs.Frame.{Frame, Meaning, Run}
use Rattle.rp_meaning.specs.State.{Outcome, State}
use Rattle.rp_proxy.specs.declared.world.World.{World}
use Rattle.rp_engine.specs.ArgumentSteps.{with_all, with_arguments, with_call}
use Rattle.rp_engine.specs.HandSteps.{held_by, size_of}
use Rattle.rp_access.specs.Calling.{IsCallLeft}
use Rattle.rp_engine.specs.Law.{frame_in, rest_of}
use Rattle.rp_access.specs.Moment.{state_of}
use Rattle.rp_engine.specs.Rest.{after_expr, gave, rest}
use Rattle.rp_engine.specs.declared.calling.Hand.{Hand}
use Rattle.rp_engine.specs.declared.machine.Machine.{Machine}

abbrev pub Calls : ℕ → List Argument → List (Value → Meaning) → Machine → World → Machine → World → Type 0
Calls n as' ts m w new v = (base : Run) → rest_of base new (state_of v) ≡ rest m.tasks (gave (frame_in base m) (drop (suc n) m.values)
    (with_arguments as' ts (top (drop n m.values)) (reverse (take n m.values)) (frame_in base m) (state_of w)))

-- the same, where some have names
abbrev pub NamedCalls : Hand → List Argument → List (Value → Meaning) → Machine → World → Machine → World → Type 0
NamedCalls h as' ts m w new v = (base : Run) → rest_of base new (state_of v) ≡ rest m.tasks (gave (frame_in base m) (drop (suc (size_of h)) m.values)
    (with_all as' ts (top (drop (size_of h) m.values)) (held_by h m.values) (frame_in base m) (state_of w)))

-- the same of a call that was left undone, once it was decided
abbrev pub AsksLeft : ℕ → List (Value → Meaning) → Machine → Machine → Type 0
AsksLeft n ts m new = (base : Run) (s t : State) → IsCallLeft (top (drop n m.values)) (reverse (take n m.values)) s t
    → rest_of base new t ≡ rest m.tasks (gave (frame_in base m) (drop (suc n) m.values)
    (with_call ts (top (drop n m.values)) (reverse (take n m.values)) (frame_in base m) s))

-- two tasks do the same with the end of the part that they wait for
abbrev pub DoesAs : ExprTask → ExprTask → Type 0
DoesAs t u = (f : Frame) (vs : List Value) (o : Outcome Value) → after_expr t f vs o ≡ after_expr u f vs o
