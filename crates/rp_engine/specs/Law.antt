-- What a step of the machine does: what it leaves to be done is what was to be done.
use Rattle.std.specs.Prelude.{◌≡◌}
use Rattle.rp_base.specs.declared.value.Value.{Value}
use Rattle.rp_frame.specs.declared.task.ExprTask.{ExprTask}
use Rattle.rp_frame.specs.declared.task.StmtTask.{StmtTask}
use Rattle.rp_frame.specs.declared.task.Task.{Task}
use Rattle.rp_ops.specs.Outcome.{gives}
use Rattle.rp_meaning.specs.Frame.{Frame, Meaning, Doing, Run}
use Rattle.rp_meaning.specs.State.{State}
use Rattle.rp_proxy.specs.declared.world.World.{World}
use Rattle.rp_engine.specs.Moment.{frame_of, run_of}
use Rattle.rp_access.specs.Moment.{state_of}
use Rattle.rp_engine.specs.Rest.{Held, gave, did, rest, begun, after, after_expr, after_stmt}
use Rattle.rp_engine.specs.declared.machine.Machine.{Machine}

-- the frame in which its code runs
abbrev pub frame_in : Run → Machine → Frame
frame_in base m = frame_of (run_of base m.units.now) m.frame

-- the end that it comes to, and the state then
abbrev pub rest_of : Run → Machine → State → Held
rest_of base m s = rest m.tasks (begun (frame_in base m) m.control m.values m.end s)

-- From a machine and a world others were made, which leave to be done what the tasks do once an expression, or a statement, has done what it means.
-- What the control was does not matter.

abbrev pub Evaluates : Meaning → Machine → World → Machine → World → Type 0
Evaluates does m w n v = (base : Run) → rest_of base n (state_of v) ≡ rest m.tasks (gave (frame_in base m) m.values (does (frame_in base m) (state_of w)))

abbrev pub Executes : Doing → Machine → World → Machine → World → Type 0
Executes does m w n v = (base : Run) → rest_of base n (state_of v) ≡ rest m.tasks (did (frame_in base m) m.values (does (frame_in base m) (state_of w)))

-- the same, in any state
abbrev pub Moves : Doing → Machine → Machine → Type 0
Moves does m n = (base : Run) (s : State) → rest_of base n s ≡ rest m.tasks (did (frame_in base m) m.values (does (frame_in base m) s))

-- they leave the same
abbrev pub Leaves : Machine → World → Machine → World → Type 0
Leaves m w n v = (base : Run) → rest_of base n (state_of v) ≡ rest_of base m (state_of w)

-- the same, where a task got the value that it waited for
abbrev pub Resumes : ExprTask → Value → Machine → World → Machine → World → Type 0
Resumes task value m w n v =
    (base : Run) → rest_of base n (state_of v) ≡ rest m.tasks (after_expr task (frame_in base m) m.values (gives value (state_of w)))

abbrev pub ResumesStmt : StmtTask → Value → Machine → World → Machine → World → Type 0
ResumesStmt task value m w n v =
    (base : Run) → rest_of base n (state_of v) ≡ rest m.tasks (after_stmt task (frame_in base m) m.values (gives value (state_of w)))

-- the same, where a task takes up the end of a statement

abbrev pub TakesUp : Task → Doing → Machine → World → Machine → World → Type 0
TakesUp task does m w n v = (base : Run) → rest_of base n (state_of v) ≡ rest m.tasks (after task (did (frame_in base m) m.values (does (frame_in base m) (state_of w))))

-- or where it takes up whatever was done last
abbrev pub Takes : Task → Machine → World → Machine → World → Type 0
Takes task m w n v =
    (base : Run) → rest_of base n (state_of v) ≡ rest m.tasks (after task (begun (frame_in base m) m.control m.values m.end (state_of w)))
