-- All code keeps objects such as they fit the programs of the run: code of any side, and the functions of whichever owner
-- that it calls (Python Language Reference, Naming and binding).
use Rattle.std.specs.Prelude.{◌≡◌, ℕ, Some}
use Rattle.rp_base.specs.declared.value.Oid.{Oid}
use Rattle.rp_base.specs.declared.value.Side.{Side}
use Rattle.rp_tree.specs.Statements as stmt_tree
use Rattle.rp_meaning.specs.Binding.{Arguments}
use Rattle.rp_meaning.specs.Frame.{Run}
use Rattle.rp_meaning.specs.Meaning.{block, exec}
use Rattle.rp_meaning.specs.Running.{calls, frame_in, program_frame}
use Rattle.rp_meaning.specs.Sessions.{statement_at}
use Rattle.rp_meaning.specs.State.{State, heap_of}
use Rattle.rp_fixed_laws.specs.Fixed.{IsQuietRun}
use Rattle.rp_fit_laws.specs.Fit.{AreFit, IsScope}
use Rattle.rp_fit_laws.specs.Programs.{IsLaidOut, StandsIn}

-- a run of such programs, in which nothing but code changes objects
pub record IsFitRun (run : Run) : Type 0 where
  pub quiet : IsQuietRun run
  pub programs : (side : Side) → IsLaidOut (run.programs side)

-- a statement that stands in a block of a program, in a scope of that block
abbrev pub StatementsKeepFit : Type 0
StatementsKeepFit = (run : Run) → IsFitRun run → (side : Side) (number : ℕ) (x : stmt_tree.Stmt)
    → StandsIn (run.programs side) number x → (scope : Oid) (s : State) → IsScope (heap_of s) side number scope
    → AreFit run.programs (heap_of s)
    → AreFit run.programs (heap_of (exec x (frame_in run (calls run) side number scope) s).state)

-- so each top-level statement of a program, and all of them
abbrev pub ProgramsKeepFit : Type 0
ProgramsKeepFit = (run : Run) → IsFitRun run → (side : Side) (i : ℕ) (x : stmt_tree.Stmt)
    → statement_at i (run.programs side).body ≡ Some x → (globals : Oid) (s : State)
    → IsScope (heap_of s) side 0 globals → AreFit run.programs (heap_of s)
    → AreFit run.programs (heap_of (exec x (program_frame run side globals) s).state)

abbrev pub WholeProgramsKeepFit : Type 0
WholeProgramsKeepFit = (run : Run) → IsFitRun run → (side : Side) (globals : Oid) (s : State)
    → IsScope (heap_of s) side 0 globals → AreFit run.programs (heap_of s)
    → AreFit run.programs (heap_of (block (run.programs side).body (program_frame run side globals) s).state)

-- a call of a function of whichever owner, with whatever arguments
abbrev pub FunctionsKeepFit : Type 0
FunctionsKeepFit = (run : Run) → IsFitRun run → (at : Oid) (a : Arguments) (s : State)
    → AreFit run.programs (heap_of s) → AreFit run.programs (heap_of (calls run at a s).state)
