-- What a run with the monitor and the same run without it have in common, as long as nothing is refused (zope.security, proxies): all but the log. That
-- of the run without it stays as it was.
use Rattle.std.specs.Prelude.{◌≡◌, ℕ, List}
use Rattle.rp_base.specs.declared.value.Oid.{Oid}
use Rattle.rp_tree.specs.Expressions as tree
use Rattle.rp_tree.specs.Statements as stmt_tree
use Rattle.rp_trail.specs.Entry.{Entry}
use Rattle.rp_meaning.specs.Binding.{Arguments}
use Rattle.rp_meaning.specs.Frame.{Frame, Calls, Run}
use Rattle.rp_meaning.specs.Meaning.{eval, exec, block}
use Rattle.rp_meaning.specs.Load.{module_run, trusted}
use Rattle.rp_meaning.specs.Running.{calls, program_frame}
use Rattle.rp_meaning.specs.Sessions.{World, run_all}
use Rattle.rp_meaning.specs.State.{State, Outcome}
use Rattle.rp_meaning.specs.Unmonitored.{AllAllowed, NoRefusalNoTrace, monitored, unmonitored}

-- the state with this log, and what something comes to with it
abbrev pub with_log : List Entry → State → State
with_log log s = record s { log = log }

abbrev pub logged_as : {A : Type 0} → List Entry → Outcome A → Outcome A
logged_as log o = record { answer = o.answer; state = with_log log o.state }

-- What something comes to with the monitor, where this was logged before, and without it: where nothing is refused in the end, nothing was before,
-- and both come to the same.
pub record Follows {A : Type 0} (log old : List Entry) (o p : Outcome A) : Type 0 where
  pub kept : AllAllowed o.state.log → AllAllowed old
  pub same : AllAllowed o.state.log → p ≡ logged_as log o

-- calls with the monitor and without it

abbrev pub CallsFollow : List Entry → Calls → Calls → Type 0
CallsFollow log calls others = (at : Oid) (a : Arguments) (s : State) → Follows log s.log (calls at a s) (others at a (with_log log s))

-- the frame with the monitor, and without it, where its calls are others

abbrev pub watched : Frame → Frame
watched f = record f { run = monitored f.run }

abbrev pub unwatched : Calls → Frame → Frame
unwatched others f = record f { run = unmonitored f.run; calls = others }

-- what is done in a frame comes to the same without the monitor, if the frame's calls do
abbrev pub Unseen : {A : Type 0} → (Frame → State → Outcome A) → Type 0
Unseen does = (log : List Entry) (f : Frame) (others : Calls) → CallsFollow log f.calls others → (s : State)
    → Follows log s.log (does (watched f) s) (does (unwatched others f) (with_log log s))

-- Every expression, statement and block does so, and every call of a function.

abbrev pub ExpressionsAreUnseen : Type 0
ExpressionsAreUnseen = (x : tree.Expr) → Unseen (eval x)

abbrev pub StatementsAreUnseen : Type 0
StatementsAreUnseen = (x : stmt_tree.Stmt) → Unseen (exec x)

abbrev pub BlocksAreUnseen : Type 0
BlocksAreUnseen = (b : stmt_tree.Stmts) → Unseen (block b)

abbrev pub FunctionsAreUnseen : Type 0
FunctionsAreUnseen = (run : Run) (log : List Entry) → CallsFollow log (calls (monitored run)) (calls (unmonitored run))

-- So the text of a module comes to the same world, or to none for the same cause, where nothing was refused in it.
abbrev pub ModulesAreUnseen : Type 0
ModulesAreUnseen = (run : Run) (limit : ℕ) (globals : Oid) (s : State)
    → AllAllowed (block (run.programs trusted).body (program_frame (monitored run) trusted globals) s).state.log
    → module_run (unmonitored run) limit globals s ≡ module_run (monitored run) limit globals s

-- And worlds are the same but for the log, in which nothing is refused in the end, and ends and outputs are the same.

abbrev pub WorldsAreTheSame : Type 0
WorldsAreTheSame = (run : Run) (listed : List ℕ) (w : World) → AllAllowed (run_all (monitored run) listed w).log
    → run_all (unmonitored run) listed w ≡ record (run_all (monitored run) listed w) { log = w.log }

abbrev pub RefusingNothingLeavesNoTrace : Type 0
RefusingNothingLeavesNoTrace = (run : Run) (listed : List ℕ) (w : World) → NoRefusalNoTrace run listed w
