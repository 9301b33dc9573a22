-- While code runs the trail only grows, and each entry that comes is of the session that runs and tells the verdict of the written policy on its
-- principals (zope.security, interactions: code of whichever side runs for the principals of the session that began it; checkers).
use Rattle.std.specs.Prelude.{◌≡◌, ℕ, List, ◌++◌, All}
use Rattle.rp_base.specs.declared.value.Oid.{Oid}
use Rattle.rp_base.specs.declared.value.Side.{Side}
use Rattle.rp_base.specs.declared.value.Value.{Value}
use Rattle.rp_checker.specs.RowOf.{Operation}
use Rattle.rp_decl.specs.Records.{Declarations}
use Rattle.rp_proxy.specs.Decide.{Monitor, decide}
use Rattle.rp_trail.specs.Entry.{Entry}
use Rattle.rp_tree.specs.Expressions as tree
use Rattle.rp_tree.specs.Statements as stmt_tree
use Rattle.rp_meaning.specs.Binding.{Arguments}
use Rattle.rp_meaning.specs.Frame.{Frame, Calls, Run}
use Rattle.rp_meaning.specs.Meaning.{eval, exec, block}
use Rattle.rp_meaning.specs.Running.{calls, program_frame}
use Rattle.rp_meaning.specs.State.{State, Outcome}
use Rattle.rp_entry_laws.specs.Decided.{IsDecided}

-- who runs, under which declarations, and the entries so far
pub record Trail : Type 0 where
  pub session : ℕ
  pub who : List (List ℕ)
  pub declarations : Declarations
  pub log : List Entry

abbrev pub trail_of : State → Trail
trail_of s = record { session = s.session; who = s.who; declarations = s.declarations; log = s.log }

-- an entry of the session that runs, which tells what the policy says of its principals
pub record IsOwn (t : Trail) (e : Entry) : Type 0 where
  pub session : e.session ≡ t.session
  pub decided : IsDecided t.declarations t.who e

-- the same run for, and behind the entries that there were stand such alone
pub record Grows (old new : Trail) : Type 0 where
  pub session : new.session ≡ old.session
  pub who : new.who ≡ old.who
  pub declarations : new.declarations ≡ old.declarations
  pub added : List Entry
  pub log : new.log ≡ old.log ++ added
  pub own : All (IsOwn old) added

-- the state, behind this trail
abbrev pub IsIn : Trail → State → Type 0
IsIn k s = Grows k (trail_of s)

-- what something comes to, however it ends
pub record Adds {A : Type 0} (o : Outcome A) (k : Trail) : Type 0 where
  pub trail : IsIn k o.state

-- a run in which all that passes a proxy is decided, and put into the trail
abbrev pub IsMonitored : Run → Type 0
IsMonitored run = (v : Value) (op : Operation) (m : Monitor) → run.decide v op m ≡ decide v op m

-- calls, and what is done in a frame of such a run, whose calls are such

abbrev pub CallsAdd : Trail → Calls → Type 0
CallsAdd k calls = (at : Oid) (a : Arguments) (s : State) → IsIn k s → Adds (calls at a s) k

abbrev pub IsWatched : Trail → Frame → Type 0
IsWatched k frame = IsMonitored frame.run × CallsAdd k frame.calls

abbrev pub Adding : {A : Type 0} → (Frame → State → Outcome A) → Type 0
Adding does = (k : Trail) (frame : Frame) → IsWatched k frame → (s : State) → IsIn k s → Adds (does frame s) k

-- Every expression, statement and block does, and every call of a function.

abbrev pub ExpressionsAdd : Type 0
ExpressionsAdd = (x : tree.Expr) → Adding (eval x)

abbrev pub StatementsAdd : Type 0
StatementsAdd = (x : stmt_tree.Stmt) → Adding (exec x)

abbrev pub BlocksAdd : Type 0
BlocksAdd = (b : stmt_tree.Stmts) → Adding (block b)

abbrev pub FunctionsAdd : Type 0
FunctionsAdd = (run : Run) → IsMonitored run → (k : Trail) → CallsAdd k (calls run)

-- So does a statement of a program of its own.
abbrev pub ProgramsAdd : Type 0
ProgramsAdd =
    (run : Run) → IsMonitored run → (side : Side) (globals : Oid) (x : stmt_tree.Stmt) (s : State) → Adds (exec x (program_frame run side globals) s) (trail_of s)
