-- What no code changes: the session that runs, its principals and the declarations; and the names keep their places (zope.security, interactions: code
-- of whichever side runs for the principals of the session that began it).
use Rattle.std.specs.Prelude.{◌≡◌, ℕ, List}
use Rattle.rp_base.specs.declared.value.Oid.{Oid}
use Rattle.rp_base.specs.declared.value.Side.{Side}
use Rattle.rp_decl.specs.Places.{GrowsTo}
use Rattle.rp_decl.specs.Records.{Declarations}
use Rattle.rp_tree.specs.Expressions as tree
use Rattle.rp_tree.specs.Statements as stmt_tree
use Rattle.rp_meaning.specs.Binding.{Arguments}
use Rattle.rp_meaning.specs.Frame.{Frame, Calls, Run}
use Rattle.rp_meaning.specs.Meaning.{eval, exec, block}
use Rattle.rp_meaning.specs.Running.{calls, program_frame}
use Rattle.rp_meaning.specs.State.{State, Outcome}

pub record Setting : Type 0 where
  pub session : ℕ
  pub who : List (List ℕ)
  pub declarations : Declarations
  pub names : List (List ℕ)

abbrev pub setting_of : State → Setting
setting_of s = record { session = s.session; who = s.who; declarations = s.declarations; names = s.names }

pub record Stays (old new : Setting) : Type 0 where
  pub session : new.session ≡ old.session
  pub who : new.who ≡ old.who
  pub declarations : new.declarations ≡ old.declarations
  pub names : GrowsTo old.names new.names

-- the state, in this setting
abbrev pub IsIn : Setting → State → Type 0
IsIn k s = Stays k (setting_of s)

-- what something comes to, however it ends
pub record Keeps {A : Type 0} (o : Outcome A) (k : Setting) : Type 0 where
  pub setting : IsIn k o.state

-- calls, and what is done in a frame whose calls are such

abbrev pub CallsKeep : Setting → Calls → Type 0
CallsKeep k calls = (at : Oid) (a : Arguments) (s : State) → IsIn k s → Keeps (calls at a s) k

abbrev pub Keeping : {A : Type 0} → (Frame → State → Outcome A) → Type 0
Keeping does = (k : Setting) (frame : Frame) → CallsKeep k frame.calls → (s : State) → IsIn k s → Keeps (does frame s) k

-- Every expression, statement and block does, and every call of a function.

abbrev pub ExpressionsKeep : Type 0
ExpressionsKeep = (x : tree.Expr) → Keeping (eval x)

abbrev pub StatementsKeep : Type 0
StatementsKeep = (x : stmt_tree.Stmt) → Keeping (exec x)

abbrev pub BlocksKeep : Type 0
BlocksKeep = (b : stmt_tree.Stmts) → Keeping (block b)

abbrev pub FunctionsKeep : Type 0
FunctionsKeep = (run : Run) (k : Setting) → CallsKeep k (calls run)

-- So does a statement of a program of its own, in any run.
abbrev pub ProgramsKeep : Type 0
ProgramsKeep = (run : Run) (side : Side) (globals : Oid) (x : stmt_tree.Stmt) (s : State) → Keeps (exec x (program_frame run side globals) s) (setting_of s)
