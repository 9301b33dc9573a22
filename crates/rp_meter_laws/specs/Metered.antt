-- What no code adds to: the steps that are left to the session. The limit of steps is this language's own
-- (docs/LANGUAGE.md, Limits): a script may take so many, and is stopped where none is left.
use Rattle.std.specs.Prelude.{◌≤◌, ℕ, List}
use Rattle.rp_base.specs.declared.native.NativeId.{NativeId}
use Rattle.rp_base.specs.declared.value.Oid.{Oid}
use Rattle.rp_base.specs.declared.value.Side.{Side}
use Rattle.rp_base.specs.declared.value.Value.{Value}
use Rattle.rp_methods.specs.Methods.{method}
use Rattle.rp_native.specs.Functions.{function}
use Rattle.rp_native.specs.Print.{print_line}
use Rattle.rp_ops.specs.Outcome as plain
use Rattle.rp_tree.specs.Expressions as tree
use Rattle.rp_tree.specs.Statements as stmt_tree
use Rattle.rp_meaning.specs.Binding.{Arguments}
use Rattle.rp_meaning.specs.Frame.{Calls, Frame, Natives, Run}
use Rattle.rp_meaning.specs.Meaning.{block, eval, exec}
use Rattle.rp_meaning.specs.Running.{calls, program_frame}
use Rattle.rp_meaning.specs.State.{Outcome, State}

-- No more are left behind what something comes to, however it ends.
pub record AddsNone {A : Type 0} (s : State) (o : Outcome A) : Type 0 where
  pub steps : o.state.plain.steps ≤ s.plain.steps

-- What is done in a run, beside code: its built-in functions and methods. Decisions have no part in this, whatever
-- decides, as they see no steps (`Monitor` of rp_proxy).

pub record PlainlyAddsNone {A : Type 0} (s : plain.State) (o : plain.Outcome A) : Type 0 where
  pub steps : o.state.steps ≤ s.steps

pub record AddNone (n : Natives) : Type 0 where
  pub functions : (names : List (List ℕ)) (side : Side) (id : NativeId) (vs : List Value) (s : plain.State)
      → PlainlyAddsNone s (n.function names side id vs s)
  pub methods : (names : List (List ℕ)) (side : Side) (v : Value) (id : NativeId) (vs : List Value) (s : plain.State)
      → PlainlyAddsNone s (n.method names side v id vs s)
  pub lines : (names : List (List ℕ)) (vs : List Value) (s : plain.State) → PlainlyAddsNone s (n.print_line names vs s)

-- those of the language are such
abbrev pub with_built_ins : Natives → Natives
with_built_ins n = record n {
  function = function;
  method = λ names side v id vs s. method side v id vs s;
  print_line = print_line;
}

abbrev pub BuiltInsAddNone : Type 0
BuiltInsAddNone = (n : Natives) → AddNone (with_built_ins n)

-- what is done in a frame whose calls add none

abbrev pub CallsAddNone : Calls → Type 0
CallsAddNone calls = (at : Oid) (a : Arguments) (s : State) → AddsNone s (calls at a s)

pub record IsMetered (frame : Frame) : Type 0 where
  pub calls : CallsAddNone frame.calls
  pub natives : AddNone frame.run.natives

abbrev pub AddingNone : {A : Type 0} → (Frame → State → Outcome A) → Type 0
AddingNone does = (frame : Frame) → IsMetered frame → (s : State) → AddsNone s (does frame s)

-- Every expression, statement and block is such, and so is every call of a function.

abbrev pub ExpressionsAddNone : Type 0
ExpressionsAddNone = (x : tree.Expr) → AddingNone (eval x)

abbrev pub StatementsAddNone : Type 0
StatementsAddNone = (x : stmt_tree.Stmt) → AddingNone (exec x)

abbrev pub BlocksAddNone : Type 0
BlocksAddNone = (b : stmt_tree.Stmts) → AddingNone (block b)

abbrev pub FunctionsAddNone : Type 0
FunctionsAddNone = (run : Run) → AddNone run.natives → CallsAddNone (calls run)

-- So is a statement of a program of its own.
abbrev pub ProgramsAddNone : Type 0
ProgramsAddNone =
    (run : Run) → AddNone run.natives → (side : Side) (globals : Oid) (x : stmt_tree.Stmt) (s : State)
    → AddsNone s (exec x (program_frame run side globals) s)
