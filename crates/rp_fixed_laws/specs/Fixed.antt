-- What no code changes: a tuple, a function and a bound method stay as they were made (Python Language Reference, Data
-- model, Objects, values and types: immutable objects).
use Rattle.std.specs.Prelude.{◌≡◌, ℕ, List, Some}
use Rattle.rp_base.specs.declared.native.NativeId.{NativeId}
use Rattle.rp_base.specs.declared.value.Oid.{Oid}
use Rattle.rp_base.specs.declared.value.Side.{Side}
use Rattle.rp_base.specs.declared.value.Value.{Value}
use Rattle.rp_checker.specs.RowOf.{Operation}
use Rattle.rp_methods.specs.Methods.{method}
use Rattle.rp_native.specs.Functions.{function}
use Rattle.rp_native.specs.Print.{print_line}
use Rattle.rp_ops.specs.Outcome as plain
use Rattle.rp_proxy.specs.Decide.{Monitor}
use Rattle.rp_store.specs.Heap.{Owned, content_at}
use Rattle.rp_store.specs.Object as object
use Rattle.rp_store.specs.Object.{Content}
use Rattle.rp_tree.specs.Expressions as tree
use Rattle.rp_tree.specs.Statements as stmt_tree
use Rattle.rp_meaning.specs.Binding.{Arguments}
use Rattle.rp_meaning.specs.Frame.{Calls, Frame, Natives, Run}
use Rattle.rp_meaning.specs.Meaning.{block, eval, exec}
use Rattle.rp_meaning.specs.Running.{calls, frame_in}
use Rattle.rp_meaning.specs.State.{Outcome, State, heap_of}
use Rattle.rp_meaning.specs.Unmonitored.{monitored, unmonitored}

abbrev pub IsFixed : Content → Type 0
IsFixed (object.tuple xs) = Unit {0}
IsFixed (object.function name unit block within defaults) = Unit {0}
IsFixed (object.method receiver called) = Unit {0}
IsFixed c = ⊥

-- an object at a place
pub record Placed : Type 0 where
  pub at : Oid
  pub content : Content

abbrev pub IsAt : Placed → List Owned → Type 0
IsAt k heap = content_at heap k.at ≡ Some k.content

-- one that does not change
pub record Fixed : Type 0 where
  pub object : Placed
  pub fixed : IsFixed object.content

-- the object is there
abbrev pub IsIn : Fixed → State → Type 0
IsIn k s = IsAt k.object (heap_of s)

-- it is there behind what something comes to, however that ends
pub record Stays {A : Type 0} (o : Outcome A) (k : Fixed) : Type 0 where
  pub there : IsIn k o.state

-- what is done in a run, beside code

-- decisions change no object
abbrev pub DecidesQuietly : Run → Type 0
DecidesQuietly run = (v : Value) (op : Operation) (m : Monitor) → (run.decide v op m).1.store.heap ≡ m.store.heap

abbrev pub BothMonitorsDecideQuietly : Type 0
BothMonitorsDecideQuietly = (run : Run) → DecidesQuietly (monitored run) × DecidesQuietly (unmonitored run)

-- its built-in functions and methods are those of the language
pub record AreBuiltIn (n : Natives) : Type 0 where
  pub functions : (names : List (List ℕ)) (side : Side) (id : NativeId) (vs : List Value) (s : plain.State)
      → n.function names side id vs s ≡ function names side id vs s
  pub methods : (names : List (List ℕ)) (side : Side) (v : Value) (id : NativeId) (vs : List Value) (s : plain.State)
      → n.method names side v id vs s ≡ method side v id vs s
  pub lines : (names : List (List ℕ)) (vs : List Value) (s : plain.State)
      → n.print_line names vs s ≡ print_line names vs s

-- a run in which nothing else changes objects
pub record IsQuietRun (run : Run) : Type 0 where
  pub decides : DecidesQuietly run
  pub natives : AreBuiltIn run.natives

-- what is done in a frame whose calls leave the object as it is

abbrev pub CallsStay : Fixed → Calls → Type 0
CallsStay k calls = (at : Oid) (a : Arguments) (s : State) → IsIn k s → Stays (calls at a s) k

pub record Steady (k : Fixed) (called : Calls) (run : Run) : Type 0 where
  pub calls : CallsStay k called
  pub quiet : IsQuietRun run

abbrev pub Staying : {A : Type 0} → (Frame → State → Outcome A) → Type 0
Staying does = (k : Fixed) (frame : Frame) → Steady k frame.calls frame.run → (s : State) → IsIn k s → Stays
    (does frame s) k

-- Every expression, statement and block does, and every call of a function.

abbrev pub ExpressionsStay : Type 0
ExpressionsStay = (x : tree.Expr) → Staying (eval x)

abbrev pub StatementsStay : Type 0
StatementsStay = (x : stmt_tree.Stmt) → Staying (exec x)

abbrev pub BlocksStay : Type 0
BlocksStay = (b : stmt_tree.Stmts) → Staying (block b)

abbrev pub FunctionsStay : Type 0
FunctionsStay = (run : Run) (k : Fixed) → IsQuietRun run → CallsStay k (calls run)

-- whatever such an object is, code of a frame leaves it as it is
abbrev pub IsSteady : Frame → Type 0
IsSteady frame = (k : Fixed) → Steady k frame.calls frame.run

-- so it is in each frame of a program and of its functions and comprehensions, in a quiet run
abbrev pub EachFrameIsSteady : Type 0
EachFrameIsSteady =
    (run : Run) (side : Side) (block : ℕ) (scope : Oid) → IsQuietRun run → IsSteady
    (frame_in run (calls run) side block scope)
