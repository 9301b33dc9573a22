-- An object to which nothing refers: no code changes it (Python Language Reference, Data model, Objects, values and
-- types: unreachable objects).
use Rattle.std.specs.Prelude.{◌≡◌, ℕ, ◌<◌, List, [], ◌∷◌, length, Option, Some, None, Result, Ok, Err}
use Rattle.rp_base.specs.declared.value.Oid.{Oid}
use Rattle.rp_base.specs.declared.value.Side.{Side}
use Rattle.rp_base.specs.declared.value.Value.{Value}
use Rattle.rp_base.specs.declared.value.Value.TheVariants as value
use Rattle.rp_ops.specs.Outcome.{End}
use Rattle.rp_store.specs.declared.object.Callee.{Callee}
use Rattle.rp_store.specs.declared.object.Callee.TheVariants as callee
use Rattle.rp_store.specs.Heap.{Owned}
use Rattle.rp_store.specs.Object as object
use Rattle.rp_store.specs.Object.{Content}
use Rattle.rp_tree.specs.Expressions as tree
use Rattle.rp_tree.specs.Statements as stmt_tree
use Rattle.rp_meaning.specs.Binding.{Arguments}
use Rattle.rp_meaning.specs.Frame.{Calls, Frame, Run}
use Rattle.rp_meaning.specs.Meaning.{block, eval, exec}
use Rattle.rp_meaning.specs.Running.{calls, frame_in}
use Rattle.rp_meaning.specs.State.{Flow, Outcome, State, heap_of, returned}
use Rattle.rp_fixed_laws.specs.Fixed.{IsAt, IsQuietRun, Placed}

abbrev pub Each : {A : Type 0} → (A → Type 0) → List A → Type 0
Each P [] = Unit {0}
Each P (x ∷ xs) = P x × Each P xs

abbrev pub OnSome : {A : Type 0} → (A → Type 0) → Option A → Type 0
OnSome P None = Unit {0}
OnSome P (Some x) = P x

-- what does not refer to the object at a place

abbrev pub IsOther : Oid → Oid → Type 0
IsOther a at = at.0 ≡ a.0 → ⊥

abbrev pub Avoids : Oid → Value → Type 0
Avoids a (value.Rock r) = Unit {0}
Avoids a (value.Ref at) = IsOther a at
Avoids a (value.Prox at) = IsOther a at

abbrev pub CalleeAvoids : Oid → Callee → Type 0
CalleeAvoids a (callee.Function at) = IsOther a at
CalleeAvoids a (callee.Native id) = Unit {0}

abbrev pub ContentAvoids : Oid → Content → Type 0
ContentAvoids a (object.list xs) = Each (Avoids a) xs
ContentAvoids a (object.tuple xs) = Each (Avoids a) xs
ContentAvoids a (object.dict es) = Each (λ e. Avoids a e.1.1) es
ContentAvoids a (object.instance of fs) = IsOther a of × Each (λ f. Avoids a f.1) fs
ContentAvoids a (object.class n declared ms) = Each (λ m. IsOther a m.1) ms
ContentAvoids a (object.function n side block within ds) = IsOther a within × Each (Avoids a) ds
ContentAvoids a (object.method v called) = Avoids a v × CalleeAvoids a called
ContentAvoids a (object.scope block parent vs) = OnSome (IsOther a) parent × Each (OnSome (Avoids a)) vs

abbrev pub HeapAvoids : Oid → List Owned → Type 0
HeapAvoids a heap = Each (λ o. ContentAvoids a o.content) heap

-- the object is there, and no object refers to it
pub record IsLeft (k : Placed) (heap : List Owned) : Type 0 where
  pub there : IsAt k heap
  pub others : HeapAvoids k.at heap

-- and it is no declared class, which code of the trusted module finds by its name
pub record IsApart (k : Placed) (s : State) : Type 0 where
  pub heap : IsLeft k (heap_of s)
  pub declared : length s.declarations.classes < k.at.0

-- what something comes to: the object is still there and nothing refers to it, and this holds of a value that is given

abbrev pub OnValue : {A : Type 0} → (A → Type 0) → Result A End → Type 0
OnValue P (Ok x) = P x
OnValue P (Err e) = Unit {0}

pub record Stays {A : Type 0} (k : Placed) (P : A → Type 0) (o : Outcome A) : Type 0 where
  pub there : IsApart k o.state
  pub gives : OnValue P o.answer

abbrev pub Nothing : {A : Type 0} → A → Type 0
Nothing a = Unit {0}

abbrev pub FlowAvoids : Oid → Flow → Type 0
FlowAvoids a (returned v) = Avoids a v
FlowAvoids a flow = Unit {0}

-- calls, whose arguments do not refer to it

pub record ArgumentsAvoid (a : Oid) (given : Arguments) : Type 0 where
  pub plain : Each (Avoids a) given.plain
  pub named : Each (λ n. Avoids a n.1) given.named

abbrev pub CallsStay : Placed → Calls → Type 0
CallsStay k calls =
    (at : Oid) (a : Arguments) (s : State) → ArgumentsAvoid k.at a → IsApart k s → Stays k (Avoids k.at) (calls at a s)

-- what is done in a frame, whose scope is another object
pub record Fit (k : Placed) (called : Calls) (run : Run) (inside : Oid) : Type 0 where
  pub calls : CallsStay k called
  pub quiet : IsQuietRun run
  pub scope : IsOther k.at inside

abbrev pub Staying : {A : Type 0} → (Placed → A → Type 0) → (Frame → State → Outcome A) → Type 0
Staying P does =
    (k : Placed) (frame : Frame) → Fit k frame.calls frame.run frame.scope → (s : State) → IsApart k s
    → Stays k (P k) (does frame s)

abbrev pub ValueAvoids : Placed → Value → Type 0
ValueAvoids k = Avoids k.at

abbrev pub LeavingAvoids : Placed → Flow → Type 0
LeavingAvoids k = FlowAvoids k.at

-- every expression, statement and block does, and every call of a function

abbrev pub ExpressionsStay : Type 0
ExpressionsStay = (x : tree.Expr) → Staying ValueAvoids (eval x)

abbrev pub StatementsStay : Type 0
StatementsStay = (x : stmt_tree.Stmt) → Staying LeavingAvoids (exec x)

abbrev pub BlocksStay : Type 0
BlocksStay = (b : stmt_tree.Stmts) → Staying LeavingAvoids (block b)

abbrev pub FunctionsStay : Type 0
FunctionsStay = (run : Run) (k : Placed) → IsQuietRun run → CallsStay k (calls run)

-- Whatever such an object is, calls of a frame leave it so, and its run changes no objects otherwise.
pub record LeavesAlone (frame : Frame) : Type 0 where
  pub calls : (k : Placed) → CallsStay k frame.calls
  pub quiet : IsQuietRun frame.run

-- so it is in each frame of a program and of its functions and comprehensions, in a quiet run
abbrev pub EachFrameLeavesAlone : Type 0
EachFrameLeavesAlone =
    (run : Run) (side : Side) (block : ℕ) (scope : Oid) → IsQuietRun run
    → LeavesAlone (frame_in run (calls run) side block scope)
