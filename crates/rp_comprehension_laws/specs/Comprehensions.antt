-- The laws of lists and sets by comprehension (Python Language Reference, Displays for lists, sets and dictionaries,
-- Set displays, Membership test operations, The for statement). A set stands for a dict of its elements, whose values
-- are None.
use Rattle.std.specs.Prelude.{◌≡◌, ℕ, true, false, List, [], ◌∷◌, Some, codes}
use Rattle.std.specs.List.{list_all, list_any}
use Rattle.rp_base.specs.declared.kind.Kind.TheVariants.{TypeError}
use Rattle.rp_base.specs.declared.value.Line.{Line}
use Rattle.rp_base.specs.declared.value.Oid.{Oid}
use Rattle.rp_base.specs.declared.value.Rock.{Rock}
use Rattle.rp_base.specs.declared.value.Value.{Value}
use Rattle.rp_base.specs.declared.value.Value.TheVariants as value
use Rattle.rp_items.specs.Items.{set_item}
use Rattle.rp_ops.specs.Outcome.{gives, on_value, raises}
use Rattle.rp_store.specs.Heap.{content_at}
use Rattle.rp_store.specs.Object as object
use Rattle.rp_store.specs.declared.key.Key.{Key}
use Rattle.rp_store.specs.Writers.{pushed}
use Rattle.rp_tree.specs.declared.parts.Test.TheVariants as test
use Rattle.rp_tree.specs.Expressions as tree
use Rattle.rp_meaning.specs.State.{State, heap_of, charged, done, plainly_done, stepped, with_change}
use Rattle.rp_meaning.specs.Frame.{Frame}
use Rattle.rp_meaning.specs.Expressions.{nil, truth}
use Rattle.rp_meaning.specs.Meaning.{clause, clauses, eval}
use Rattle.rp_meaning.specs.Operators.{tested}
use Rattle.rp_meaning.specs.Statements.{Store}
use Rattle.rp_more_laws.specs.Deciding.{DecidesProxiesAlone}
use Rattle.rp_more_laws.specs.Sets.{IsNone, IsWalked, distinct, equals, is_key}
use Rattle.rp_comprehension_laws.specs.Elements.{Gathers, KeepsFrom}

-- trees, with the number of the comprehension's code block

-- `[E for T in S ...]`
abbrev pub list_of_tree : Line → ℕ → tree.Expr → tree.Clause → tree.Clauses → tree.Expr
list_of_tree line block x c cs = tree.node line (tree.list_of block x (tree.clause c cs))

-- `{E for T in S ...}`, with its None
abbrev pub set_of_tree : Line → ℕ → tree.Expr → tree.Expr → tree.Clause → tree.Clauses → tree.Expr
set_of_tree line block x none c cs = tree.node line (tree.dict_of block x none (tree.clause c cs))

-- `y in SET`
abbrev pub within_tree : Line → tree.Expr → tree.Expr → tree.Expr
within_tree line y set = tree.node line (tree.compare y (tree.test test.Within set tree.no_tests))

-- lists

-- at the end of a list, for a cell
abbrev pub put_last : Oid → Store
put_last at v frame s = charged 1 s (λ s. done (with_change at (pushed v) s))

abbrev pub ListGathers : ℕ → tree.Expr → tree.Clause → tree.Clauses → Frame → State → List Value → Oid → State → Type 0
ListGathers block x c cs = Gathers block (eval x) (clause c) (clauses cs) (object.list []) put_last

-- a list by comprehension holds the elements that it gives
pub record IsListOf (block : ℕ) (x : tree.Expr) (c : tree.Clause) (cs : tree.Clauses) (frame : Frame) (s : State)
    (v : Value) (u : State) : Type 0 where
  pub held : List Value
  pub at : Oid
  pub result : v ≡ value.Ref at
  pub gathered : ListGathers block x c cs frame s held at u
  pub content : KeepsFrom at gathered.given → content_at (heap_of u) at ≡ Some (object.list held)

abbrev pub EachListHoldsItsElements : Type 0
EachListHoldsItsElements =
    (line : Line) (block : ℕ) (x : tree.Expr) (c : tree.Clause) (cs : tree.Clauses) (frame : Frame) (s u : State)
    (v : Value) → eval (list_of_tree line block x c cs) frame s ≡ gives v u → IsListOf block x c cs frame s v u

-- sets

-- as a key with None, for a cell where no key before it is equal; it takes the step of the None
abbrev pub put_key : Oid → Store
put_key at v frame s = stepped s (plainly_done (set_item (value.Ref at) v nil))

abbrev pub SetGathers : ℕ → tree.Expr → tree.Clause → tree.Clauses → Frame → State → List Value → Oid → State → Type 0
SetGathers block x c cs = Gathers block (eval x) (clause c) (clauses cs) (object.dict []) put_key

-- `y in {E for T in S ...}`: y and the elements were keys, and the value is whether an element equals y

pub record IsTestedIn (y : tree.Expr) (block : ℕ) (x : tree.Expr) (c : tree.Clause) (cs : tree.Clauses) (frame : Frame)
    (s : State) (v : Value) : Type 0 where
  pub sought : Value
  pub held : List Value
  pub at : Oid
  pub before : State
  pub behind : State
  pub evaluated : on_value (eval y frame s) (λ a s. stepped s (gives a)) ≡ gives sought before
  pub gathered : SetGathers block x c cs frame before held at behind
  pub keys : KeepsFrom at gathered.given → list_all is_key (sought ∷ held) ≡ true
  pub result : KeepsFrom at gathered.given → v ≡ truth (list_any (equals sought) held)

abbrev pub EachTestTellsWhetherAnElementIsEqual : Type 0
EachTestTellsWhetherAnElementIsEqual =
    (line set_line : Line) (y : tree.Expr) (block : ℕ) (x none : tree.Expr) (c : tree.Clause) (cs : tree.Clauses)
    (frame : Frame) (s u : State) (v : Value) → DecidesProxiesAlone frame.run → IsNone none
    → eval (within_tree line y (set_of_tree set_line block x none c cs)) frame s ≡ gives v u
    → IsTestedIn y block x c cs frame s v

-- a walk over `{E for T in S ...}`: its distinct elements by first occurrence

pub record IsWalkedOnce (block : ℕ) (x : tree.Expr) (c : tree.Clause) (cs : tree.Clauses) (frame : Frame) (s : State)
    (v : Value) (u : State) : Type 0 where
  pub held : List Value
  pub at : Oid
  pub result : v ≡ value.Ref at
  pub gathered : SetGathers block x c cs frame s held at u
  pub keys : KeepsFrom at gathered.given → list_all is_key held ≡ true
  pub is_walked : KeepsFrom at gathered.given → IsWalked (distinct held) at frame u

abbrev pub EachWalkGivesDistinctElements : Type 0
EachWalkGivesDistinctElements =
    (line : Line) (block : ℕ) (x none : tree.Expr) (c : tree.Clause) (cs : tree.Clauses) (frame : Frame) (s u : State)
    (v : Value) → DecidesProxiesAlone frame.run → IsNone none
    → eval (set_of_tree line block x none c cs) frame s ≡ gives v u → IsWalkedOnce block x c cs frame s v u

-- what is no key is refused

abbrev pub EachOtherElementIsRefused : Type 0
EachOtherElementIsRefused =
    (at : Oid) (es : List (Key × (Rock × Value))) (v : Value) (frame : Frame) (s u : State) → is_key v ≡ false
    → content_at (heap_of u) at ≡ Some (object.dict es) → stepped s done ≡ done u
    → put_key at v frame s ≡ raises TypeError (codes "key") u

abbrev pub EachOtherValueIsRefused : Type 0
EachOtherValueIsRefused =
    (at : Oid) (es : List (Key × (Rock × Value))) (v : Value) (frame : Frame) (s : State)
    → DecidesProxiesAlone frame.run → is_key v ≡ false → content_at (heap_of s) at ≡ Some (object.dict es)
    → tested test.Within v (value.Ref at) frame s ≡ raises TypeError (codes "key") s
