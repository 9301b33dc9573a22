-- The laws of sets (Python Language Reference, Set displays, Membership test operations, The for statement). A set
-- display stands for a dict of its elements, whose values are None.
use Rattle.std.specs.Prelude.{◌≡◌, ℕ, ◌+◌, Bool, false, true, List, [], ◌∷◌, ◌++◌, length, slice_get, is_some, Option}
use Rattle.std.specs.Prelude.{Some, None, if◌then◌else◌}
use Rattle.std.specs.List.{list_all, list_any}
use Rattle.std.specs.Option.{option_map_or}
use Rattle.rp_base.specs.declared.value.Line.{Line}
use Rattle.rp_base.specs.declared.value.Oid.{Oid}
use Rattle.rp_base.specs.declared.value.Value.{Value}
use Rattle.rp_base.specs.declared.value.Value.TheVariants as value
use Rattle.rp_compare.specs.Equality.{equal, rocks_equal}
use Rattle.rp_ops.specs.Outcome as plain
use Rattle.rp_ops.specs.Outcome.{gives, on_value}
use Rattle.rp_ops.specs.Walk.{Cursor, elements, keys_from, walked}
use Rattle.rp_store.specs.Heap.{content_at}
use Rattle.rp_store.specs.Key.{key_form}
use Rattle.rp_tree.specs.declared.parts.Const.TheVariants as const
use Rattle.rp_tree.specs.declared.parts.Test.TheVariants as test
use Rattle.rp_tree.specs.Expressions as tree
use Rattle.rp_meaning.specs.State.{State, Outcome, heap_of, stepped}
use Rattle.rp_meaning.specs.Frame.{Frame}
use Rattle.rp_meaning.specs.Expressions.{truth}
use Rattle.rp_meaning.specs.Meaning.{eval}
use Rattle.rp_meaning.specs.Walks.{next_element, walk}
use Rattle.rp_more_laws.specs.Deciding.{DecidesProxiesAlone}

-- trees

abbrev pub IsNone : tree.Expr → Type 0
IsNone x = (line : Line) × (x ≡ tree.node line (tree.const const.Nil))

-- each has None as its value
abbrev pub HaveNones : tree.Pairs → Type 0
HaveNones tree.no_pairs = Unit {0}
HaveNones (tree.pair k x ps) = IsNone x × HaveNones ps

-- `{E, ...}`, where the elements are the keys of the pairs
abbrev pub set_tree : Line → tree.Pairs → tree.Expr
set_tree line ps = tree.node line (tree.dict ps)

-- `x in {E, ...}`
abbrev pub within_tree : Line → Line → tree.Expr → tree.Pairs → tree.Expr
within_tree line set_line x ps =
    tree.node line (tree.compare x (tree.test test.Within (set_tree set_line ps) tree.no_tests))

-- the values of the elements, in order; a step follows each, which is that of its None
abbrev pub element_values : tree.Pairs → Frame → State → Outcome (List Value)
element_values tree.no_pairs frame s = gives [] s
element_values (tree.pair k x ps) frame s =
    on_value (eval k frame s) (λ v s. stepped s (λ s. on_value (element_values ps frame s) (λ vs s. gives (v ∷ vs) s)))

-- the same behind the step of the display
abbrev pub set_values : tree.Pairs → Frame → State → Outcome (List Value)
set_values ps frame s = stepped s (element_values ps frame)

-- the value of x, and behind the step of the test those of the elements
abbrev pub operand_values : tree.Expr → tree.Pairs → Frame → State → Outcome (Value × List Value)
operand_values x ps frame s =
    on_value (eval x frame s) (λ a s. stepped s (λ s. on_value (set_values ps frame s) (λ vs s. gives (a, vs) s)))

-- keys

-- None, a number, a truth value or a text
abbrev pub is_key : Value → Bool
is_key (value.Rock r) = is_some (key_form r)
is_key v = false

-- keys are equal
abbrev pub equals : Value → Value → Bool
equals (value.Rock q) (value.Rock r) = rocks_equal q r
equals v w = false

-- this is what `==` tells of them, which takes no step
abbrev pub EqualKeysAreEqual : Type 0
EqualKeysAreEqual =
    (depth : ℕ) (v w : Value) (s : plain.State) → is_key v ≡ true → equal depth v w s ≡ gives (equals v w) s

-- those that equal none before them, where these stood before
abbrev pub distinct_behind : List Value → List Value → List Value
distinct_behind before [] = []
distinct_behind before (v ∷ vs) =
    if list_any (equals v) before then distinct_behind before vs else v ∷ distinct_behind (before ++ v ∷ []) vs

-- each by its first occurrence
abbrev pub distinct : List Value → List Value
distinct vs = distinct_behind [] vs

-- `x in {E, ...}`: x and the elements were keys, and the value is whether an element equals x

pub record IsTested (x : tree.Expr) (ps : tree.Pairs) (frame : Frame) (s : State) (v : Value) : Type 0 where
  pub sought : Value
  pub held : List Value
  pub behind : State
  pub evaluated : operand_values x ps frame s ≡ gives (sought, held) behind
  pub keys : list_all is_key (sought ∷ held) ≡ true
  pub result : v ≡ truth (list_any (equals sought) held)

abbrev pub EachTestTellsWhetherAnElementIsEqual : Type 0
EachTestTellsWhetherAnElementIsEqual =
    (line set_line : Line) (x : tree.Expr) (ps : tree.Pairs) (frame : Frame) (s u : State) (v : Value)
    → DecidesProxiesAlone frame.run → HaveNones ps
    → eval (within_tree line set_line x ps) frame s ≡ gives v u → IsTested x ps frame s v

-- a walk over `{E, ...}`: its distinct elements by first occurrence

-- the i-th of some values, for a step, and where a walk over the dict at a place then stands; none behind the last
abbrev pub turn : List Value → Oid → ℕ → State → Outcome (Option (Value × Cursor))
turn vs at i s =
    option_map_or (λ v. stepped s (gives (Some (v, keys_from at (i + 1) (length vs))))) (slice_get vs i) (gives None s)

-- A walk over the object at a place gives these values in turn, for as long as the object stays as it is in a state;
-- what asks for all of them at once gets them too.
pub record IsWalked (vs : List Value) (at : Oid) (frame : Frame) (s : State) : Type 0 where
  pub begun : walk (value.Ref at) frame s ≡ gives (keys_from at 0 (length vs)) s
  pub next : (i : ℕ) (u : State) → content_at (heap_of u) at ≡ content_at (heap_of s) at
      → next_element frame (keys_from at i (length vs)) u ≡ turn vs at i u
  pub all : elements (value.Ref at) s.plain ≡ walked vs s.plain

pub record IsWalkedOnce (ps : tree.Pairs) (frame : Frame) (s : State) (v : Value) (u : State) : Type 0 where
  pub held : List Value
  pub behind : State
  pub evaluated : set_values ps frame s ≡ gives held behind
  pub keys : list_all is_key held ≡ true
  pub at : Oid
  pub result : v ≡ value.Ref at
  pub is_walked : IsWalked (distinct held) at frame u

abbrev pub EachWalkGivesDistinctElements : Type 0
EachWalkGivesDistinctElements =
    (line : Line) (ps : tree.Pairs) (frame : Frame) (s u : State) (v : Value) → DecidesProxiesAlone frame.run → HaveNones ps
    → eval (set_tree line ps) frame s ≡ gives v u → IsWalkedOnce ps frame s v u
