-- The result of a comprehension is changed by nothing but what is put into it: while the elements are evaluated, no
-- object refers to it, so that no code comes upon it (Python Language Reference, Displays for lists, sets and
-- dictionaries; Data model, Objects, values and types).
use Rattle.std.specs.Prelude.{◌≡◌, ◌<◌, ℕ, List, length}
use Rattle.rp_base.specs.declared.value.Oid.{Oid}
use Rattle.rp_base.specs.declared.value.Value.{Value}
use Rattle.rp_ops.specs.Outcome.{gives}
use Rattle.rp_ops.specs.Walk.{Cursor}
use Rattle.rp_store.specs.Kept.{IsKept}
use Rattle.rp_tree.specs.Expressions as tree
use Rattle.rp_meaning.specs.Expressions.{Clause}
use Rattle.rp_meaning.specs.Frame.{Frame}
use Rattle.rp_meaning.specs.Meaning.{clause}
use Rattle.rp_meaning.specs.State.{State, done, heap_of, stepped}
use Rattle.rp_apart_laws.specs.Apart.{LeavesAlone}
use Rattle.rp_comprehension_laws.specs.Comprehensions.{ListGathers, SetGathers}
use Rattle.rp_comprehension_laws.specs.Elements.{KeepsFrom, begins}

-- every object of the store holds what it may, and the scope and the declared classes are among them
pub record IsInOrder (frame : Frame) (s : State) : Type 0 where
  pub kept : IsKept (heap_of s)
  pub scope : frame.scope.0 < length (heap_of s)
  pub declared : length s.declarations.classes < length (heap_of s)

-- so it is where the walk over the first iterable begins
abbrev pub OpensInOrder : Clause → Frame → State → Type 0
OpensInOrder c frame s =
    (r t : State) (w : Cursor) → stepped s done ≡ done r → begins c frame r ≡ gives w t → IsInOrder frame t

abbrev pub EachListIsLeft : Type 0
EachListIsLeft =
    (block : ℕ) (x : tree.Expr) (c : tree.Clause) (cs : tree.Clauses) (frame : Frame) (s u : State) (vs : List Value)
    (at : Oid) (g : ListGathers block x c cs frame s vs at u) → LeavesAlone frame → OpensInOrder (clause c) frame s
    → KeepsFrom at g.given

abbrev pub EachSetIsLeft : Type 0
EachSetIsLeft =
    (block : ℕ) (x : tree.Expr) (c : tree.Clause) (cs : tree.Clauses) (frame : Frame) (s u : State) (vs : List Value)
    (at : Oid) (g : SetGathers block x c cs frame s vs at u) → LeavesAlone frame → OpensInOrder (clause c) frame s
    → KeepsFrom at g.given
