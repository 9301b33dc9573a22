-- A store to an item of a list or a dict that was lent is not done, nor is its deletion, nor an augmented store: no
-- class of lists and dicts has a row for them (zope.security, checkers: the names that everybody may read of a built-in
-- kind).
use Rattle.std.specs.Prelude.{◌≡◌, ◌⊎◌, false, List, ℕ, codes, Some}
use Rattle.rp_base.specs.Names.{GrowsTo, first_words}
use Rattle.rp_base.specs.declared.operator.BinOp.{BinOp}
use Rattle.rp_base.specs.declared.value.ClassTag.TheVariants as tag
use Rattle.rp_base.specs.declared.value.Oid.{Oid}
use Rattle.rp_base.specs.declared.value.Value.{Value}
use Rattle.rp_base.specs.declared.value.Value.TheVariants as value
use Rattle.rp_checker.specs.RowOf.{default_names, dict_names, sequence_names}
use Rattle.rp_decl.specs.Word.{is_among}
use Rattle.rp_store.specs.Heap.{tag_at}
use Rattle.rp_meaning.specs.Access.{del_item, set_item}
use Rattle.rp_meaning.specs.Frame.{Frame}
use Rattle.rp_meaning.specs.Operators.{augment}
use Rattle.rp_meaning.specs.State.{State, heap_of}
use Rattle.rp_owner_laws.specs.Cut.{decided_frame}

-- a name that nobody may read of a list or a dict
pub record HasNoRow (word : List ℕ) : Type 0 where
  pub lists : is_among sequence_names word ≡ false
  pub dicts : is_among dict_names word ≡ false
  pub any : is_among default_names word ≡ false

-- those of storing and deleting items, and of `+=` and `*=`
abbrev pub StoringNamesHaveNoRow : Type 0
StoringNamesHaveNoRow = HasNoRow (codes "__setitem__") × HasNoRow (codes "__delitem__") × HasNoRow (codes "__iadd__")
    × HasNoRow (codes "__imul__")

-- a list or a dict stands there
abbrev pub IsListOrDict : Oid → State → Type 0
IsListOrDict at s = (tag_at (heap_of s) at ≡ Some tag.List) ⊎ (tag_at (heap_of s) at ≡ Some tag.Dict)

-- where the run's names begin with the words of operations

abbrev pub StoresNoItem : Type 0
StoresNoItem = (f : Frame) (at : Oid) (i v : Value) (s : State) → IsListOrDict at s → GrowsTo first_words s.names
    → heap_of (set_item (value.Prox at) i v (decided_frame f) s).state ≡ heap_of s

abbrev pub DeletesNoItem : Type 0
DeletesNoItem = (f : Frame) (at : Oid) (i : Value) (s : State) → IsListOrDict at s → GrowsTo first_words s.names
    → heap_of (del_item (value.Prox at) i (decided_frame f) s).state ≡ heap_of s

abbrev pub AugmentsNoList : Type 0
AugmentsNoList = (f : Frame) (op : BinOp) (at : Oid) (b : Value) (s : State) → IsListOrDict at s
    → GrowsTo first_words s.names → heap_of (augment op (value.Prox at) b (decided_frame f) s).state ≡ heap_of s
