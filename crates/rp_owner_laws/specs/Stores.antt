-- What one store to an attribute of an object that was lent changes, and one deletion: nothing, or one field of an
-- instance, behind an entry that allows to set that name on its class (zope.security, checkers).
use Rattle.std.specs.Prelude.{◌≡◌, List, [], ◌∷◌, ◌++◌, ◌⊎◌, Some}
use Rattle.rp_base.specs.Names.{word_of}
use Rattle.rp_base.specs.declared.value.Name.{Name}
use Rattle.rp_base.specs.declared.value.Oid.{Oid}
use Rattle.rp_base.specs.declared.value.Value.{Value}
use Rattle.rp_base.specs.declared.value.Value.TheVariants as value
use Rattle.rp_checker.specs.RowOf.{setting}
use Rattle.rp_proxy.specs.Decide.{class_at, entry_of}
use Rattle.rp_store.specs.Heap.{changed_at, content_at}
use Rattle.rp_store.specs.Object as object
use Rattle.rp_store.specs.Object.{Content}
use Rattle.rp_store.specs.Writers.{with_field, without_field}
use Rattle.rp_trail.specs.Entry.{Entry}
use Rattle.rp_meaning.specs.Access.{del_attribute, set_attribute}
use Rattle.rp_meaning.specs.Frame.{Frame}
use Rattle.rp_meaning.specs.State.{State, heap_of, monitor_of}
use Rattle.rp_meaning.specs.Unmonitored.{IsAllowed}
use Rattle.rp_owner_laws.specs.Cut.{decided_frame}

-- an instance stands there, and it alone is changed
pub record ChangesInstance (at : Oid) (change : Content → Content) (old new : State) : Type 0 where
  pub of : Oid
  pub fields : List (Name × Value)
  pub instance : content_at (heap_of old) at ≡ Some (object.instance of fields)
  pub heap : heap_of new ≡ changed_at (heap_of old) at change

-- the entry was added, and allows it
pub record IsBehind (e : Entry) (old new : State) : Type 0 where
  pub log : new.log ≡ old.log ++ e ∷ []
  pub allowed : IsAllowed e.verdict

-- no object changed, or this one behind this entry
abbrev pub ChangesBehind : Entry → Oid → (Content → Content) → State → State → Type 0
ChangesBehind e at change old new = (heap_of new ≡ heap_of old) ⊎
    (IsBehind e old new × ChangesInstance at change old new)

-- the entry of setting a name on the object at a place
abbrev pub entry_to_set : Name → Oid → State → Entry
entry_to_set n at s = entry_of (monitor_of s) (setting (word_of s.names n)) (class_at (heap_of s) at)

abbrev pub StoresOneField : Type 0
StoresOneField = (f : Frame) (at : Oid) (n : Name) (v : Value) (s : State)
    → ChangesBehind (entry_to_set n at s) at (with_field n v) s
    (set_attribute (value.Prox at) n v (decided_frame f) s).state

abbrev pub DeletesOneField : Type 0
DeletesOneField = (f : Frame) (at : Oid) (n : Name) (s : State)
    → ChangesBehind (entry_to_set n at s) at (without_field n) s
    (del_attribute (value.Prox at) n (decided_frame f) s).state
