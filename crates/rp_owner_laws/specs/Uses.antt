-- What one use of a proxy changes of the objects that were there: none; or one field of the instance behind it, where
-- an entry allows to set that name; or what comes of a call of the object, or of a special method of it, where an entry
-- allows to read the name of that (zope.security, checkers: each use of an object of others is checked by a name).
use Rattle.std.specs.Prelude.{◌≡◌, ℕ, List, [], ◌∷◌, slice_get, Option, Some, None}
use Rattle.std.specs.Option.{option_map}
use Rattle.rp_base.specs.Names.{GrowsTo, first_words, word_of}
use Rattle.rp_base.specs.declared.native.NativeId.{NativeId}
use Rattle.rp_base.specs.declared.native.NativeId.TheVariants as native
use Rattle.rp_base.specs.declared.operator.BinOp.{BinOp}
use Rattle.rp_base.specs.declared.operator.CmpOp.{CmpOp}
use Rattle.rp_base.specs.declared.operator.UnOp.{UnOp}
use Rattle.rp_base.specs.declared.value.Name.{Name}
use Rattle.rp_base.specs.declared.value.Oid.{Oid}
use Rattle.rp_base.specs.declared.value.Side.{Side}
use Rattle.rp_base.specs.declared.value.Value.{Value}
use Rattle.rp_base.specs.declared.value.Value.TheVariants as value
use Rattle.rp_base.specs.declared.word.TheConstants.{CALL, CONTAINS, DEL_ITEM, GET_ITEM, LEN, SET_ITEM}
use Rattle.rp_checker.specs.RowOf.{reading}
use Rattle.rp_methods.specs.Methods.{method}
use Rattle.rp_native.specs.Functions.{function}
use Rattle.rp_ops.specs.Outcome as plain
use Rattle.rp_proxy.specs.Decide.{class_at, entry_of, logged}
use Rattle.rp_store.specs.Heap.{Owned}
use Rattle.rp_store.specs.Object.{Content}
use Rattle.rp_store.specs.Writers.{with_field, without_field}
use Rattle.rp_trail.specs.Entry.{Entry}
use Rattle.rp_tree.specs.declared.parts.Test.TheVariants as test
use Rattle.rp_meaning.specs.Access.{del_attribute, del_item, get_attribute, get_item, get_slice, is_within}
use Rattle.rp_meaning.specs.Access.{set_attribute, set_item}
use Rattle.rp_meaning.specs.Binding.{Arguments, only}
use Rattle.rp_meaning.specs.BuiltIn.{decided_and_applied}
use Rattle.rp_meaning.specs.Calls.{call, found_call}
use Rattle.rp_meaning.specs.Frame.{Frame}
use Rattle.rp_meaning.specs.Operators.{augment, operate, operate_unary, tested}
use Rattle.rp_meaning.specs.Special.{special}
use Rattle.rp_meaning.specs.State.{Outcome, State, heap_of, monitor_of, with_monitor}
use Rattle.rp_meaning.specs.Unmonitored.{IsAllowed}
use Rattle.rp_meaning.specs.Walks.{walk}
use Rattle.rp_fixed_laws.specs.Fixed.{AreBuiltIn}
use Rattle.rp_owner_laws.specs.Cut.{decided_frame}
use Rattle.rp_owner_laws.specs.Stores.{ChangesInstance, IsBehind, entry_to_set}

-- what code does with a proxy `p`
pub data Use : Type 0 where
  -- `p.NAME`, `p.NAME = v`, `del p.NAME`
  reads : Name → Use
  stores : Name → Value → Use
  deletes : Name → Use
  -- `p[i]`, `p[i] = v`, `del p[i]`, `p[a:b:c]`, `v in p`, and the begin of a walk over p
  reads_item : Value → Use
  stores_item : Value → Value → Use
  deletes_item : Value → Use
  reads_slice : Value → Value → Value → Use
  seeks : Value → Use
  walks : Use
  -- `p op v`, `op p`, `p op= v`, and `p < v` and its like
  operates : BinOp → Value → Use
  operates_alone : UnOp → Use
  augments : BinOp → Value → Use
  compares : CmpOp → Value → Use
  -- `p(..)`
  calls : Arguments → Use

-- what is left by such a use of the object at a place
abbrev pub left_by : Use → Oid → Frame → State → State
left_by (reads n) at f s = (get_attribute (value.Prox at) n f s).state
left_by (stores n v) at f s = (set_attribute (value.Prox at) n v f s).state
left_by (deletes n) at f s = (del_attribute (value.Prox at) n f s).state
left_by (reads_item i) at f s = (get_item (value.Prox at) i f s).state
left_by (stores_item i v) at f s = (set_item (value.Prox at) i v f s).state
left_by (deletes_item i) at f s = (del_item (value.Prox at) i f s).state
left_by (reads_slice a b c) at f s = (get_slice (value.Prox at) a b c f s).state
left_by (seeks v) at f s = (is_within v (value.Prox at) f s).state
left_by walks at f s = (walk (value.Prox at) f s).state
left_by (operates op v) at f s = (operate op (value.Prox at) v f s).state
left_by (operates_alone op) at f s = (operate_unary op (value.Prox at) f s).state
left_by (augments op v) at f s = (augment op (value.Prox at) v f s).state
left_by (compares op v) at f s = (tested (test.Order op) (value.Prox at) v f s).state
left_by (calls a) at f s = (call (value.Prox at) a f s).state

-- the field that a use sets or deletes: its name, and the change of the instance
abbrev pub Setting : Type 0
Setting = Name × (Content → Content)

abbrev pub field_of : Use → Option Setting
field_of (stores n v) = Some (n, with_field n v)
field_of (deletes n) = Some (n, without_field n)
field_of u = None

-- what a use calls: the name of that, and the call
abbrev pub Calling : Type 0
Calling = Name × (State → Outcome Value)

-- the special method of the object, called on it and on some values
abbrev pub special_call : Name → List Value → Oid → Frame → State → Option Calling
special_call n vs at f s =
    option_map (λ m. (n, f.calls m.function (only (m.of ∷ vs)))) (special (heap_of s) (value.Prox at) n)

abbrev pub call_of : Use → Oid → Frame → State → Option Calling
call_of (reads_item i) at f s = special_call GET_ITEM (i ∷ []) at f s
call_of (stores_item i v) at f s = special_call SET_ITEM (i ∷ v ∷ []) at f s
call_of (deletes_item i) at f s = special_call DEL_ITEM (i ∷ []) at f s
call_of (seeks v) at f s = special_call CONTAINS (v ∷ []) at f s
call_of (calls a) at f s = Some (CALL, λ s. found_call at (slice_get (heap_of s) at.0) a f s)
call_of u at f s = None

-- the entry of reading a name on the object at a place, and the state with an entry
abbrev pub entry_to_read : Name → Oid → State → Entry
entry_to_read n at s = entry_of (monitor_of s) (reading (word_of s.names n)) (class_at (heap_of s) at)

abbrev pub noted : State → Entry → State
noted s e = with_monitor (logged (monitor_of s) e) s

-- each object that was there is as it was
abbrev pub AllStay : List Owned → List Owned → Type 0
AllStay old new = (at : Oid) (o : Owned) → slice_get old at.0 ≡ Some o → slice_get new at.0 ≡ Some o

-- the field alone is changed, behind an entry that allows to set it
abbrev pub SetsField : Option Setting → Oid → State → State → Type 0
SetsField None at old new = ⊥
SetsField (Some c) at old new = IsBehind (entry_to_set c.0 at old) old new × ChangesInstance at c.1 old new

-- what the call changes is changed, behind an entry that allows to read its name
abbrev pub MakesCall : Option Calling → Oid → State → State → Type 0
MakesCall None at old new = ⊥
MakesCall (Some c) at old new = IsAllowed (entry_to_read c.0 at old).verdict
    × (heap_of new ≡ heap_of (c.1 (noted old (entry_to_read c.0 at old))).state)

pub data Changes (field : Option Setting) (called : Option Calling) (at : Oid) (old new : State) : Type 0 where
  all_stay : AllStay (heap_of old) (heap_of new) → Changes field called at old new
  sets_field : SetsField field at old new → Changes field called at old new
  makes_call : MakesCall called at old new → Changes field called at old new

-- Whatever code does with a proxy, where the run's names begin with the words of operations: so no list and no dict of
-- others is changed by a store to an item, by its deletion or in place.
abbrev pub EachUseIsDecided : Type 0
EachUseIsDecided = (f : Frame) (at : Oid) (u : Use) (s : State) → GrowsTo first_words s.names
    → Changes (field_of u) (call_of u at (decided_frame f) s) at s (left_by u at (decided_frame f) s)

-- So it is with `len` of a proxy, where that is decided as the reading of `__len__`, which it may call.
abbrev pub EachLengthIsDecided : Type 0
EachLengthIsDecided = (f : Frame) (at : Oid) (s : State) → AreBuiltIn f.run.natives
    → f.run.natives.needs native.Len 0 1 ≡ Some LEN
    → Changes None (special_call LEN [] at (decided_frame f) s) at s
    (decided_and_applied native.Len (value.Prox at ∷ []) (decided_frame f) s).state

-- A built-in function changes none, whatever it is given. (`getattr` and `setattr` are uses as above, and `len` of an
-- instance calls its `__len__` instead.)
abbrev pub FunctionsChangeNothing : Type 0
FunctionsChangeNothing = (names : List (List ℕ)) (side : Side) (id : NativeId) (vs : List Value) (s : plain.State)
    → AllStay s.store.heap (function names side id vs s).state.store.heap

-- each object that was there is as it was, but that at a place
abbrev pub AllStayBut : Oid → List Owned → List Owned → Type 0
AllStayBut at old new =
    (x : Oid) (o : Owned) → (x.0 ≡ at.0 → ⊥) → slice_get old x.0 ≡ Some o → slice_get new x.0 ≡ Some o

-- A built-in method changes its receiver alone, whatever it is given: so does a call of one that is bound to an object.
abbrev pub MethodsChangeTheirReceiverAlone : Type 0
MethodsChangeTheirReceiverAlone = (side : Side) (at : Oid) (id : NativeId) (vs : List Value) (s : plain.State)
    → AllStayBut at s.store.heap (method side (value.Ref at) id vs s).state.store.heap
