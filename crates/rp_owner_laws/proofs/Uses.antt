-- What one use of a proxy changes.
use Rattle.std.proofs.Common.{◌≡◌, refl, sym, ap, subst, ◌∙◌, inl, inr, ℕ, zero, suc, ◌+◌, ◌≤◌, arith, Bool, true}
use Rattle.std.proofs.Common.{false, if◌then◌else◌, List, [], ◌∷◌, ◌++◌, length, slice_get, Option, Some, None, Result}
use Rattle.std.proofs.Common.{Ok, Err}
use Rattle.std.specs.Prelude.{nat_lt}
use Rattle.std.specs.Map.{lookup}
use Rattle.std.specs.Option.{option_map, option_map_or}
use Rattle.rp_attributes.specs.Attributes as attributes
use Rattle.rp_base.specs.Names.{word_of}
use Rattle.rp_base.specs.declared.native.NativeId.TheVariants as native
use Rattle.rp_base.specs.declared.operator.BinOp.{BinOp}
use Rattle.rp_base.specs.declared.value.Name.{Name}
use Rattle.rp_base.specs.declared.value.Oid.{Oid}
use Rattle.rp_base.specs.declared.value.Raised.{Raised}
use Rattle.rp_base.specs.declared.value.Side.{Side}
use Rattle.rp_base.specs.declared.value.Value.{Value}
use Rattle.rp_base.specs.declared.value.Value.TheVariants as value
use Rattle.rp_base.specs.declared.word.TheConstants.{CALL, CONTAINS, DEL_ITEM, GET_ITEM, ITER, LEN, SET_ITEM}
use Rattle.rp_compare.specs.Membership as membership
use Rattle.rp_compare.specs.Order as order
use Rattle.rp_items.specs.Items as items
use Rattle.rp_items.specs.Slices as slices
use Rattle.rp_native.specs.Functions.{function}
use Rattle.rp_ops.specs.Binary as binary
use Rattle.rp_ops.specs.Inplace as inplace
use Rattle.rp_ops.specs.Keys.{index_number}
use Rattle.rp_ops.specs.Operand.{lent, truth_of}
use Rattle.rp_ops.specs.Outcome as plain
use Rattle.rp_ops.specs.Outcome.{End, ends, gives, no_cell, on_answer, on_found, on_value}
use Rattle.rp_ops.specs.Walk.{walk_of}
use Rattle.rp_store.specs.Cost.{cost}
use Rattle.rp_store.specs.Heap.{Owned, content_at, tag_in}
use Rattle.rp_store.specs.Object as object
use Rattle.rp_store.specs.Object.{Content}
use Rattle.rp_store.specs.Parts.{fields}
use Rattle.rp_store.specs.Key.{same_name}
use Rattle.rp_store.specs.Store.{made}
use Rattle.rp_store.specs.Writers.{with_field, without_field}
use Rattle.rp_store.specs.declared.object.Callee.{Callee}
use Rattle.rp_trail.specs.Entry.{Entry, Verdict, allowed, denied, forbidden}
use Rattle.rp_meaning.specs.Access.{called}
use Rattle.rp_meaning.specs.Binding.{only}
use Rattle.rp_meaning.specs.BuiltIn.{applied, given, length_given, length_of}
use Rattle.rp_meaning.specs.Calls.{found_call}
use Rattle.rp_meaning.specs.Frame.{Frame, asked_for, asked_if, decided, got, takes}
use Rattle.rp_meaning.specs.Operators.{augmented_name, comparison_name, in_place_name, left_name, mirrored, right_name}
use Rattle.rp_meaning.specs.Operators.{unary_name}
use Rattle.rp_meaning.specs.Special.{Special, on_special, special}
use Rattle.rp_meaning.specs.State.{Outcome, State, done, heap_of, monitor_of, plainly, plainly_done}
use Rattle.rp_meaning.specs.Unmonitored.{IsAllowed}
use Rattle.rp_apart_laws.specs.Apart.{Each}
use Rattle.rp_owner_laws.specs.Cut.{decided_frame}
use Rattle.rp_owner_laws.specs.Items.{HasNoRow, IsListOrDict}
use Rattle.rp_owner_laws.specs.Kept.{Fits, own}
use Rattle.rp_owner_laws.specs.Stores.{ChangesBehind, IsBehind, entry_to_set}
use Rattle.rp_owner_laws.specs.Uses.{AllStay, Calling, Changes, EachLengthIsDecided, EachUseIsDecided}
use Rattle.rp_owner_laws.specs.Uses.{FunctionsChangeNothing, all_stay, special_call}
use Rattle.rp_owner_laws.specs.Uses.{augments, call_of}
use Rattle.rp_owner_laws.specs.Uses.{calls, compares, deletes, deletes_item, entry_to_read, makes_call, noted, operates}
use Rattle.rp_owner_laws.specs.Uses.{operates_alone, reads, reads_item, reads_slice, seeks, sets_field, stores}
use Rattle.rp_owner_laws.specs.Uses.{stores_item, walks}
use Rattle.rp_owner_laws.proofs.CutGoing.{entry_as}
use Rattle.rp_owner_laws.proofs.Items.{del_no_row, forbidden_at, in_place_no_row, set_no_row}
use Rattle.rp_owner_laws.proofs.Keeping.{plain_keeper}
use Rattle.rp_keeper_laws.proofs.BuiltIns.{function_done}
use Rattle.rp_keeper_laws.proofs.Forms.{by_number}
use Rattle.rp_keeper_laws.proofs.Natives.{function_leaves}
use Rattle.rp_keeper_laws.proofs.Objects.{item, slice}
use Rattle.rp_keeper_laws.proofs.Operations.{binary_leaves, compare, contains}
use Rattle.rp_owner_laws.proofs.Owners.{decided_as, others_from, others_stay}
use Rattle.rp_keeper_laws.specs.PlainKeepers.{PlainKeeper}
use Rattle.rp_keeper_laws.proofs.Plainly.{Leaves, There}
use Rattle.rp_owner_laws.proofs.Stores.{deletes_one_field, stores_one_field}

-- ---- objects that stay

itself : (heap : List Owned) → AllStay heap heap
itself heap at o e = e

equal_heaps : (old new : List Owned) → new ≡ old → AllStay old new
equal_heaps old new e at o g = subst (λ (heap : List Owned). slice_get heap at.0 ≡ Some o) (sym e) g

append_stays : (xs ys : List Owned) (i : ℕ) (o : Owned) → slice_get xs i ≡ Some o → slice_get (xs ++ ys) i ≡ Some o
append_stays [] ys i o e = absurd (cc)
append_stays (x ∷ xs) ys zero o e = e
append_stays (x ∷ xs) ys (suc i) o e = append_stays xs ys i o e

-- ---- a side that owns nothing: what is kept for it is kept of all objects

abbrev above : List Owned → ℕ
above [] = 0
above (o ∷ os) = o.owner.0 + above os

unowned : (n : ℕ) (old os : List Owned) → above os ≤ n
    → Each (λ (o : Owned). o.owner.0 ≡ suc n → Fits (own n old) o.content) os
unowned n old [] h = tt
unowned n old (o ∷ os) h =
    let first : o.owner.0 + above os ≤ n = h in
    (λ (e : o.owner.0 ≡ suc n). absurd (omega arith), unowned n old os (omega arith))

not_owned : (n : ℕ) (os : List Owned) (i : ℕ) (x : Owned) → above os ≤ n → slice_get os i ≡ Some x
    → x.owner.0 ≡ suc n → ⊥
not_owned n [] i x h e p = absurd (cc)
not_owned n (o ∷ os) zero x h e p =
    let first : o.owner.0 + above os ≤ n = h in
    let f : o ≡ x = cc in
    let g : o.owner.0 ≡ x.owner.0 = ap (λ (o : Owned). o.owner.0) f in
    absurd (omega arith)
not_owned n (o ∷ os) (suc i) x h e p =
    let first : o.owner.0 + above os ≤ n = h in
    not_owned n os i x (omega arith) e p

abbrev Stays : {A : Type 0} → plain.State → plain.Outcome A → Type 0
Stays s o = AllStay s.store.heap o.state.store.heap

-- what is kept for every keeper changes no object that was there
stays : {A : Type 0} (o : plain.Outcome A) (s : plain.State) → ((k : PlainKeeper) → There k s → Leaves k o) → Stays s o
stays o s leaves at x e =
    let heap : List Owned = s.store.heap in
    let n : ℕ = above heap in
    others_stay n heap o.state.store.heap
    (leaves (plain_keeper (own n heap)) (others_from n heap heap (unowned n heap heap (omega arith)))).there at x e
    (not_owned n heap at.0 x (omega arith) e)

-- ---- what goes on with a value

answered : {A B : Type 0} (old : List Owned) (o : plain.Outcome A) (go : A → plain.State → plain.Outcome B)
    → AllStay old o.state.store.heap
    → ((a : A) (t : plain.State) → AllStay old t.store.heap → AllStay old (go a t).state.store.heap)
    → AllStay old (on_value o go).state.store.heap
answered {A} {B} old o go h more = by o.answer
  where
    by : (answer : Result A End) → AllStay old (on_answer answer o.state go).state.store.heap
    by (Ok a) = more a o.state h
    by (Err e) = h

gone_on : {A B : Type 0} (old : List Owned) (o : Outcome A) (go : A → State → Outcome B) → AllStay old (heap_of o.state)
    → ((a : A) (t : State) → AllStay old (heap_of t) → AllStay old (heap_of (go a t).state))
    → AllStay old (heap_of (on_value o go).state)
gone_on {A} {B} old o go h more = by o.answer
  where
    by : (answer : Result A End) → AllStay old (heap_of (on_answer answer o.state go).state)
    by (Ok a) = more a o.state h
    by (Err e) = h

-- what changes no object behind a value
same_heap : {A B : Type 0} (o : Outcome A) (go : A → State → Outcome B)
    → ((a : A) (t : State) → heap_of (go a t).state ≡ heap_of t)
    → heap_of (on_value o go).state ≡ heap_of o.state
same_heap {A} {B} o go more = by o.answer
  where
    by : (answer : Result A End) → heap_of (on_answer answer o.state go).state ≡ heap_of o.state
    by (Ok a) = more a o.state
    by (Err e) = refl

-- what is found changes no object
found_same : {A : Type 0} (r : Result A Raised) (s : State) → AllStay (heap_of s) (heap_of (on_found r s gives).state)
found_same {A} r s = by r
  where
    by : (r : Result A Raised) → AllStay (heap_of s) (heap_of (on_found r s gives).state)
    by (Ok a) = itself (heap_of s)
    by (Err e) = itself (heap_of s)

-- ---- what is read

object_made : (side : Side) (c : Content) (s : plain.State) → Stays s (binary.new_object side c s)
object_made side c s = by (nat_lt s.store.limit (s.store.used + cost c))
  where
    placed : Oid
    placed = record { 0 = length s.store.heap }

    by : (b : Bool) → Stays s (on_value (if b then ends no_cell s
        else gives placed (record s { store = made s.store side c })) (λ at s. gives (value.Ref at) s))
    by true = itself s.store.heap
    by false = λ at o e. append_stays s.store.heap (record { owner = side; content = c } ∷ []) at.0 o e

field_or_method : (owner : Side) (at : Oid) (field : Option Value) (called : Option Callee) (word : List ℕ)
    (s : plain.State) → Stays s (attributes.field_or_method owner at field called word s)
field_or_method owner at (Some v) called word s = itself s.store.heap
field_or_method owner at None (Some called) word s = object_made owner (object.method (value.Ref at) called) s
field_or_method owner at None None word s = itself s.store.heap

attribute_at : (at : Oid) (n : Name) (word : List ℕ) (s : plain.State)
    → Stays s (attributes.attribute_at at n word s)
attribute_at at n word s = by (slice_get s.store.heap at.0)
  where
    by : (o : Option Owned) → Stays s (option_map_or (λ (o : Owned). attributes.object_attribute at o n word s) o
        (attributes.no_attribute word s))
    by None = itself s.store.heap
    by (Some o) = field_or_method o.owner at (lookup (same_name n) (fields o.content))
        (attributes.method_of o.content n word s) word s

attribute_read : (side : Side) (at : Oid) (n : Name) (word : List ℕ) (s : plain.State)
    → Stays s (attributes.attribute side (value.Prox at) n word s)
attribute_read side at n word s = answered s.store.heap (attributes.attribute_at at n word s)
    (λ v s. gives (lent v) s) (attribute_at at n word s) (λ v t h. h)

-- ---- decisions

decided_by : {A : Type 0} (P : State → Type 0) (s : State) (full : Bool) (session : ℕ) (word class name : List ℕ)
    (verdict : Verdict) (go : State → Outcome A) → ((t : State) → heap_of t ≡ heap_of s → P t)
    → (IsAllowed verdict → P (go (noted s (entry_as session word class name verdict))).state)
    → P (decided (decided_as full (monitor_of s) (entry_as session word class name verdict)) s go).state
decided_by P s true session word class name verdict go refused more = refused _ refl
decided_by P s false session word class name (denied permission) go refused more = refused _ refl
decided_by P s false session word class name forbidden go refused more = refused _ refl
decided_by P s false session word class name (allowed permission) go refused more = more tt

asked_by : {A : Type 0} (P : State → Type 0) (f : Frame) (n : Name) (at : Oid) (s : State) (go : State → Outcome A)
    → ((t : State) → heap_of t ≡ heap_of s → P t)
    → (IsAllowed (entry_to_read n at s).verdict → P (go (noted s (entry_to_read n at s))).state)
    → P (asked_for (decided_frame f) n (value.Prox at) s go).state
asked_by P f n at s go refused more =
    let e : Entry = entry_to_read n at s in
    decided_by P s (nat_lt s.plain.store.limit (s.plain.store.used + 1)) e.session e.op e.class e.name e.verdict go
    refused more

-- of any value
asked_stays : {A : Type 0} (f : Frame) (n : Name) (v : Value) (s : State) (go : State → Outcome A)
    → ((t : State) → heap_of t ≡ heap_of s → AllStay (heap_of s) (heap_of (go t).state))
    → AllStay (heap_of s) (heap_of (asked_for (decided_frame f) n v s go).state)
asked_stays f n (value.Rock r) s go more = more _ refl
asked_stays f n (value.Ref at) s go more = more _ refl
asked_stays f n (value.Prox at) s go more = asked_by (λ (t : State). AllStay (heap_of s) (heap_of t)) f n at s go
    (λ t e. equal_heaps (heap_of s) (heap_of t) e) (λ h. more (noted s (entry_to_read n at s)) refl)

-- from a state with the same objects
stays_from : (old same new : List Owned) → same ≡ old → AllStay same new → AllStay old new
stays_from old same new e h = subst (λ (heap : List Owned). AllStay heap new) e h

-- ---- special methods

by_special : {A : Type 0} (n : Name) (vs : List Value) (at : Oid) (f : Frame) (s : State)
    (call : Special → State → Outcome A) (otherwise : State → Outcome A) → IsAllowed (entry_to_read n at s).verdict
    → ((m : Special) (t : State)
    → heap_of (call m t).state ≡ heap_of (f.calls m.function (only (m.of ∷ vs)) t).state)
    → AllStay (heap_of s) (heap_of (otherwise (noted s (entry_to_read n at s))).state) → (x : Option Special)
    → Changes None (option_map (λ (m : Special). (n, f.calls m.function (only (m.of ∷ vs)))) x) at s
    (on_special x call otherwise (noted s (entry_to_read n at s))).state
by_special n vs at f s call otherwise allows same rest (Some m) =
    makes_call (allows, same m (noted s (entry_to_read n at s)))
by_special n vs at f s call otherwise allows same rest None = all_stay rest

-- behind what changes no object
carried : (called : Option Calling) (at : Oid) (s t u : State) → heap_of u ≡ heap_of t → Changes None called at s t
    → Changes None called at s u
carried called at s t u e (all_stay h) = all_stay
    (λ x o g. subst (λ (heap : List Owned). slice_get heap x.0 ≡ Some o) (sym e) (h x o g))
carried called at s t u e (sets_field h) = absurd h
carried None at s t u e (makes_call h) = absurd h
carried (Some c) at s t u e (makes_call h) = makes_call (h.0, e ∙ h.1)

-- ---- what has no row

refused_to : (n : Name) (at : Oid) (s : State) → HasNoRow (word_of s.names n) → IsListOrDict at s
    → IsAllowed (entry_to_read n at s).verdict → ⊥
refused_to n at s h c a = subst IsAllowed (forbidden_at at s (word_of s.names n) c h) a

is_list : (at : Oid) (s : State) (xs : List Value) → content_at (heap_of s) at ≡ Some (object.list xs)
    → IsListOrDict at s
is_list at s xs e = inl (ap (option_map (tag_in (heap_of s))) e)

is_dict : (at : Oid) (s : State) (es : object.Entries) → content_at (heap_of s) at ≡ Some (object.dict es)
    → IsListOrDict at s
is_dict at s es e = inr (ap (option_map (tag_in (heap_of s))) e)

item_set : (at : Oid) (i v : Value) (s t : State) → heap_of t ≡ heap_of s → (IsListOrDict at s → ⊥)
    → AllStay (heap_of s) (heap_of (plainly_done (items.set_item (value.Prox at) i v) t).state)
item_set at i v s t q not = by (content_at (heap_of t) at) refl
  where
    by : (c : Option Content) → content_at (heap_of t) at ≡ c
        → AllStay (heap_of s) (heap_of (plainly_done (λ p. option_map_or (λ c. items.content_set at c i v p) c
        (items.no_items p)) t).state)
    by None e = equal_heaps (heap_of s) (heap_of t) q
    by (Some (object.list xs)) e = absurd (not (is_list at s xs (subst
        (λ (heap : List Owned). content_at heap at ≡ Some (object.list xs)) q e)))
    by (Some (object.dict es)) e = absurd (not (is_dict at s es (subst
        (λ (heap : List Owned). content_at heap at ≡ Some (object.dict es)) q e)))
    by (Some c) e = equal_heaps (heap_of s) (heap_of t) q

item_deleted : (at : Oid) (i : Value) (s t : State) → heap_of t ≡ heap_of s → (IsListOrDict at s → ⊥)
    → AllStay (heap_of s) (heap_of (plainly_done (items.del_item (value.Prox at) i) t).state)
item_deleted at i s t q not = by (content_at (heap_of t) at) refl
  where
    by : (c : Option Content) → content_at (heap_of t) at ≡ c
        → AllStay (heap_of s) (heap_of (plainly_done (λ p. option_map_or (λ c. items.content_del at c i p) c
        (items.no_items p)) t).state)
    by None e = equal_heaps (heap_of s) (heap_of t) q
    by (Some (object.list xs)) e = absurd (not (is_list at s xs (subst
        (λ (heap : List Owned). content_at heap at ≡ Some (object.list xs)) q e)))
    by (Some (object.dict es)) e = absurd (not (is_dict at s es (subst
        (λ (heap : List Owned). content_at heap at ≡ Some (object.dict es)) q e)))
    by (Some c) e = equal_heaps (heap_of s) (heap_of t) q

binary_stays : (side : Side) (op : BinOp) (a b : Value) (p : plain.State) → Stays p (binary.binary side op a b p)
binary_stays side op a b p = stays (binary.binary side op a b p) p (λ k h. binary_leaves {k = k} side op a b p h)

inplace_stays : (side : Side) (op : BinOp) (at : Oid) (b : Value) (p : plain.State)
    → ((xs : List Value) → content_at p.store.heap at ≡ Some (object.list xs) → ⊥)
    → Stays p (inplace.inplace side op (value.Prox at) b p)
inplace_stays side op at b p not = by (content_at p.store.heap at) refl
  where
    by : (c : Option Content) → content_at p.store.heap at ≡ c
        → Stays p (option_map_or (λ (c : Content). inplace.content_inplace side op (value.Prox at) at c b p) c
        (binary.binary side op (value.Prox at) b p))
    by None e = binary_stays side op (value.Prox at) b p
    by (Some (object.list xs)) e = absurd (not xs e)
    by (Some c) e = binary_stays side op (value.Prox at) b p

-- ---- each use

from_stores : (s new : State) (e : Entry) (at : Oid) (n : Name) (change : Content → Content) (called : Option Calling)
    → e ≡ entry_to_set n at s → ChangesBehind e at change s new → Changes (Some (n, change)) called at s new
from_stores s new e at n change called q (inl h) = all_stay (equal_heaps (heap_of s) (heap_of new) h)
from_stores s new e at n change called q (inr h) =
    sets_field (subst (λ (e : Entry). IsBehind e s new) q h.0, h.1)

pub each_use_is_decided : EachUseIsDecided
each_use_is_decided f at (reads n) s g =
    asked_by (λ (t : State). Changes None None at s t) f n at s
    (λ s. on_value (plainly (attributes.attribute f.side (value.Prox at) n (word_of s.names n)) s)
    (λ v s. got (value.Prox at) v (decided_frame f) s))
    (λ t e. all_stay (equal_heaps (heap_of s) (heap_of t) e))
    (λ h. let t : State = noted s (entry_to_read n at s) in
    all_stay (gone_on (heap_of s) (plainly (attributes.attribute f.side (value.Prox at) n (word_of t.names n)) t)
    (λ v s. got (value.Prox at) v (decided_frame f) s)
    (attribute_read f.side at n (word_of t.names n) t.plain) (λ v t h. h)))
each_use_is_decided f at (stores n v) s g =
    from_stores s _ _ at n (with_field n v) None refl (stores_one_field f at n v s)
each_use_is_decided f at (deletes n) s g =
    from_stores s _ _ at n (without_field n) None refl (deletes_one_field f at n s)
each_use_is_decided f at (reads_item i) s g =
    asked_by (λ (t : State). Changes None (call_of (reads_item i) at (decided_frame f) s) at s t) f GET_ITEM at s
    (λ s. on_value (on_special (special (heap_of s) (value.Prox at) GET_ITEM)
    (λ m. f.calls m.function (only (m.of ∷ i ∷ []))) (plainly (items.item (value.Prox at) i)) s)
    (λ v s. got (value.Prox at) v (decided_frame f) s))
    (λ t e. all_stay (equal_heaps (heap_of s) (heap_of t) e))
    (λ h. let t : State = noted s (entry_to_read GET_ITEM at s) in
    carried (call_of (reads_item i) at (decided_frame f) s) at s
    (on_special (special (heap_of s) (value.Prox at) GET_ITEM)
    (λ m. f.calls m.function (only (m.of ∷ i ∷ []))) (plainly (items.item (value.Prox at) i)) t).state _
    (same_heap (on_special (special (heap_of s) (value.Prox at) GET_ITEM)
    (λ m. f.calls m.function (only (m.of ∷ i ∷ []))) (plainly (items.item (value.Prox at) i)) t)
    (λ v s. got (value.Prox at) v (decided_frame f) s) (λ v t. refl))
    (by_special GET_ITEM (i ∷ []) at (decided_frame f) s (λ m. f.calls m.function (only (m.of ∷ i ∷ [])))
    (plainly (items.item (value.Prox at) i)) h (λ m t. refl)
    (stays (items.item (value.Prox at) i t.plain) t.plain (λ k h. item {k = k} (value.Prox at) i t.plain h))
    (special (heap_of s) (value.Prox at) GET_ITEM)))
each_use_is_decided f at (stores_item i v) s g =
    asked_by (λ (t : State). Changes None (call_of (stores_item i v) at (decided_frame f) s) at s t) f SET_ITEM at s
    (λ s. on_special (special (heap_of s) (value.Prox at) SET_ITEM)
    (λ m s. called (f.calls m.function (only (m.of ∷ i ∷ v ∷ [])) s))
    (plainly_done (items.set_item (value.Prox at) i v)) s)
    (λ t e. all_stay (equal_heaps (heap_of s) (heap_of t) e))
    (λ h. by_special SET_ITEM (i ∷ v ∷ []) at (decided_frame f) s
    (λ m s. called (f.calls m.function (only (m.of ∷ i ∷ v ∷ [])) s))
    (plainly_done (items.set_item (value.Prox at) i v)) h
    (λ m t. same_heap (f.calls m.function (only (m.of ∷ i ∷ v ∷ [])) t) (λ v s. done s) (λ v t. refl))
    (item_set at i v s (noted s (entry_to_read SET_ITEM at s)) refl
    (λ c. refused_to SET_ITEM at s (set_no_row s g) c h))
    (special (heap_of s) (value.Prox at) SET_ITEM))
each_use_is_decided f at (deletes_item i) s g =
    asked_by (λ (t : State). Changes None (call_of (deletes_item i) at (decided_frame f) s) at s t) f DEL_ITEM at s
    (λ s. on_special (special (heap_of s) (value.Prox at) DEL_ITEM)
    (λ m s. called (f.calls m.function (only (m.of ∷ i ∷ [])) s))
    (plainly_done (items.del_item (value.Prox at) i)) s)
    (λ t e. all_stay (equal_heaps (heap_of s) (heap_of t) e))
    (λ h. by_special DEL_ITEM (i ∷ []) at (decided_frame f) s
    (λ m s. called (f.calls m.function (only (m.of ∷ i ∷ [])) s))
    (plainly_done (items.del_item (value.Prox at) i)) h
    (λ m t. same_heap (f.calls m.function (only (m.of ∷ i ∷ [])) t) (λ v s. done s) (λ v t. refl))
    (item_deleted at i s (noted s (entry_to_read DEL_ITEM at s)) refl
    (λ c. refused_to DEL_ITEM at s (del_no_row s g) c h))
    (special (heap_of s) (value.Prox at) DEL_ITEM))
each_use_is_decided f at (reads_slice a b c) s g = all_stay (asked_stays f GET_ITEM (value.Prox at) s
    (λ s. on_value (plainly (slices.slice (value.Prox at) a b c) s)
    (λ v s. got (value.Prox at) v (decided_frame f) s))
    (λ t q. stays_from (heap_of s) (heap_of t) _ q (gone_on (heap_of t) (plainly (slices.slice (value.Prox at) a b c) t)
    (λ v s. got (value.Prox at) v (decided_frame f) s)
    (stays (slices.slice (value.Prox at) a b c t.plain) t.plain
    (λ k h. slice {k = k} (value.Prox at) a b c t.plain h)) (λ v t h. h))))
each_use_is_decided f at (seeks v) s g =
    asked_by (λ (t : State). Changes None (call_of (seeks v) at (decided_frame f) s) at s t) f CONTAINS at s
    (λ s. on_special (special (heap_of s) (value.Prox at) CONTAINS)
    (λ m s. on_value (f.calls m.function (only (m.of ∷ v ∷ [])) s) (λ r s. gives (truth_of (heap_of s) r) s))
    (plainly (membership.contains v (value.Prox at))) s)
    (λ t e. all_stay (equal_heaps (heap_of s) (heap_of t) e))
    (λ h. let t : State = noted s (entry_to_read CONTAINS at s) in
    by_special CONTAINS (v ∷ []) at (decided_frame f) s
    (λ m s. on_value (f.calls m.function (only (m.of ∷ v ∷ [])) s) (λ r s. gives (truth_of (heap_of s) r) s))
    (plainly (membership.contains v (value.Prox at))) h
    (λ m t. same_heap (f.calls m.function (only (m.of ∷ v ∷ [])) t)
    (λ r s. gives (truth_of (heap_of s) r) s) (λ r t. refl))
    (stays (membership.contains v (value.Prox at) t.plain) t.plain
    (λ k h. contains {k = k} v (value.Prox at) t.plain h))
    (special (heap_of s) (value.Prox at) CONTAINS))
each_use_is_decided f at walks s g = all_stay (asked_stays f ITER (value.Prox at) s
    (λ s. on_found (walk_of (heap_of s) (value.Prox at)) s gives)
    (λ t q. stays_from (heap_of s) (heap_of t) _ q (found_same (walk_of (heap_of t) (value.Prox at)) t)))
each_use_is_decided f at (operates op v) s g = all_stay (asked_stays f (left_name op) (value.Prox at) s
    (λ s. asked_for (decided_frame f) (right_name op) v s
    (λ s. on_value (plainly (binary.binary f.side op (value.Prox at) v) s) (λ v s. takes v (decided_frame f) s)))
    (λ t q. stays_from (heap_of s) (heap_of t) _ q (asked_stays f (right_name op) v t
    (λ s. on_value (plainly (binary.binary f.side op (value.Prox at) v) s) (λ v s. takes v (decided_frame f) s))
    (λ u r. stays_from (heap_of t) (heap_of u) _ r
    (gone_on (heap_of u) (plainly (binary.binary f.side op (value.Prox at) v) u)
    (λ v s. takes v (decided_frame f) s) (binary_stays f.side op (value.Prox at) v u.plain) (λ v t h. h))))))
each_use_is_decided f at (operates_alone op) s g = all_stay (asked_stays f (unary_name op) (value.Prox at) s
    (λ s. on_found (binary.int_value (binary.unary (heap_of s) op (value.Prox at))) s gives)
    (λ t q. stays_from (heap_of s) (heap_of t) _ q
    (found_same (binary.int_value (binary.unary (heap_of t) op (value.Prox at))) t)))
each_use_is_decided f at (augments op v) s g = all_stay (
    asked_by (λ (t : State). AllStay (heap_of s) (heap_of t)) f (in_place_name op) at s
    (λ s. asked_for (decided_frame f) (augmented_name (heap_of s) op (value.Prox at)) v s
    (λ s. on_value (plainly (inplace.inplace f.side op (value.Prox at) v) s) (λ v s. takes v (decided_frame f) s)))
    (λ t e. equal_heaps (heap_of s) (heap_of t) e)
    (λ h. let t : State = noted s (entry_to_read (in_place_name op) at s) in
    asked_stays f (augmented_name (heap_of t) op (value.Prox at)) v t
    (λ s. on_value (plainly (inplace.inplace f.side op (value.Prox at) v) s) (λ v s. takes v (decided_frame f) s))
    (λ u r. stays_from (heap_of t) (heap_of u) _ r
    (gone_on (heap_of u) (plainly (inplace.inplace f.side op (value.Prox at) v) u)
    (λ v s. takes v (decided_frame f) s)
    (inplace_stays f.side op at v u.plain
    (λ xs e. refused_to (in_place_name op) at s (in_place_no_row op s g) (is_list at s xs
    (subst (λ (heap : List Owned). content_at heap at ≡ Some (object.list xs)) r e)) h))
    (λ v t h. h)))))
each_use_is_decided f at (compares op v) s g = all_stay (asked_stays f (comparison_name op) (value.Prox at) s
    (λ s. asked_for (decided_frame f) (comparison_name (mirrored op)) v s
    (plainly (order.compare op (value.Prox at) v)))
    (λ t q. stays_from (heap_of s) (heap_of t) _ q (asked_stays f (comparison_name (mirrored op)) v t
    (plainly (order.compare op (value.Prox at) v))
    (λ u r. stays_from (heap_of t) (heap_of u) _ r (stays (order.compare op (value.Prox at) v u.plain) u.plain
    (λ k h. compare {k = k} op (value.Prox at) v u.plain h))))))
each_use_is_decided f at (calls a) s g =
    asked_by (λ (t : State). Changes None (call_of (calls a) at (decided_frame f) s) at s t) f CALL at s
    (λ s. on_value (found_call at (slice_get (heap_of s) at.0) a (decided_frame f) s)
    (λ r s. got (value.Prox at) r (decided_frame f) s))
    (λ t e. all_stay (equal_heaps (heap_of s) (heap_of t) e))
    (λ h. let t : State = noted s (entry_to_read CALL at s) in
    makes_call (
      h,
      same_heap (found_call at (slice_get (heap_of t) at.0) a (decided_frame f) t)
          (λ r s. got (value.Prox at) r (decided_frame f) s) (λ r t. refl),
    ))

-- `len`

length_same : (v : Value) (s : State) → heap_of (length_given v s).state ≡ heap_of s
length_same v s = by_number (index_number v) (λ n e. rw e refl) (λ n e. rw e refl) (λ e. rw e refl)

pub each_length_is_decided : EachLengthIsDecided
each_length_is_decided f at s natives e =
    subst (λ (m : Option Name). Changes None called at s
    (asked_if (decided_frame f) m (value.Prox at) s
    (λ s. applied native.Len (value.Prox at ∷ []) (decided_frame f) s)).state)
    (sym e) (asked_by (λ (t : State). Changes None called at s t) f LEN at s
    (λ s. length_of (value.Prox at) (decided_frame f) s)
    (λ t e. all_stay (equal_heaps (heap_of s) (heap_of t) e))
    (λ h. let t : State = noted s (entry_to_read LEN at s) in
    by_special LEN [] at (decided_frame f) s
    (λ m s. on_value (f.calls m.function (only (m.of ∷ [])) s) length_given)
    (given native.Len (value.Prox at ∷ []) (decided_frame f)) h
    (λ m t. same_heap (f.calls m.function (only (m.of ∷ [])) t) length_given (λ v t. length_same v t))
    (stays (f.run.natives.function t.names f.side native.Len (value.Prox at ∷ []) t.plain) t.plain
    (λ k h. function_done {k = k} natives t.names f.side native.Len (value.Prox at ∷ []) t.plain h))
    (special (heap_of s) (value.Prox at) LEN)))
  where
    called : Option Calling
    called = special_call LEN [] at (decided_frame f) s

pub functions_change_nothing : FunctionsChangeNothing
functions_change_nothing names side id vs s =
    stays (function names side id vs s) s (λ k h. function_leaves {k = k} names side id vs s h)
