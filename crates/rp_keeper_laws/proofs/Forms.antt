-- What code does with values keeps what is kept: names, decisions, operators, attributes and items.
use Rattle.std.proofs.Common.{◌≡◌, refl, sym, subst, ℕ, zero, suc, ◌+◌, length, ℤ, pos, negsuc, List, [], ◌∷◌}
use Rattle.std.proofs.Common.{Option, Some, None, Result, Ok, Err, Bool, true, false, if◌then◌else◌}
use Rattle.std.proofs.Common.{◌⊎◌, inl, inr}
use Rattle.std.specs.Prelude.{find, nat_lt, option_map, position, slice_get}
use Rattle.std.specs.Map.{lookup}
use Rattle.std.specs.Option.{option_map_or, option_or}
use Rattle.rp_attributes.specs.Attributes as attributes
use Rattle.rp_attributes.specs.Attributes.{method_named}
use Rattle.rp_base.specs.Kind.{is_under, kind_name}
use Rattle.rp_base.specs.Names.{word_of}
use Rattle.rp_base.specs.Same.{same_text}
use Rattle.rp_base.specs.declared.kind.Kind.{Kind}
use Rattle.rp_base.specs.declared.kind.Kind.TheVariants.{AttributeError}
use Rattle.rp_base.specs.declared.kind.TheConstants.Kind.{ALL}
use Rattle.rp_base.specs.declared.native.NativeId.{NativeId}
use Rattle.rp_base.specs.declared.native.NativeId.TheVariants as native
use Rattle.rp_base.specs.declared.operator.BinOp.{BinOp}
use Rattle.rp_base.specs.declared.operator.UnOp.{UnOp}
use Rattle.rp_base.specs.declared.value.Name.{Name}
use Rattle.rp_base.specs.declared.value.Oid.{Oid}
use Rattle.rp_base.specs.declared.value.Raised.{Raised}
use Rattle.rp_base.specs.declared.value.Rock.{Rock}
use Rattle.rp_base.specs.declared.value.Rock.TheVariants as rock
use Rattle.rp_base.specs.declared.value.Side.{Side}
use Rattle.rp_base.specs.declared.value.Value.{Value}
use Rattle.rp_base.specs.declared.value.Value.TheVariants as value
use Rattle.rp_base.specs.declared.word.TheConstants.{BOOL, CONTAINS, DEL_ITEM, GET_ITEM, ITER, LEN, SET_ITEM}
use Rattle.rp_ops.specs.Binary as binary
use Rattle.rp_ops.specs.Keys.{index_number}
use Rattle.rp_ops.specs.Operand.{lent, truth_of}
use Rattle.rp_ops.specs.Outcome as plain
use Rattle.rp_ops.specs.Outcome.{End, ends, raised, no_step, no_cell, gives, on_value}
use Rattle.rp_ops.specs.Walk.{Cursor, walk_of}
use Rattle.rp_proxy.specs.Taken.{taken}
use Rattle.rp_store.specs.Cost.{cost}
use Rattle.rp_store.specs.Heap.{Owned, changed_at, content_at, owner_at}
use Rattle.rp_store.specs.Key.{same_name}
use Rattle.rp_store.specs.Object as object
use Rattle.rp_store.specs.Object.{Content}
use Rattle.rp_store.specs.Parts.{fields}
use Rattle.rp_store.specs.Store.{made as stored}
use Rattle.rp_store.specs.Writers.{with_slot}
use Rattle.rp_store.specs.declared.object.Callee.{Callee}
use Rattle.rp_store.specs.declared.object.Callee.TheVariants as callee
use Rattle.rp_tree.specs.declared.parts.Test.{Test}
use Rattle.rp_tree.specs.declared.parts.Test.TheVariants as test
use Rattle.rp_meaning.specs.Access.{get_attribute, set_attribute, del_attribute, get_item, set_item, del_item}
use Rattle.rp_meaning.specs.Access.{get_slice, is_within}
use Rattle.rp_meaning.specs.Binding.{Arguments, only}
use Rattle.rp_meaning.specs.BuiltIn.{allowed, applied, decided_and_applied, defaulted, function, function_call}
use Rattle.rp_meaning.specs.BuiltIn.{get_named, given, getattr, length_given}
use Rattle.rp_meaning.specs.BuiltIn.{length_of, method_call, name_of, set_named, setattr, unnamed, with_name}
use Rattle.rp_meaning.specs.Frame.{Frame, Doing, asked_each, asked_if, read_name, bind_name, unbind_name}
use Rattle.rp_meaning.specs.Frame.{without_name}
use Rattle.rp_meaning.specs.Frame.{slot_of, place_of}
use Rattle.rp_meaning.specs.Operators.{operate, operate_unary, augment, tested, left_name, right_name, unary_name}
use Rattle.rp_meaning.specs.Operators.{in_place_name, augmented_name, comparison_name, mirrored}
use Rattle.rp_meaning.specs.Scopes.{Place, Slot, built_in, exposed, functions_of, global, global_value, held, local}
use Rattle.rp_meaning.specs.Scopes.{outer, slot_in, value_at, with_slot_set}
use Rattle.rp_meaning.specs.State.{State, Outcome, choose, heap_of, lifted, plainly}
use Rattle.rp_meaning.specs.Walks.{walk, next_element, each, on_truth}
use Rattle.rp_apart_laws.specs.Apart.{OnSome}
use Rattle.rp_keeper_laws.specs.Keepers.{Keeper, next_place, with_new}
use Rattle.rp_keeper_laws.proofs.BuiltIns.{function_done, line_printed, method_done}
use Rattle.rp_keeper_laws.proofs.Going.{Any, Anything, Behind, Does, DoesBehind, DoesWith, FitIn, Held, IsBare, IsIn}
use Rattle.rp_keeper_laws.proofs.Going.{Keeps, KeepsAt, MoreHeld, Moved, Saying, Spot, Values, ask_any, ask_each}
use Rattle.rp_keeper_laws.proofs.Going.{ask_for, ask_to_set, bind, by_option, calls, chosen, forget, found}
use Rattle.rp_keeper_laws.proofs.Going.{gets_value, made, moved, on_method, op, plain_bare, quiet, same, start}
use Rattle.rp_keeper_laws.proofs.Going.{takes_value, there_behind, turns_keep}
use Rattle.rp_keeper_laws.proofs.Objects.{item, slice}
use Rattle.rp_keeper_laws.proofs.Objects.{del_attribute as del_attribute_leaves, del_item as del_item_leaves}
use Rattle.rp_keeper_laws.proofs.Objects.{set_attribute as set_attribute_leaves, set_item as set_item_leaves}
use Rattle.rp_keeper_laws.proofs.Operations.{binary_leaves, compare, contains, inplace_leaves, next_of}

-- names

built_in_held : (k : Keeper) (heap : List Owned) (side : Side) (word : List ℕ)
    → OnSome (k.Held heap side) (built_in side word)
built_in_held k heap side word =
    by (method_named (functions_of side) word) (find (λ (kind : Kind). same_text (kind_name kind) word) ALL)
  where
    by : (id : Option NativeId) (kind : Option Kind) → OnSome (k.Held heap side) (option_or
        (option_map (λ (id : NativeId). value.Rock (rock.Native id)) id)
        (option_map (λ (kind : Kind). value.Rock (rock.Kind kind)) kind))
    by (Some id) kind = k.held_rock heap side (rock.Native id)
    by None (Some kind) = k.held_rock heap side (rock.Kind kind)
    by None None = tt

exposed_held : (k : Keeper) (side : Side) (s : State) (names : List (List ℕ)) (word : List ℕ) → k.Acts side
    → k.Kept s.declarations.classes (heap_of s) → OnSome (k.Held (heap_of s) side) (exposed side (heap_of s) names word)
exposed_held k side s names word acts h = by side.0 acts
  where
    taken_for : (n : ℕ) → k.Acts (record { 0 = n }) → (o : Option Value)
        → OnSome (k.Held (heap_of s) (record { 0 = n })) (option_map (taken (heap_of s) (record { 0 = n })) o)
    taken_for n acts None = tt
    taken_for n acts (Some v) = k.held_taken s.declarations.classes (heap_of s) (record { 0 = n }) v acts h

    by : (n : ℕ) → k.Acts (record { 0 = n })
        → OnSome (k.Held (heap_of s) (record { 0 = n })) (exposed (record { 0 = n }) (heap_of s) names word)
    by zero acts = tt
    by (suc n) acts =
        taken_for (suc n) acts
        (held (heap_of s) (option_map (slot_in (record { 0 = 0 })) (position (same_text word) names)))

either_held : (P : Value → Type 0) (x y : Option Value) → OnSome P x → OnSome P y → OnSome P (option_or x y)
either_held P None y p q = q
either_held P (Some v) y p q = p

global_held : (k : Keeper) (side : Side) (variable : Option Value) (word : List ℕ) (s : State) → k.Acts side
    → k.Kept s.declarations.classes (heap_of s) → OnSome (k.Held (heap_of s) side) variable
    → OnSome (k.Held (heap_of s) side) (global_value side variable word s)
global_held k side variable word s acts h p =
    either_held (k.Held (heap_of s) side) variable
    (option_or (exposed side (heap_of s) s.declarations.expose word) (built_in side word)) p
    (either_held (k.Held (heap_of s) side) (exposed side (heap_of s) s.declarations.expose word) (built_in side word)
    (exposed_held k side s s.declarations.expose word acts h) (built_in_held k (heap_of s) side word))

value_keeps : {k : Keeper} {t : Spot} (f : Frame) → FitIn k t f → (place : Place) (variable : Option Value)
    (word : List ℕ) (s : State) → OnSome (k.Held (heap_of s) f.side) variable → IsIn k f s
    → Keeps k f (heap_of s) (Held k f) (value_at f.side place variable word s)
value_keeps f c (local i) (Some v) word s p h = same h p
value_keeps f c (local i) None word s p h = same h tt
value_keeps f c (outer n i) (Some v) word s p h = same h p
value_keeps f c (outer n i) None word s p h = same h tt
value_keeps {k} f c global variable word s p h =
    by_option (global_value f.side variable word s) (λ e. rw e (same h tt))
    (λ v e. rw e (same h (subst (OnSome (k.Held (heap_of s) f.side)) e
    (global_held k f.side variable word s c.acts h.0 p))))

pub read : {k : Keeper} {t : Spot} (n : Name) → KeepsAt k t (Held k) (read_name n)
read {k} n f c s h =
    value_keeps f c (place_of f n) (held (heap_of s) (slot_of f n s)) (word_of s.names n) s
    (k.slot_held f c.runs c.acts s.declarations.classes (heap_of s) h.0 h.1 n) h

slot_moved : (k : Keeper) (f : Frame) (slot : Option Slot) (v : Option Value) (s : State)
    → OnSome (λ (slot : Slot). Behind k s (changed_at (heap_of s) slot.scope (with_slot slot.index v))) slot
    → IsIn k f s → Moved k f s (with_slot_set slot v s)
slot_moved k f None v s p h = (h, k.grows_not (heap_of s))
slot_moved k f (Some slot) v s p h = there_behind k f slot.scope (with_slot slot.index v) s p h

slot_filled : {k : Keeper} {t : Spot} (n : Name) (v : Option Value) (f : Frame) → FitIn k t f → (s : State)
    → OnSome (k.Held (heap_of s) f.side) v → IsIn k f s → Moved k f s (with_slot_set (slot_of f n s) v s)
slot_filled {k} n v f c s p h =
    slot_moved k f (slot_of f n s) v s
    (k.slot_set f c.runs c.acts s.declarations.classes (heap_of s) h.0 h.1 n v p) h

pub bound : {k : Keeper} {t : Spot} (n : Name) (v : Value) (f : Frame) → FitIn k t f → (s : State)
    → k.Held (heap_of s) f.side v → IsIn k f s → Keeps k f (heap_of s) Anything (bind_name n v f s)
bound n v f c s p h = moved s (slot_filled n (Some v) f c s p h) tt

pub without : {k : Keeper} {t : Spot} (n : Name) (f : Frame) → FitIn k t f → (s : State) → IsIn k f s
    → Moved k f s (without_name n f s)
without n f c s h = slot_filled n None f c s tt h

pub unbound : {k : Keeper} {t : Spot} (n : Name) → KeepsAt k t Any (unbind_name n)
unbound n f c s h =
    by_option (held (heap_of s) (slot_of f n s)) (λ e. rw e (same h tt))
    (λ v e. rw e (moved s (without n f c s h) tt))

-- walks

pub truth : {A : Type 0} {P : Saying A} {k : Keeper} {t : Spot} (v : Value) (f : Frame) → FitIn k t f → (s : State)
    {this other : State → Outcome A} → IsIn k f s → DoesBehind k f (heap_of s) P this
    → DoesBehind k f (heap_of s) P other → Keeps k f (heap_of s) P (on_truth v f s this other)
truth v f c s {this} {other} h t o = ask_any f c BOOL v s h
    (λ s g h. chosen (truth_of (heap_of s) v) this other (t s g h) (o s g h))

pub walks : {k : Keeper} {t : Spot} (v : Value) → KeepsAt k t Any (walk v)
walks v f c s h = ask_any f c ITER v s h (λ s g h. found (walk_of (heap_of s) v) s h (λ w e s h. same h tt))

pub element : {k : Keeper} {t : Spot} (w : Cursor) → KeepsAt k t (MoreHeld k) (λ f s. next_element f w s)
element {k} w f c s h = bind (op s h (next_of w s.plain (start k s h.0))) (λ e s p g h. same h (by s h e)) where
  by : (s : State) → IsIn k f s → (e : Option (Value × Cursor))
      → MoreHeld k f (heap_of s) (option_map (λ (e : Value × Cursor). (taken (heap_of s) f.side e.0, e.1)) e)
  by s h None = tt
  by s h (Some e) = k.held_taken s.declarations.classes (heap_of s) f.side e.0 c.acts h.0

pub each_keeps : {k : Keeper} {t : Spot} (body : Value → Doing) (f : Frame) → FitIn k t f
    → DoesWith k f (λ v. body v f) → (w : Cursor) → Does k f Anything (each body w f)
each_keeps body f c b w s h = turns_keep (s.plain.steps + 1) (λ w s h. element w f c s h) b w s h

-- attributes: a bound method is made, for the owner of its receiver

method_made : {k : Keeper} {f : Frame} (owner : Side) (v : Value) (called : Callee) (s : State)
    → Behind k s (with_new (heap_of s) owner (object.method v called)) → IsIn k f s
    → Keeps k f (heap_of s) Anything (lifted (binary.new_object owner (object.method v called) s.plain) s)
method_made {k} {f} owner v called s b h =
    by (nat_lt s.plain.store.limit (s.plain.store.used + cost m))
    (made {P = Anything} owner m s b tt h)
  where
    m : Content
    m = object.method v called

    made_as : Bool → plain.Outcome Oid
    made_as full = if full then ends no_cell s.plain
        else gives (next_place (heap_of s)) (record s.plain { store = stored s.plain.store owner m })

    by : (full : Bool) → Keeps k f (heap_of s) Anything (lifted (made_as full) s)
        → Keeps k f (heap_of s) Anything (lifted (on_value (made_as full) (λ at s. gives (value.Ref at) s)) s)
    by true l = same h tt
    by false l = record { there = l.there; grows = l.grows; gives = tt }

bound_got : {k : Keeper} {f : Frame} (owner : Side) (v : Value) (called : Option Callee) (word : List ℕ) (s : State)
    → OnSome (λ (called : Callee). Behind k s (with_new (heap_of s) owner (object.method v called))) called → IsIn k f s
    → Keeps k f (heap_of s) Anything (lifted (attributes.bound owner v called word s.plain) s)
bound_got owner v (Some called) word s b h = method_made owner v called s b h
bound_got owner v None word s b h = same h tt

field_or_method_got : {k : Keeper} {f : Frame} (owner : Side) (at : Oid) (field : Option Value) (called : Option Callee)
    (word : List ℕ) (s : State)
    → OnSome (λ (called : Callee). Behind k s (with_new (heap_of s) owner (object.method (value.Ref at) called))) called
    → IsIn k f s
    → Keeps k f (heap_of s) Anything (lifted (attributes.field_or_method owner at field called word s.plain) s)
field_or_method_got owner at (Some v) called word s b h = same h tt
field_or_method_got owner at None called word s b h = bound_got owner (value.Ref at) called word s b h

-- of what is found, by an equation
of_found : {X : Type 0} (P : X → Type 0) (o : Option X) → ((x : X) → o ≡ Some x → P x) → OnSome P o
of_found P None more = tt
of_found P (Some x) more = more x refl

attribute_of : {k : Keeper} {f : Frame} (at : Oid) (o : Option Owned) (n : Name) (word : List ℕ) (s : State)
    → k.Usable at → slice_get (heap_of s) at.0 ≡ o → IsIn k f s
    → Keeps k f (heap_of s) Anything (lifted (option_map_or
    (λ (o : Owned). attributes.object_attribute at o n word s.plain) o (attributes.no_attribute word s.plain)) s)
attribute_of at None n word s usable e h = same h tt
attribute_of {k} at (Some o) n word s usable e h =
    field_or_method_got o.owner at (lookup (same_name n) (fields o.content))
    (attributes.method_of o.content n word s.plain) word s
    (of_found (λ (called : Callee). Behind k s (with_new (heap_of s) o.owner (object.method (value.Ref at) called)))
    (attributes.method_of o.content n word s.plain)
    (λ called m. k.method_made s.declarations.classes s.plain at o.owner o.content n word called h.0 usable (owned e)
    (holding e) m)) h
  where
    owned : slice_get (heap_of s) at.0 ≡ Some o → owner_at (heap_of s) at ≡ Some o.owner
    owned e = rw e refl

    holding : slice_get (heap_of s) at.0 ≡ Some o → content_at (heap_of s) at ≡ Some o.content
    holding e = rw e refl

attribute_at_got : {k : Keeper} {f : Frame} (at : Oid) (n : Name) (word : List ℕ) (s : State) → k.Usable at
    → IsIn k f s → Keeps k f (heap_of s) Anything (lifted (attributes.attribute_at at n word s.plain) s)
attribute_at_got at n word s usable h = attribute_of at (slice_get (heap_of s) at.0) n word s usable refl h

lent_out : {k : Keeper} {f : Frame} {old : List Owned} (o : plain.Outcome Value) (s : State)
    → Keeps k f old Anything (lifted o s)
    → Keeps k f old Anything (lifted (on_value o (λ v s. gives (lent v) s)) s)
lent_out {k} {f} {old} o s h = by o.answer
  where
    by : (answer : Result Value End) → Keeps k f old Anything
        (lifted (on_value (record { answer = answer; state = o.state }) (λ v s. gives (lent v) s)) s)
    by (Ok v) = record { there = h.there; grows = h.grows; gives = tt }
    by (Err e) = record { there = h.there; grows = h.grows; gives = tt }

text_method : (k : Keeper) (side : Side) (r : Rock) (id : Option NativeId) (s : State)
    → k.Kept s.declarations.classes (heap_of s)
    → OnSome (λ (called : Callee). Behind k s (with_new (heap_of s) side (object.method (value.Rock r) called)))
    (option_map callee.Native id)
text_method k side r None s h = tt
text_method k side r (Some id) s h = k.text_method_made s.declarations.classes (heap_of s) side r id h

rock_attribute_got : {k : Keeper} {f : Frame} (side : Side) (r : Rock) (word : List ℕ) (s : State) → IsIn k f s
    → Keeps k f (heap_of s) Anything (lifted (attributes.rock_attribute side r word s.plain) s)
rock_attribute_got {k} side (rock.Text x) word s h =
    bound_got side (value.Rock (rock.Text x)) _ word s (text_method k side (rock.Text x) _ s h.0) h
rock_attribute_got side r word s h = same h tt

attribute_done : {k : Keeper} {f : Frame} (side : Side) (o : Value) (n : Name) (word : List ℕ) (s : State) → IsBare k o
    → IsIn k f s → Keeps k f (heap_of s) Anything (lifted (attributes.attribute side o n word s.plain) s)
attribute_done side (value.Rock r) n word s b h = rock_attribute_got side r word s h
attribute_done side (value.Ref at) n word s b h = attribute_at_got at n word s b h
attribute_done side (value.Prox at) n word s b h =
    lent_out (attributes.attribute_at at n word s.plain) s (attribute_at_got at n word s b h)

-- what is done with a value that is held
abbrev pub HeldKeeps : {A : Type 0} → Keeper → Spot → Value → (Frame → Saying A) → (Frame → State → Outcome A) → Type 0
HeldKeeps k t o P does = (f : Frame) → FitIn k t f → (s : State) → k.Held (heap_of s) f.side o → IsIn k f s
    → Keeps k f (heap_of s) (P f) (does f s)

pub attribute_got : {k : Keeper} {t : Spot} (o : Value) (n : Name) → HeldKeeps k t o (Held k) (get_attribute o n)
attribute_got o n f c s p h = ask_for f c n o s p h (λ b s g h.
    bind (attribute_done f.side o n (word_of s.names n) s b h) (λ v s p g h. gets_value o v f c s h))

pub attribute_set : {k : Keeper} {t : Spot} (o : Value) (n : Name) (v : Value)
    → HeldKeeps k t o Any (set_attribute o n v)
attribute_set {k} o n v f c s p h = ask_to_set f c n o s p h (λ b s g h.
    bind (op s h (set_attribute_leaves o n (word_of s.names n) v (plain_bare k (heap_of s) o b) s.plain
    (start k s h.0))) (λ _ s r g h. same h tt))

pub attribute_deleted : {k : Keeper} {t : Spot} (o : Value) (n : Name) → HeldKeeps k t o Any (del_attribute o n)
attribute_deleted {k} o n f c s p h = ask_to_set f c n o s p h (λ b s g h.
    bind (op s h (del_attribute_leaves o n (word_of s.names n) (plain_bare k (heap_of s) o b) s.plain (start k s h.0)))
    (λ _ s r g h. same h tt))

pub item_got : {k : Keeper} {t : Spot} (o i : Value) → HeldKeeps k t o (Held k) (get_item o i)
item_got {k} o i f c s p h = ask_for f c GET_ITEM o s p h (λ b s g h.
    bind (on_method o GET_ITEM _ _ s b h.0
    (λ m usable. calls f c m.function (only (m.of ∷ i ∷ [])) s usable h)
    (op s h (item o i s.plain (start k s h.0)))) (λ v s r g h. gets_value o v f c s h))

pub item_set : {k : Keeper} {t : Spot} (o i v : Value) → HeldKeeps k t o Any (set_item o i v)
item_set {k} o i v f c s p h = ask_for f c SET_ITEM o s p h (λ b s g h.
    on_method o SET_ITEM _ _ s b h.0
    (λ m usable. bind (calls f c m.function (only (m.of ∷ i ∷ v ∷ [])) s usable h) (λ v s _ g h. same h tt))
    (bind (op s h (set_item_leaves o i v (plain_bare k (heap_of s) o b) s.plain (start k s h.0)))
    (λ _ s l g h. same h tt)))

pub item_deleted : {k : Keeper} {t : Spot} (o i : Value) → HeldKeeps k t o Any (del_item o i)
item_deleted {k} o i f c s p h = ask_for f c DEL_ITEM o s p h (λ b s g h.
    on_method o DEL_ITEM _ _ s b h.0
    (λ m usable. bind (calls f c m.function (only (m.of ∷ i ∷ [])) s usable h) (λ v s _ g h. same h tt))
    (bind (op s h (del_item_leaves o i (plain_bare k (heap_of s) o b) s.plain (start k s h.0)))
    (λ _ s l g h. same h tt)))

pub slice_got : {k : Keeper} {t : Spot} (o x y z : Value) → KeepsAt k t (Held k) (get_slice o x y z)
slice_got {k} o x y z f c s h = ask_any f c GET_ITEM o s h (λ s g h.
    bind (op s h (slice o x y z s.plain (start k s h.0))) (λ v s _ g h. gets_value o v f c s h))

pub within : {k : Keeper} {t : Spot} (v o : Value) → HeldKeeps k t o Any (is_within v o)
within {k} v o f c s p h = ask_for f c CONTAINS o s p h (λ b s g h.
    on_method o CONTAINS _ _ s b h.0
    (λ m usable. bind (calls f c m.function (only (m.of ∷ v ∷ [])) s usable h) (λ r s _ g h. same h tt))
    (op s h (contains v o s.plain (start k s h.0))))

-- operators

pub operated : {k : Keeper} {t : Spot} (o : BinOp) (a b : Value) → KeepsAt k t (Held k) (operate o a b)
operated {k} o a b f c s h = ask_any f c (left_name o) a s h (λ s g h. ask_any f c (right_name o) b s h (λ s g h.
    bind (op s h (binary_leaves f.side o a b s.plain (start k s h.0))) (λ v s _ g h. takes_value v f c s h)))

unary_rock : {k : Keeper} {f : Frame} (r : Result ℤ Raised) (s : State) → IsIn k f s
    → Keeps k f (heap_of s) (Held k f) (plain.on_found (binary.int_value r) s gives)
unary_rock {k} {f} (Ok z) s h = same h (k.held_rock (heap_of s) f.side (rock.Int z))
unary_rock (Err e) s h = same h tt

pub operated_once : {k : Keeper} {t : Spot} (o : UnOp) (a : Value) → KeepsAt k t (Held k) (operate_unary o a)
operated_once o a f c s h = ask_any f c (unary_name o) a s h (λ s g h.
    unary_rock (binary.unary (heap_of s) o a) s h)

pub augmented : {k : Keeper} {t : Spot} (o : BinOp) (a b : Value) → HeldKeeps k t a (Held k) (augment o a b)
augmented {k} o a b f c s p h =
    ask_for f c (in_place_name o) a s p h (λ u s g h. ask_any f c (augmented_name (heap_of s) o a) b s h (λ s g h.
    bind (op s h (inplace_leaves f.side o a b (plain_bare k (heap_of s) a u) s.plain (start k s h.0)))
    (λ v s _ g h. takes_value v f c s h)))

pub test_keeps : {k : Keeper} {t : Spot} (x : Test) (a b : Value) → HeldKeeps k t b Any (tested x a b)
test_keeps {k} (test.Order o) a b f c s p h =
    ask_any f c (comparison_name o) a s h (λ s g h. ask_any f c (comparison_name (mirrored o)) b s h (λ s g h.
    op s h (compare o a b s.plain (start k s h.0))))
test_keeps test.Within a b f c s p h = within a b f c s p h
test_keeps test.NotWithin a b f c s p h = bind (within a b f c s p h) (λ r s _ g h. same h tt)
test_keeps test.Is a b f c s p h = same h tt
test_keeps test.IsNot a b f c s p h = same h tt

-- calls of built-in functions and methods

given_keeps : {k : Keeper} {t : Spot} (id : NativeId) (vs : List Value) → KeepsAt k t Any (given id vs)
given_keeps {k} id vs f c s h =
    op s h (function_done (quiet c).natives s.names f.side id vs s.plain (start k s h.0))

unnamed_any : {k : Keeper} {f : Frame} (plain : List Value) (names : List (List ℕ × Value)) (s : State)
    (go : List Value → State → Outcome Value) → IsIn k f s → Keeps k f (heap_of s) Anything (go plain s)
    → Keeps k f (heap_of s) Anything (unnamed (record { plain = plain; named = names }) s go)
unnamed_any plain [] s go h more = more
unnamed_any plain (n ∷ ns) s go h more = same h tt

allowed_keeps : {A : Type 0} {k : Keeper} {f : Frame} {P : Saying A} (word : List ℕ) (s : State)
    (go : Name → State → Outcome A) → IsIn k f s
    → ((n : Name) → Keeps k f (heap_of s) P (go n (with_name word s)))
    → Keeps k f (heap_of s) P (allowed word f s go)
allowed_keeps {f = f} word s go h more =
    chosen (f.run.is_forbidden word) _ _ (same h tt) (more (name_of (with_name word s).names word))

defaulted_keeps : {k : Keeper} {f : Frame} {old : List Owned} (default : Option Value) (o : Outcome Value)
    → Keeps k f old Anything o → Keeps k f old Anything (defaulted default o)
defaulted_keeps None o h = h
defaulted_keeps {k} {f} {old} (Some v) o h = by o.answer where
  default_or : (b : Bool) (r : Raised)
      → Keeps k f old Anything (choose b (gives v) (ends (raised r)) o.state)
  default_or true r = record { there = h.there; grows = h.grows; gives = tt }
  default_or false r = record { there = h.there; grows = h.grows; gives = tt }

  by : (answer : Result Value End)
      → Keeps k f old Anything (defaulted (Some v) (record { answer = answer; state = o.state }))
  by (Ok w) = record { there = h.there; grows = h.grows; gives = tt }
  by (Err (raised r)) = default_or (is_under r.kind AttributeError) r
  by (Err no_step) = record { there = h.there; grows = h.grows; gives = tt }
  by (Err no_cell) = record { there = h.there; grows = h.grows; gives = tt }

got_named : {k : Keeper} {t : Spot} (o : Value) (word : List ℕ) (default : Option Value)
    → HeldKeeps k t o Any (get_named o word default)
got_named o word default f c s p h = chosen (f.run.is_identifier word) _ _
    (allowed_keeps word s (λ n s. defaulted default (get_attribute o n f s)) h
    (λ n. defaulted_keeps default _ (forget (attribute_got o n f c (with_name word s) p h))))
    (defaulted_keeps default _ (same h tt))

getattr_keeps : {k : Keeper} {t : Spot} (o word : Value) (default : Option Value)
    → HeldKeeps k t o Any (getattr o word default)
getattr_keeps o (value.Rock (rock.Text word)) default f c s p h = got_named o word default f c s p h
getattr_keeps o _ default f c s p h = same h tt

set_named_keeps : {k : Keeper} {t : Spot} (o : Value) (word : List ℕ) (v : Value)
    → HeldKeeps k t o Any (set_named o word v)
set_named_keeps o word v f c s p h = chosen (f.run.is_identifier word) _ _
    (allowed_keeps word s (λ n s. on_value (set_attribute o n v f s) (λ _ s. gives (value.Rock rock.Nil) s)) h
    (λ n. bind (attribute_set o n v f c (with_name word s) p h) (λ _ s r g h. same h tt))) (same h tt)

setattr_keeps : {k : Keeper} {t : Spot} (o word v : Value) → HeldKeeps k t o Any (setattr o word v)
setattr_keeps o (value.Rock (rock.Text word)) v f c s p h = set_named_keeps o word v f c s p h
setattr_keeps o _ v f c s p h = same h tt

pub by_number : {P : Type 0} (x : Option ℤ) → ((n : ℕ) → x ≡ Some (pos n) → P) → ((n : ℕ) → x ≡ Some (negsuc n) → P)
    → (x ≡ None → P) → P
by_number (Some (pos n)) p q r = p n refl
by_number (Some (negsuc n)) p q r = q n refl
by_number None p q r = r refl

length_keeps : {k : Keeper} {f : Frame} (v : Value) → Does k f Anything (length_given v)
length_keeps v s h =
    by_number (index_number v) (λ n e. rw e (same h tt)) (λ n e. rw e (same h tt)) (λ e. rw e (same h tt))

length_of_keeps : {k : Keeper} {t : Spot} (v : Value) → IsBare k v → KeepsAt k t Any (length_of v)
length_of_keeps {k} v b f c s h =
    on_method v LEN _ _ s b h.0
    (λ m usable. bind (calls f c m.function (only (m.of ∷ [])) s usable h) (λ v s _ g h. length_keeps v s h))
    (given_keeps native.Len (v ∷ []) f c s h)

-- `len` of a value is decided as the reading of `__len__`, unless every value may be used
len_keeps : {k : Keeper} {t : Spot} (v : Value) → HeldKeeps k t v Any (decided_and_applied native.Len (v ∷ []))
len_keeps {k} v f c s p h = by (k.lengths f.run c.runs) where
  by : ((f.run.natives.needs native.Len 0 1 ≡ Some LEN) ⊎ ((v : Value) → IsBare k v))
      → Keeps k f (heap_of s) Anything (decided_and_applied native.Len (v ∷ []) f s)
  by (inl e) =
      subst (λ (m : Option Name). Keeps k f (heap_of s) Anything
      (asked_if f m v s (λ s. applied native.Len (v ∷ []) f s)))
      (sym e) (ask_for f c LEN v s p h (λ b s g h. length_of_keeps v b f c s h))
  by (inr all) =
      ask_each f c (λ i. f.run.natives.needs native.Len i (length (v ∷ []))) 0 (v ∷ []) s h
      (λ s h. length_of_keeps v (all v) f c s h)

print_keeps : {k : Keeper} {t : Spot} (vs : List Value) → KeepsAt k t Any (applied native.Print vs)
print_keeps {k} vs f c s h =
    bind (op s h (line_printed (quiet c).natives s.names vs s.plain (start k s h.0))) (λ line s q g h. same h tt)

decided_keeps : {k : Keeper} {t : Spot} (id : NativeId) (vs : List Value) → KeepsAt k t Any (applied id vs)
    → KeepsAt k t Any (decided_and_applied id vs)
decided_keeps id vs more f c s h = ask_each f c (λ i. f.run.natives.needs id i (length vs)) 0 vs s h
    (λ s h. more f c s h)

function_keeps : {k : Keeper} {t : Spot} (id : NativeId) (vs : List Value) (f : Frame) → FitIn k t f → (s : State)
    → Values k f (heap_of s) vs → IsIn k f s → Keeps k f (heap_of s) Anything (function id vs f s)
function_keeps native.GetAttr (o ∷ word ∷ []) f c s p h = getattr_keeps o word None f c s p.0 h
function_keeps native.GetAttr (o ∷ word ∷ default ∷ []) f c s p h = getattr_keeps o word (Some default) f c s p.0 h
function_keeps native.GetAttr _ f c s p h = same h tt
function_keeps native.SetAttr (o ∷ word ∷ v ∷ []) f c s p h = setattr_keeps o word v f c s p.0 h
function_keeps native.SetAttr _ f c s p h = same h tt
function_keeps native.Len (v ∷ []) f c s p h = len_keeps v f c s p.0 h
function_keeps native.Print vs f c s p h = decided_keeps native.Print vs (λ f c s h. print_keeps vs f c s h) f c s h
function_keeps id vs f c s p h = decided_keeps id vs (λ f c s h. given_keeps id vs f c s h) f c s h

pub function_called : {k : Keeper} {t : Spot} (id : NativeId) (a : Arguments) (f : Frame) → FitIn k t f → (s : State)
    → Values k f (heap_of s) a.plain → IsIn k f s → Keeps k f (heap_of s) Anything (function_call id a f s)
function_called id a f c s p h = chosen (f.run.natives.is_function id) _ _
    (unnamed_any a.plain a.named s (λ vs s. function id vs f s) h (function_keeps id a.plain f c s p h)) (same h tt)

pub method_called : {k : Keeper} {t : Spot} (owner : Side) (receiver : Value) (id : NativeId) (a : Arguments)
    → IsBare k receiver → KeepsAt k t Any (method_call owner receiver id a)
method_called {k} owner receiver id a b f c s h = chosen (f.run.natives.is_method (heap_of s) receiver id) _ _
    (unnamed_any a.plain a.named s
    (λ vs s. asked_each f (λ i. f.run.natives.needs id i (length vs)) 0 vs s
    (λ s. plainly (f.run.natives.method s.names owner receiver id vs) s)) h
    (ask_each f c (λ i. f.run.natives.needs id i (length a.plain)) 0 a.plain s h
    (λ s h. op s h (method_done (quiet c).natives s.names owner receiver id a.plain (plain_bare k
    (heap_of s) receiver b)
    s.plain (start k s h.0)))))
    (same h tt)
