-- That objects are such as code of their owners makes them is kept, by the one induction over what code does.
use Rattle.std.proofs.Common.{◌≡◌, refl, sym, ap, subst, inr, ℕ, zero, suc, length, Bool, true, false, List, []}
use Rattle.std.proofs.Common.{◌∷◌, cond, if◌then◌else◌, slice_get, Option, Some, None}
use Rattle.std.specs.Prelude.{option_and_then, option_map, position}
use Rattle.std.specs.Map.{lookup}
use Rattle.std.specs.Option.{option_map_or}
use Rattle.rp_attributes.specs.Attributes as attributes
use Rattle.rp_base.specs.declared.native.NativeId.{NativeId}
use Rattle.rp_base.specs.declared.value.Name.{Name}
use Rattle.rp_base.specs.declared.value.Oid.{Oid}
use Rattle.rp_base.specs.declared.value.Rock.{Rock}
use Rattle.rp_base.specs.declared.value.Side.{Side}
use Rattle.rp_base.specs.declared.value.Value.{Value}
use Rattle.rp_base.specs.declared.value.Value.TheVariants as value
use Rattle.rp_decl.specs.Records.{Class}
use Rattle.rp_ops.specs.Outcome as plain
use Rattle.rp_store.specs.Heap.{Owned, changed_at, content_at, method_at, owner_at, parent_at, slot_at as slot_value}
use Rattle.rp_store.specs.Key.{same_name}
use Rattle.rp_store.specs.Object as object
use Rattle.rp_store.specs.Object.{Content}
use Rattle.rp_store.specs.Parts.{methods, parent, slots}
use Rattle.rp_store.specs.Writers.{with_methods, with_slot}
use Rattle.rp_store.specs.declared.object.Callee.{Callee}
use Rattle.rp_store.specs.declared.object.Callee.TheVariants as callee
use Rattle.rp_meaning.specs.Classes.{class_there, declared_place, is_class, stands}
use Rattle.rp_meaning.specs.Frame as frames
use Rattle.rp_meaning.specs.Frame.{Frame, layouts_of}
use Rattle.rp_meaning.specs.Special.{special}
use Rattle.rp_meaning.specs.Load.{trusted}
use Rattle.rp_meaning.specs.Scopes.{Layouts, Place, Slot, global, globals_of, held, local, outer, outwards, slot_at}
use Rattle.rp_meaning.specs.Scopes.{slot_in}
use Rattle.rp_apart_laws.proofs.Lists.{each_get, each_replicate, each_set}
use Rattle.rp_apart_laws.specs.Apart.{Each, OnSome}
use Rattle.rp_fixed_laws.specs.Fixed.{IsQuietRun}
use Rattle.rp_keeper_laws.specs.Keepers.{Keeper, next_place, slot_in_frame, with_new}
use Rattle.rp_keeper_laws.proofs.Mildly.{begun, mildly}
use Rattle.rp_keeper_laws.proofs.Everything.{any_callee, any_code, any_some, any_value, read_on}
use Rattle.rp_order_laws.specs.Ordered.{AreOrdered, ClassesAreTrusted, IsCallee, IsHeldBy, IsOf, Suits, place_of}
use Rattle.rp_order_laws.proofs.Keeping.{Grows, appended_grows, appended_ordered, changed_grows, changed_ordered}
use Rattle.rp_order_laws.proofs.Keeping.{classes_later, grows_not, grows_on, held_later, last_owner, mildly_grows}
use Rattle.rp_order_laws.proofs.Keeping.{mildly_ordered, owned_suits, read_suits, spares_of, taken_held}

abbrev pub Orderly : List Class → List Owned → Type 0
Orderly classes heap = AreOrdered heap × ClassesAreTrusted classes heap

-- ---- objects that are made, and that change

pub made : (classes : List Class) (heap : List Owned) (side : Side) (c : Content) → Suits heap side c
    → Orderly classes heap
    → Orderly classes (with_new heap side c) × Grows heap (with_new heap side c)
made classes heap side c p h =
    let g : Grows heap (with_new heap side c) = appended_grows heap (record { owner = side; content = c } ∷ []) in
    ((appended_ordered heap side c p h.0, classes_later heap (with_new heap side c) g classes h.1), g)

-- where the object is of a side
pub changed : (classes : List Class) (heap : List Owned) (at : Oid) (f : Content → Content) (side : Side)
    → IsOf heap side at → ((c : Content) → Suits heap side c → Suits heap side (f c)) → Orderly classes heap
    → Orderly classes (changed_at heap at f) × Grows heap (changed_at heap at f)
changed classes heap at f side own p h =
    let g : Grows heap (changed_at heap at f) = changed_grows heap at f in (
      (
        changed_ordered heap at f (spares_of heap at f side own p) h.0,
        classes_later heap (changed_at heap at f) g classes h.1,
      ),
      g,
    )

pub plain_kept : (classes : List Class) (old new : List Owned) → Orderly classes old → (mildly old).Kept new
    → Orderly classes new × Grows old new
plain_kept classes old new h m =
    let g : Grows old new = mildly_grows old new m in
    ((mildly_ordered old new m h.0, classes_later old new g classes h.1), g)

-- ---- methods

pub native_callee : (heap : List Owned) (owner : Side) (id : Option NativeId)
    → OnSome (IsCallee heap owner) (option_map callee.Native id)
native_callee heap owner None = tt
native_callee heap owner (Some id) = tt

pub function_callee : (heap : List Owned) (owner : Side) (at : Option Oid) → OnSome (IsOf heap owner) at
    → OnSome (IsCallee heap owner) (option_map callee.Function at)
function_callee heap owner None p = tt
function_callee heap owner (Some at) p = p

pub method_among : (heap : List Owned) (owner : Side) (ms : List (Name × Oid)) (n : Name)
    → Each (λ (m : Name × Oid). IsOf heap owner m.1) ms → OnSome (IsOf heap owner) (lookup (same_name n) ms)
method_among heap owner [] n p = tt
method_among heap owner (m ∷ ms) n p = by (same_name n m.0) (method_among heap owner ms n p.1)
  where
    by : (b : Bool) → OnSome (IsOf heap owner) (lookup (same_name n) ms)
        → OnSome (IsOf heap owner) (cond b (Some m.1) (lookup (same_name n) ms))
    by true q = p.0
    by false q = q

pub methods_of : (heap : List Owned) (owner : Side) (c : Content) (n : Name) → Suits heap owner c
    → OnSome (IsOf heap owner) (lookup (same_name n) (methods c))
methods_of heap owner (object.class name declared ms) n p = method_among heap owner ms n p
methods_of heap owner c n p = tt

-- a method of a class of an owner
pub method_of_owner : (heap : List Owned) (owner : Side) (of : Oid) (n : Name) → AreOrdered heap → IsOf heap owner of
    → OnSome (IsOf heap owner) (method_at heap of n)
method_of_owner heap owner of n h p =
    read_on (Suits heap owner) (OnSome (IsOf heap owner)) (λ (c : Content). lookup (same_name n) (methods c)) None
    (content_at heap of) (read_suits heap owner of h p) (λ c q. methods_of heap owner c n q) tt

pub callee_of : (owner : Side) (c : Content) (n : Name) (word : List ℕ) (s : plain.State) → AreOrdered s.store.heap
    → Suits s.store.heap owner c → OnSome (IsCallee s.store.heap owner) (attributes.method_of c n word s)
callee_of owner (object.list xs) n word s h p = native_callee s.store.heap owner _
callee_of owner (object.tuple xs) n word s h p = native_callee s.store.heap owner _
callee_of owner (object.dict es) n word s h p = native_callee s.store.heap owner _
callee_of owner (object.instance of fs) n word s h p =
    function_callee s.store.heap owner (method_at s.store.heap of n) (method_of_owner s.store.heap owner of n h p)
callee_of owner c n word s h p = tt

-- what is read of an object of a side
pub content_suits : (heap : List Owned) (side : Side) (at : Oid) (c : Content) → AreOrdered heap → IsOf heap side at
    → content_at heap at ≡ Some c → Suits heap side c
content_suits heap side at c h p e = subst (OnSome (Suits heap side)) e (read_suits heap side at h p)

pub method_made : (classes : List Class) (s : plain.State) (at : Oid) (owner : Side) (content : Content) (n : Name)
    (word : List ℕ) (called : Callee) → Orderly classes s.store.heap → Unit {0}
    → owner_at s.store.heap at ≡ Some owner → content_at s.store.heap at ≡ Some content
    → attributes.method_of content n word s ≡ Some called
    → Orderly classes (with_new s.store.heap owner (object.method (value.Ref at) called))
    × Grows s.store.heap (with_new s.store.heap owner (object.method (value.Ref at) called))
method_made classes s at owner content n word called h u own e m =
    made classes s.store.heap owner (object.method (value.Ref at) called) (
      own,
      subst (OnSome (IsCallee s.store.heap owner)) m
          (callee_of owner content n word s h.0 (content_suits s.store.heap owner at content h.0 own e)),
    ) h

-- ---- functions

-- the function that stands at a place is of its owner, and so is the scope around it
pub entering : (classes : List Class) (heap : List Owned) (at : Oid) (name : Option Name) (side : Side) (number : ℕ)
    (within : Oid) (ds : List Value) → Orderly classes heap → Unit {0}
    → content_at heap at ≡ Some (object.function name side number within ds) → Unit {0} × IsOf heap side within
entering classes heap at name side number within ds h u e =
    (tt, by (slice_get heap at.0) (owned_suits heap at h.0) e) where
      by : (o : Option Owned) → OnSome (λ (o : Owned). Suits heap o.owner o.content) o
          → option_map (λ (o : Owned). o.content) o ≡ Some (object.function name side number within ds)
          → IsOf heap side within
      by None p e = absurd (cc)
      by (Some o) p e =
          let same : o.content ≡ object.function name side number within ds = cc in
          let these : Suits heap o.owner (object.function name side number within ds) =
          subst (Suits heap o.owner) same p in
          subst (λ (owner : Side). IsOf heap owner within) (sym these.0) these.1

-- ---- scopes

module _ (heap : List Owned) (side : Side) (h : AreOrdered heap) where
  pub parent_of : (at : Oid) → IsOf heap side at → OnSome (IsOf heap side) (parent_at heap at)
  parent_of at p =
      read_on (Suits heap side) (OnSome (IsOf heap side)) parent None (content_at heap at) (read_suits heap side at h p)
      of tt
    where
      of : (c : Content) → Suits heap side c → OnSome (IsOf heap side) (parent c)
      of (object.scope block around vs) p = p.0
      of c p = tt

  pub outwards_of : (n : ℕ) (at : Oid) → IsOf heap side at → IsOf heap side (outwards n heap at)
  outwards_of zero at p = p
  outwards_of (suc n) at p =
      read_on (IsOf heap side) (IsOf heap side) (outwards n heap) at (parent_at heap at) (parent_of at p)
      (λ around q. outwards_of n around q) p

  pub slot_at_of : (layouts : Layouts) (at : Oid) (place : Place) (n : Name) → IsOf heap side at
      → OnSome (λ (slot : Slot). IsOf heap side slot.scope) (slot_at layouts heap at place n)
  slot_at_of layouts at place n p = of place where
    globals : (i : Option ℕ) → OnSome (λ (slot : Slot). IsOf heap side slot.scope)
        (option_map (slot_in (globals_of heap at)) i)
    globals None = tt
    globals (Some i) = outwards_of (length heap) at p

    of : (place : Place) → OnSome (λ (slot : Slot). IsOf heap side slot.scope) (slot_at layouts heap at place n)
    of (local i) = p
    of (outer m i) = outwards_of m at p
    of global = globals (position (same_name n) (layouts.locals 0))

  pub slot_value_held : (at : Oid) (i : ℕ) → IsOf heap side at → OnSome (IsHeldBy heap side) (slot_value heap at i)
  slot_value_held at i p =
      read_on (Suits heap side) (OnSome (IsHeldBy heap side))
      (λ (c : Content). option_map_or (λ (slot : Option Value). slot) (slice_get (slots c) i) None) None
      (content_at heap at) (read_suits heap side at h p) of tt
    where
      those : (c : Content) → Suits heap side c → Each (OnSome (IsHeldBy heap side)) (slots c)
      those (object.scope block around vs) p = p.1
      those c p = tt

      of : (c : Content) → Suits heap side c
          → OnSome (IsHeldBy heap side)
          (option_map_or (λ (slot : Option Value). slot) (slice_get (slots c) i) None)
      of c p =
          read_on (OnSome (IsHeldBy heap side)) (OnSome (IsHeldBy heap side)) (λ (slot : Option Value). slot) None
          (slice_get (slots c) i) (each_get (OnSome (IsHeldBy heap side)) (slots c) i (those c p)) (λ slot q. q) tt

  pub held_of : (slot : Option Slot) → OnSome (λ (slot : Slot). IsOf heap side slot.scope) slot
      → OnSome (IsHeldBy heap side) (held heap slot)
  held_of None p = tt
  held_of (Some slot) p = slot_value_held slot.scope slot.index p

pub slot_suits : (heap : List Owned) (side : Side) (i : ℕ) (v : Option Value) → OnSome (IsHeldBy heap side) v
    → (c : Content) → Suits heap side c → Suits heap side (with_slot i v c)
slot_suits heap side i v p (object.scope block around vs) h =
    (h.0, each_set (OnSome (IsHeldBy heap side)) vs i v h.1 p)
slot_suits heap side i v p (object.list xs) h = h
slot_suits heap side i v p (object.tuple xs) h = h
slot_suits heap side i v p (object.dict es) h = h
slot_suits heap side i v p (object.instance of fs) h = h
slot_suits heap side i v p (object.class name declared ms) h = h
slot_suits heap side i v p (object.function name unit block within ds) h = h
slot_suits heap side i v p (object.method w called) h = h

pub slot_changed : (classes : List Class) (heap : List Owned) (side : Side) (v : Option Value)
    → OnSome (IsHeldBy heap side) v
    → Orderly classes heap → (slot : Option Slot) → OnSome (λ (slot : Slot). IsOf heap side slot.scope) slot
    → OnSome (λ (slot : Slot). Orderly classes (changed_at heap slot.scope (with_slot slot.index v))
    × Grows heap (changed_at heap slot.scope (with_slot slot.index v))) slot
slot_changed classes heap side v q h None p = tt
slot_changed classes heap side v q h (Some slot) p =
    changed classes heap slot.scope (with_slot slot.index v) side p (slot_suits heap side slot.index v q) h

-- ---- classes

pub methods_suit : (heap : List Owned) (side : Side) (ms : List (Name × Oid))
    → Each (λ (m : Name × Oid). IsOf heap side m.1) ms → (c : Content) → Suits heap side c
    → Suits heap side (with_methods ms c)
methods_suit heap side ms p (object.class n declared old) h = p
methods_suit heap side ms p (object.list xs) h = h
methods_suit heap side ms p (object.tuple xs) h = h
methods_suit heap side ms p (object.dict es) h = h
methods_suit heap side ms p (object.instance of fs) h = h
methods_suit heap side ms p (object.function name unit block inside ds) h = h
methods_suit heap side ms p (object.method v called) h = h
methods_suit heap side ms p (object.scope block parent vs) h = h

-- declared classes are the module's
pub place_own : (f : Frame) (heap : List Owned) (word : List ℕ) (declared : List Class)
    → OnSome (IsOf heap trusted) (place_of declared word) → OnSome (IsOf heap f.side) (declared_place f word declared)
place_own f heap word declared p = by f.side.0 f.block refl where
  by : (side block : ℕ) → f.side.0 ≡ side
      → OnSome (IsOf heap f.side)
      (declared_place (record f { side = record { 0 = side }; block = block }) word declared)
  by zero zero e = let z : f.side ≡ trusted = ap (λ (n : ℕ). record { 0 = n }) e in
      subst (λ (side : Side). OnSome (IsOf heap side) (place_of declared word)) (sym z) p
  by zero (suc m) e = tt
  by (suc m) block e = tt

pub there_own : (f : Frame) (heap : List Owned) (at : Option Oid) → OnSome (IsOf heap f.side) at
    → OnSome (IsOf heap f.side) (option_and_then (class_there heap) at)
there_own f heap None p = tt
there_own f heap (Some at) p = by (stands is_class heap at) where
  by : (b : Bool) → OnSome (IsOf heap f.side) (if b then Some at else None)
  by true = p
  by false = tt

-- a scope, in one of its side
pub scope_of : (classes : List Class) (heap : List Owned) (side : Side) (number : ℕ) (around : Oid)
    (vs : List (Option Value)) → Orderly classes heap → IsOf heap side around
    → Each (OnSome (IsHeldBy heap side)) vs
    → Orderly classes (with_new heap side (object.scope (Some number) (Some around) vs))
    × Grows heap (with_new heap side (object.scope (Some number) (Some around) vs))
    × IsOf (with_new heap side (object.scope (Some number) (Some around) vs)) side (next_place heap)
scope_of classes heap side number around vs h inside p =
    let these = made classes heap side (object.scope (Some number) (Some around) vs) (inside, p) h in
    (these.0, these.1, last_owner heap side (object.scope (Some number) (Some around) vs))

-- ---- so it is kept

abbrev pub order_keeper : Keeper
order_keeper = record {
  Kept = Orderly;
  Grows = Grows;
  Runs = IsQuietRun;
  Acts = λ side. Unit {0};
  Scope = λ heap side block at. IsOf heap side at;
  Held = IsHeldBy;
  Own = IsOf;
  Usable = λ at. Unit {0};
  Function = λ side e. Unit {0};
  Block = λ side b. Unit {0};
  Enters = λ heap side number within. IsOf heap side within;
  operations = mildly;
  grows_not = grows_not;
  grows_on = grows_on;
  scope_later = λ old new g side block at h. g at side h;
  held_later = held_later;
  own_later = λ old new g side at h. g at side h;
  quiet = λ run quiet. quiet;
  held_rock = λ heap side r. tt;
  held_own = λ heap side at h p. h;
  held_taken = λ classes heap side v acts h. taken_held heap side v;
  asked = λ run runs heap side v op m h goes. any_value v;
  lengths = λ run runs. inr any_value;
  plain_usable = λ heap at h. tt;
  plain_begun = λ classes heap h. begun heap;
  plain_kept = plain_kept;
  special_usable = λ classes heap v n h b. any_some (special heap v n);
  method_usable = λ classes heap of n h u. any_some (method_at heap of n);
  bound_usable = λ classes heap at v c h u e. (any_value v, any_callee c);
  enters = entering;
  enters_later = λ old new g side number within h. g within side h;
  code = λ run runs side acts number code e. any_code number code;
  own_next = λ classes heap side content h. last_owner heap side content;
  usable_next = λ classes heap h. tt;
  instance_made = λ classes heap of owner h u e. made classes heap owner (object.instance of []) e h;
  method_made = method_made;
  text_method_made = λ classes heap side r id h.
      made classes heap side (object.method (value.Rock r) (callee.Native id)) (tt, tt) h;
  class_made = λ classes heap n side ms h acts p. made classes heap side (object.class n false ms) p h;
  function_made = λ run runs classes heap n side number block scope code vs h acts inside known around l.
      made classes heap side (object.function n side number scope vs) (refl, inside) h;
  scope_made = λ run runs classes heap side number block around vs h acts inside known e.
      scope_of classes heap side number around vs h inside
      (subst (Each (OnSome (IsHeldBy heap side))) (sym e) (each_replicate (OnSome (IsHeldBy heap side)) _ None tt));
  entered = λ run runs classes heap side number within code names ds a s bound vs h acts inside known given e p.
      scope_of classes heap side number within vs h inside p;
  slot_held = λ f runs acts classes heap h inside n.
      held_of heap f.side h.0 (slot_in_frame f heap n) (slot_at_of heap f.side h.0 (layouts_of f) f.scope
      (frames.place_of f n) n inside);
  slot_set = λ f runs acts classes heap h inside n v p.
      slot_changed classes heap f.side v p h (slot_in_frame f heap n)
      (slot_at_of heap f.side h.0 (layouts_of f) f.scope (frames.place_of f n) n inside);
  declared_own = λ f acts classes heap word h.
      there_own f heap (declared_place f word classes) (place_own f heap word classes (h.1 word));
  methods_set = λ classes heap side at ms h acts own p.
      changed classes heap at (with_methods ms) side own (methods_suit heap side ms p) h;
}
