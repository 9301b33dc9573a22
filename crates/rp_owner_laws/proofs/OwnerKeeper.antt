-- What stays of the objects that were there is kept, by the one induction over what code does.
use Rattle.std.proofs.Common.{◌≡◌, refl, sym, ap, subst, ◌⊎◌, inl, inr, ℕ, zero, suc, length, Bool, true, false, List}
use Rattle.std.proofs.Common.{[]}
use Rattle.std.proofs.Common.{◌∷◌, cond, if◌then◌else◌, map, slice_get, Option, Some, None, Ok, Err, arith}
use Rattle.std.specs.Prelude.{option_and_then, option_map, position, slice_set}
use Rattle.std.specs.Map.{lookup}
use Rattle.std.specs.Option.{option_map_or}
use Rattle.rp_attributes.specs.Attributes as attributes
use Rattle.rp_base.specs.declared.native.NativeId.{NativeId}
use Rattle.rp_base.specs.declared.native.NativeId.TheVariants as native
use Rattle.rp_base.specs.declared.word.TheConstants.{LEN}
use Rattle.rp_base.specs.declared.value.Name.{Name}
use Rattle.rp_base.specs.declared.value.Oid.{Oid}
use Rattle.rp_base.specs.declared.value.Side.{Side}
use Rattle.rp_base.specs.declared.value.Value.{Value}
use Rattle.rp_base.specs.declared.value.Value.TheVariants as value
use Rattle.rp_checker.specs.RowOf.{Operation}
use Rattle.rp_decl.specs.Records.{Class}
use Rattle.rp_ops.specs.Outcome as plain
use Rattle.rp_proxy.specs.Decide.{Decision, Monitor}
use Rattle.rp_store.specs.Heap.{Owned, changed_at, class_at, content_at, method_at, method_of, parent_at}
use Rattle.rp_store.specs.Heap.{slot_at as slot_value}
use Rattle.rp_store.specs.Key.{same_name}
use Rattle.rp_store.specs.Object as object
use Rattle.rp_store.specs.Object.{Content}
use Rattle.rp_store.specs.Parts.{class_of, methods, parent, slots}
use Rattle.rp_store.specs.Shape.{shape}
use Rattle.rp_store.specs.Writers.{with_methods, with_slot}
use Rattle.rp_store.specs.declared.object.Callee.TheVariants as callee
use Rattle.rp_meaning.specs.Classes.{class_there, declared_place, is_class, stands}
use Rattle.rp_meaning.specs.Frame.{Frame, Run, layouts_of, place_of}
use Rattle.rp_meaning.specs.Scopes.{Layouts, Place, Slot, global, globals_of, held, local, outer, outwards, slot_at}
use Rattle.rp_meaning.specs.Scopes.{slot_in}
use Rattle.rp_meaning.specs.Special.{Special, special}
use Rattle.rp_apart_laws.proofs.Lists.{each_get, each_replicate, each_set}
use Rattle.rp_apart_laws.specs.Apart.{Each, OnSome}
use Rattle.rp_keeper_laws.specs.Keepers.{Goes, slot_in_frame, with_new}
use Rattle.rp_keeper_laws.specs.Keepers as keepers
use Rattle.rp_keeper_laws.proofs.Everything.{any_code, read_on}
use Rattle.rp_owner_laws.specs.Code.{IsEnd, IsSuch}
use Rattle.rp_owner_laws.specs.Kept.{Acts, Bare, CalleeFits, Fits, Holds, Keeper, Kept, Usable, old_of, own, shapes}
use Rattle.rp_owner_laws.proofs.Keeping.{Spares, any_bare, appended, changed, next_usable, plain_keeper, read_fits}
use Rattle.rp_owner_laws.proofs.Keeping.{some_any, taken_held}

-- ---- what goes on behind a decision

pub ends_not : (d : Decision) → IsEnd d → Goes d → ⊥
ends_not (Ok go_on) p q = p
ends_not (Err e) p q = q

-- what is let through a proxy, where code of a script is, is nothing
pub asked : (k : Keeper) (run : Run) → IsSuch k run → (v : Value) (op : Operation) (m : Monitor) → Holds k v
    → Goes (run.decide v op m).0 → Bare k v
asked (shapes old) run such v op m p goes = any_bare old v
asked (own n old) run such (value.Rock r) op m p goes = tt
asked (own n old) run such (value.Ref at) op m p goes = p
asked (own n old) run such (value.Prox at) op m p goes =
    absurd (ends_not (run.decide (value.Prox at) op m).0 (such.tight.proxies at op m) goes)

-- and `len` of a value is decided as the reading of `__len__`
pub lengths : (k : Keeper) (run : Run) → IsSuch k run
    → (run.natives.needs native.Len 0 1 ≡ Some LEN) ⊎ ((v : Value) → Bare k v)
lengths (shapes old) run such = inr (any_bare old)
lengths (own n old) run such = inl such.tight.lengths

-- ---- objects that are made, and that change

pub made : (k : Keeper) (heap : List Owned) (side : Side) (c : Content) → Fits k c → Kept k heap
    → Kept k (with_new heap side c) × Unit {0}
made k heap side c p h = (appended k heap (record { owner = side; content = c } ∷ []) (p, tt) h, tt)

pub altered : (k : Keeper) (heap : List Owned) (at : Oid) (f : Content → Content) → Usable k at → Spares k f
    → Kept k heap
    → Kept k (changed_at heap at f) × Unit {0}
altered k heap at f usable spares h = (changed k (old_of k) heap at.0 f spares usable h, tt)

-- ---- methods

pub method_among : (k : Keeper) (ms : List (Name × Oid)) (n : Name) → Each (λ (m : Name × Oid). Usable k m.1) ms
    → OnSome (Usable k) (lookup (same_name n) ms)
method_among k [] n p = tt
method_among k (m ∷ ms) n p = by (same_name n m.0) (method_among k ms n p.1)
  where
    by : (b : Bool) → OnSome (Usable k) (lookup (same_name n) ms)
        → OnSome (Usable k) (cond b (Some m.1) (lookup (same_name n) ms))
    by true q = p.0
    by false q = q

pub methods_of : (k : Keeper) (c : Content) (n : Name) → Fits k c → OnSome (Usable k) (lookup (same_name n) (methods c))
methods_of k (object.class name declared ms) n p = method_among k ms n p
methods_of k c n p = tt

-- a method of a class that is the code's own
pub method_usable : (k : Keeper) (heap : List Owned) (of : Oid) (n : Name) → Kept k heap → Usable k of
    → OnSome (Usable k) (method_at heap of n)
method_usable k heap of n h p =
    read_on (Fits k) (OnSome (Usable k)) (λ (c : Content). lookup (same_name n) (methods c)) None (content_at heap of)
    (read_fits k heap of h p) (λ c q. methods_of k c n q) tt

pub class_usable : (k : Keeper) (heap : List Owned) (at : Oid) → Kept k heap → Usable k at
    → OnSome (Usable k) (class_at heap at)
class_usable k heap at h p =
    read_on (Fits k) (OnSome (Usable k)) class_of None (content_at heap at) (read_fits k heap at h p) of tt
  where
    of : (c : Content) → Fits k c → OnSome (Usable k) (class_of c)
    of (object.instance its fs) q = q
    of c q = tt

pub special_at : (k : Keeper) (heap : List Owned) (at : Oid) (n : Name) → Kept k heap → Usable k at
    → OnSome (Usable k) (method_of heap at n)
special_at k heap at n h p =
    read_on (Usable k) (OnSome (Usable k)) (λ (its : Oid). method_at heap its n) None (class_at heap at)
    (class_usable k heap at h p) (λ its q. method_usable k heap its n h q) tt

pub special_usable : (k : Keeper) (heap : List Owned) (v : Value) (n : Name) → Kept k heap → Bare k v
    → OnSome (λ (m : Special). Usable k m.function) (special heap v n)
special_usable k heap v n h p = by v p where
  of : (at : Oid) (function : Option Oid) → OnSome (Usable k) function
      → OnSome (λ (m : Special). Usable k m.function)
      (option_map (λ (f : Oid). record { function = f; of = value.Ref at }) function)
  of at None p = tt
  of at (Some f) p = p

  by : (v : Value) → Bare k v → OnSome (λ (m : Special). Usable k m.function) (special heap v n)
  by (value.Rock r) p = tt
  by (value.Ref at) p = of at (method_of heap at n) (special_at k heap at n h p)
  by (value.Prox at) p = of at (method_of heap at n) (special_at k heap at n h p)

pub native_fits : (k : Keeper) (id : Option NativeId) → OnSome (CalleeFits k) (option_map callee.Native id)
native_fits k None = tt
native_fits k (Some id) = tt

pub function_fits : (k : Keeper) (at : Option Oid) → OnSome (Usable k) at
    → OnSome (CalleeFits k) (option_map callee.Function at)
function_fits k None p = tt
function_fits k (Some at) p = p

pub callee_fits : (k : Keeper) (c : Content) (n : Name) (word : List ℕ) (s : plain.State) → Kept k s.store.heap
    → Fits k c → OnSome (CalleeFits k) (attributes.method_of c n word s)
callee_fits k (object.list xs) n word s h p = native_fits k _
callee_fits k (object.tuple xs) n word s h p = native_fits k _
callee_fits k (object.dict es) n word s h p = native_fits k _
callee_fits k (object.instance of fs) n word s h p =
    function_fits k (method_at s.store.heap of n) (method_usable k s.store.heap of n h p)
callee_fits k c n word s h p = tt

-- what is read of an object that may be used
pub content_fits : (k : Keeper) (heap : List Owned) (at : Oid) (c : Content) → Kept k heap → Usable k at
    → content_at heap at ≡ Some c → Fits k c
content_fits k heap at c h usable e = subst (OnSome (Fits k)) e (read_fits k heap at h usable)

-- ---- scopes

pub parent_usable : (k : Keeper) (heap : List Owned) (at : Oid) → Kept k heap → Usable k at
    → OnSome (Usable k) (parent_at heap at)
parent_usable k heap at h p =
    read_on (Fits k) (OnSome (Usable k)) parent None (content_at heap at) (read_fits k heap at h p) of tt
  where
    of : (c : Content) → Fits k c → OnSome (Usable k) (parent c)
    of (object.scope block around vs) p = p.0
    of c p = tt

pub outwards_usable : (k : Keeper) (n : ℕ) (heap : List Owned) (at : Oid) → Kept k heap → Usable k at
    → Usable k (outwards n heap at)
outwards_usable k zero heap at h p = p
outwards_usable k (suc n) heap at h p =
    read_on (Usable k) (Usable k) (outwards n heap) at (parent_at heap at) (parent_usable k heap at h p)
    (λ around q. outwards_usable k n heap around h q) p

abbrev SlotUsable : Keeper → Slot → Type 0
SlotUsable k slot = Usable k slot.scope

pub slot_usable : (k : Keeper) (layouts : Layouts) (heap : List Owned) (at : Oid) (place : Place) (n : Name)
    → Kept k heap → Usable k at → OnSome (SlotUsable k) (slot_at layouts heap at place n)
slot_usable k layouts heap at place n h p = of place where
  globals : (i : Option ℕ) → OnSome (SlotUsable k) (option_map (slot_in (globals_of heap at)) i)
  globals None = tt
  globals (Some i) = outwards_usable k (length heap) heap at h p

  of : (place : Place) → OnSome (SlotUsable k) (slot_at layouts heap at place n)
  of (local i) = p
  of (outer m i) = outwards_usable k m heap at h p
  of global = globals (position (same_name n) (layouts.locals 0))

pub slot_value_held : (k : Keeper) (heap : List Owned) (at : Oid) (i : ℕ) → Kept k heap → Usable k at
    → OnSome (Holds k) (slot_value heap at i)
slot_value_held k heap at i h p =
    read_on (Fits k) (OnSome (Holds k))
    (λ (c : Content). option_map_or (λ (slot : Option Value). slot) (slice_get (slots c) i) None) None
    (content_at heap at) (read_fits k heap at h p) of tt
  where
    those : (c : Content) → Fits k c → Each (OnSome (Holds k)) (slots c)
    those (object.scope block around vs) p = p.1
    those c p = tt

    of : (c : Content) → Fits k c
        → OnSome (Holds k) (option_map_or (λ (slot : Option Value). slot) (slice_get (slots c) i) None)
    of c p =
        read_on (OnSome (Holds k)) (OnSome (Holds k)) (λ (slot : Option Value). slot) None (slice_get (slots c) i)
        (each_get (OnSome (Holds k)) (slots c) i (those c p)) (λ slot q. q) tt

pub held_usable : (k : Keeper) (heap : List Owned) (slot : Option Slot) → Kept k heap → OnSome (SlotUsable k) slot
    → OnSome (Holds k) (held heap slot)
held_usable k heap None h p = tt
held_usable k heap (Some slot) h p = slot_value_held k heap slot.scope slot.index h p

-- a slot that is set

abbrev emptied : Option Value → Option Value
emptied o = None

pub emptied_set : (vs : List (Option Value)) (i : ℕ) (v : Option Value)
    → map emptied (slice_set vs i v) ≡ map emptied vs
emptied_set [] i v = refl
emptied_set (x ∷ xs) zero v = refl
emptied_set (x ∷ xs) (suc i) v = ap (λ (vs : List (Option Value)). None ∷ vs) (emptied_set xs i v)

pub slot_shape : (i : ℕ) (v : Option Value) (c : Content) → shape (with_slot i v c) ≡ shape c
slot_shape i v (object.scope block around vs) = ap (object.scope block around) (emptied_set vs i v)
slot_shape i v c = refl

pub slot_fits : (k : Keeper) (i : ℕ) (v : Option Value) → OnSome (Holds k) v → (c : Content) → Fits k c
    → Fits k (with_slot i v c)
slot_fits k i v p (object.scope block around vs) h = (h.0, each_set (OnSome (Holds k)) vs i v h.1 p)
slot_fits k i v p c h = h

pub slot_spares : (k : Keeper) (i : ℕ) (v : Option Value) → OnSome (Holds k) v → Spares k (with_slot i v)
slot_spares (shapes old) i v p = λ c. slot_shape i v c
slot_spares (own n old) i v p = λ c h. slot_fits (own n old) i v p c h

pub slot_changed : (k : Keeper) (heap : List Owned) (v : Option Value) → OnSome (Holds k) v → Kept k heap
    → (slot : Option Slot) → OnSome (SlotUsable k) slot
    → OnSome (λ (slot : Slot). Kept k (changed_at heap slot.scope (with_slot slot.index v)) × Unit {0}) slot
slot_changed k heap v q h None p = tt
slot_changed k heap v q h (Some slot) p =
    altered k heap slot.scope (with_slot slot.index v) p (slot_spares k slot.index v q) h

-- ---- classes

pub methods_shape : (ms : List (Name × Oid)) (c : Content) → shape (with_methods ms c) ≡ shape c
methods_shape ms (object.class n declared old) = refl
methods_shape ms c = refl

pub methods_fit : (k : Keeper) (ms : List (Name × Oid)) → Each (λ (m : Name × Oid). Usable k m.1) ms → (c : Content)
    → Fits k c → Fits k (with_methods ms c)
methods_fit k ms p (object.class n declared old) h = p
methods_fit k ms p c h = h

pub methods_spare : (k : Keeper) (ms : List (Name × Oid)) → Each (λ (m : Name × Oid). Usable k m.1) ms
    → Spares k (with_methods ms)
methods_spare (shapes old) ms p = λ c. methods_shape ms c
methods_spare (own n old) ms p = λ c h. methods_fit (own n old) ms p c h

-- declared classes are the module's
pub place_usable : (k : Keeper) (f : Frame) (word : List ℕ) (declared : List Class) → Acts k f.side
    → OnSome (Usable k) (declared_place f word declared)
place_usable (shapes old) f word declared acts =
    some_any (Usable (shapes old)) (λ at. tt) (declared_place f word declared)
place_usable (own n old) f word declared acts = by f.side.0 f.block acts where
  by : (side block : ℕ) → side ≡ suc n
      → OnSome (Usable (own n old))
      (declared_place (record f { side = record { 0 = side }; block = block }) word declared)
  by zero block e = absurd (omega arith)
  by (suc m) block e = tt

pub there_usable : (k : Keeper) (heap : List Owned) (at : Option Oid) → OnSome (Usable k) at
    → OnSome (Usable k) (option_and_then (class_there heap) at)
there_usable k heap None p = tt
there_usable k heap (Some at) p = by (stands is_class heap at) where
  by : (b : Bool) → OnSome (Usable k) (if b then Some at else None)
  by true = p
  by false = tt

-- ---- so it is kept

abbrev pub owner_keeper : Keeper → keepers.Keeper
owner_keeper k = record {
  Kept = λ classes heap. Kept k heap;
  Grows = λ old new. Unit {0};
  Runs = IsSuch k;
  Acts = Acts k;
  Scope = λ heap side block at. Usable k at;
  Held = λ heap side v. Holds k v;
  Own = λ heap side at. Usable k at;
  Usable = Usable k;
  Function = λ side e. Unit {0};
  Block = λ side b. Unit {0};
  Enters = λ heap side number within. Usable k within;
  operations = λ heap. plain_keeper k;
  grows_not = λ heap. tt;
  grows_on = λ a b c g h. tt;
  scope_later = λ old new g side block at h. h;
  held_later = λ old new g side v h. h;
  own_later = λ old new g side at h. h;
  quiet = λ run such. such.quiet;
  held_rock = λ heap side r. tt;
  held_own = λ heap side at h. h;
  held_taken = λ classes heap side v acts h. taken_held k heap side v acts h;
  asked = λ run such heap side v op m h goes. asked k run such v op m h goes;
  lengths = λ run such. lengths k run such;
  plain_usable = λ heap at h. h;
  plain_begun = λ classes heap h. h;
  plain_kept = λ classes old new h m. (m, tt);
  special_usable = λ classes heap v n h b. special_usable k heap v n h b;
  method_usable = λ classes heap of n h u. method_usable k heap of n h u;
  bound_usable = λ classes heap at v c h u e. content_fits k heap at (object.method v c) h u e;
  enters = λ classes heap at name side number within ds h u e.
      content_fits k heap at (object.function name side number within ds) h u e;
  enters_later = λ old new g side number within h. h;
  code = λ run runs side acts number code e. any_code number code;
  own_next = λ classes heap side content h. next_usable k heap h;
  usable_next = λ classes heap h. next_usable k heap h;
  instance_made = λ classes heap of owner h u e. made k heap owner (object.instance of []) u h;
  method_made = λ classes s at owner content n word called h u own e m.
      made k s.store.heap owner (object.method (value.Ref at) called) (
        u,
        subst (OnSome (CalleeFits k)) m
            (callee_fits k content n word s h (content_fits k s.store.heap at content h u e)),
      ) h;
  text_method_made = λ classes heap side r id h.
      made k heap side (object.method (value.Rock r) (callee.Native id)) (tt, tt) h;
  class_made = λ classes heap n side ms h acts p. made k heap side (object.class n false ms) p h;
  function_made = λ run runs classes heap n side number block scope code vs h acts inside known around l.
      made k heap side (object.function n side number scope vs) (acts, inside) h;
  scope_made = λ run runs classes heap side number block around vs h acts inside known e. (
    appended k heap (record { owner = side; content = object.scope (Some number) (Some around) vs } ∷ [])
        ((inside, subst (Each (OnSome (Holds k))) (sym e) (each_replicate (OnSome (Holds k)) _ None tt)), tt) h,
    tt,
    next_usable k heap h,
  );
  entered = λ run runs classes heap side number within code names ds a s bound vs h acts inside known given e p. (
    appended k heap (record { owner = side; content = object.scope (Some number) (Some within) vs } ∷ [])
        ((inside, p), tt) h,
    tt,
    next_usable k heap h,
  );
  slot_held = λ f runs acts classes heap h inside n.
      held_usable k heap (slot_in_frame f heap n) h (slot_usable k (layouts_of f) heap f.scope
      (place_of f n) n h inside);
  slot_set = λ f runs acts classes heap h inside n v p.
      slot_changed k heap v p h (slot_in_frame f heap n) (slot_usable k (layouts_of f) heap f.scope
      (place_of f n) n h inside);
  declared_own = λ f acts classes heap word h.
      there_usable k heap (declared_place f word classes) (place_usable k f word classes acts);
  methods_set = λ classes heap side at ms h acts own p. altered k heap at (with_methods ms) own
      (methods_spare k ms p) h;
}
