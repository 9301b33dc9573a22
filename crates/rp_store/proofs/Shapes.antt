-- What a heap keeps where it goes on, and what a store keeps where one object changes or is added.
use Rattle.std.proofs.Common.{◌≡◌, ℕ, zero, suc, ◌<◌, Bool, true, false, cond, List, [], ◌∷◌, ◌++◌, append-nil, append_assoc, length, map, Option, Some, None, slice_get, slice_set, IsSomeAnd, if◌then◌else◌, refl, sym, ap, subst, ◌∙◌, arith}
use Rattle.std.specs.List.{All}
use Rattle.std.specs.Prelude.{insert, remove}
use Rattle.std.specs.Map.{lookup, remove_entry}
use Rattle.std.specs.Option.{IfSome, option_map, option_map_or}
use Rattle.std.proofs.lemmas.List.Elements.{All-append, All-cons, All-nil, All-drop, All-head, All-set, All-tail, All-take, All-weaker}
use Rattle.std.proofs.lemmas.List.{map-append}
use Rattle.rp_base.specs.declared.value.Oid.{Oid}
use Rattle.rp_base.specs.declared.value.Name.{Name}
use Rattle.rp_base.specs.declared.value.Rock.{Rock}
use Rattle.rp_base.specs.declared.value.Side.{Side}
use Rattle.rp_base.specs.declared.value.Value.{Value}
use Rattle.rp_base.specs.declared.value.Value.TheVariants as value
use Rattle.rp_dict.specs.Dict.{insert_entry}
use Rattle.rp_store.specs.declared.key.Key.{Key}
use Rattle.rp_store.specs.declared.object.Callee.{Callee}
use Rattle.rp_store.specs.declared.object.Callee.TheVariants as callee
use Rattle.rp_store.specs.Heap.{Owned, IsHeld, Names, changed_at, changed_from, content_at, owner_at}
use Rattle.rp_store.specs.Kept.{AreSound, Holds, IsCallee, IsEntry, IsFit, IsKept, IsReceiver, IsSafe, IsScopeOf, IsSound}
use Rattle.rp_store.specs.Key.{key_form, same_key, same_name}
use Rattle.rp_store.specs.Object.{Content, list, tuple, dict, instance, class, function, method, scope, Entry}
use Rattle.rp_store.specs.Parts.{IsClass, IsDict, IsFunction, IsInstance, IsList, IsScope, fields}
use Rattle.rp_store.specs.Shape.{KeepsShape, ShapeStays, shape, shape_at, shaped}
use Rattle.rp_store.specs.Writers.{extended, first_written, inserted, on_dict, on_fields, on_list, on_methods, pushed, with_element, with_elements, with_entry, with_field, with_method, with_methods, with_slot, without_element, without_entry, without_field, without_methods}

-- the shape of what stands at a place

pub slice_get-map : {A B : Type 0} (f : A → B) (xs : List A) (i : ℕ) → slice_get (map f xs) i ≡ option_map f (slice_get xs i)
slice_get-map f [] i = refl
slice_get-map f (x ∷ xs) zero = refl
slice_get-map f (x ∷ xs) (suc i) = slice_get-map f xs i

slice_get-front : {A : Type 0} (xs more : List A) (i : ℕ) → i < length xs → slice_get (xs ++ more) i ≡ slice_get xs i
slice_get-front [] more i held = absurd (omega arith)
slice_get-front (x ∷ xs) more zero held = refl
slice_get-front (x ∷ xs) more (suc i) held = slice_get-front xs more i (omega arith)

held-map : (xs : List Owned) (i : ℕ) → i < length xs → i < length (map shaped xs)
held-map [] i held = held
held-map (x ∷ xs) zero held = omega arith
held-map (x ∷ xs) (suc i) held = let within : i < length (map shaped xs) = held-map xs i (omega arith) in omega arith

pub named_held : (P : Content → Type 0) (heap : List Owned) (i : ℕ) → IsSomeAnd (option_map (λ o. o.content) (slice_get heap i)) P → i < length heap
named_held P [] i h = absurd h
named_held P (o ∷ os) zero h = omega arith
named_held P (o ∷ os) (suc i) h = omega (arith, named_held P os i h)

-- a test of the shape alone
abbrev IsOfShape : (Content → Type 0) → Type 0
IsOfShape P = ((c : Content) → P c → P (shape c)) × ((c : Content) → P (shape c) → P c)

class_shape : IsOfShape IsClass
class_shape = (to, from) where
  to : (c : Content) → IsClass c → IsClass (shape c)
  to (list xs) h = h
  to (tuple xs) h = h
  to (dict es) h = h
  to (instance of fs) h = h
  to (class n d ms) h = h
  to (function n u b w ds) h = h
  to (method r c) h = h
  to (scope b p vs) h = h

  from : (c : Content) → IsClass (shape c) → IsClass c
  from (list xs) h = h
  from (tuple xs) h = h
  from (dict es) h = h
  from (instance of fs) h = h
  from (class n d ms) h = h
  from (function n u b w ds) h = h
  from (method r c) h = h
  from (scope b p vs) h = h

function_shape : IsOfShape IsFunction
function_shape = (to, from) where
  to : (c : Content) → IsFunction c → IsFunction (shape c)
  to (list xs) h = h
  to (tuple xs) h = h
  to (dict es) h = h
  to (instance of fs) h = h
  to (class n d ms) h = h
  to (function n u b w ds) h = h
  to (method r c) h = h
  to (scope b p vs) h = h

  from : (c : Content) → IsFunction (shape c) → IsFunction c
  from (list xs) h = h
  from (tuple xs) h = h
  from (dict es) h = h
  from (instance of fs) h = h
  from (class n d ms) h = h
  from (function n u b w ds) h = h
  from (method r c) h = h
  from (scope b p vs) h = h

scope_shape : IsOfShape IsScope
scope_shape = (to, from) where
  to : (c : Content) → IsScope c → IsScope (shape c)
  to (list xs) h = h
  to (tuple xs) h = h
  to (dict es) h = h
  to (instance of fs) h = h
  to (class n d ms) h = h
  to (function n u b w ds) h = h
  to (method r c) h = h
  to (scope b p vs) h = h

  from : (c : Content) → IsScope (shape c) → IsScope c
  from (list xs) h = h
  from (tuple xs) h = h
  from (dict es) h = h
  from (instance of fs) h = h
  from (class n d ms) h = h
  from (function n u b w ds) h = h
  from (method r c) h = h
  from (scope b p vs) h = h

list_shape : IsOfShape IsList
list_shape = (to, from) where
  to : (c : Content) → IsList c → IsList (shape c)
  to (list xs) h = h
  to (tuple xs) h = h
  to (dict es) h = h
  to (instance of fs) h = h
  to (class n d ms) h = h
  to (function n u b w ds) h = h
  to (method r c) h = h
  to (scope b p vs) h = h

  from : (c : Content) → IsList (shape c) → IsList c
  from (list xs) h = h
  from (tuple xs) h = h
  from (dict es) h = h
  from (instance of fs) h = h
  from (class n d ms) h = h
  from (function n u b w ds) h = h
  from (method r c) h = h
  from (scope b p vs) h = h

dict_shape : IsOfShape IsDict
dict_shape = (to, from) where
  to : (c : Content) → IsDict c → IsDict (shape c)
  to (list xs) h = h
  to (tuple xs) h = h
  to (dict es) h = h
  to (instance of fs) h = h
  to (class n d ms) h = h
  to (function n u b w ds) h = h
  to (method r c) h = h
  to (scope b p vs) h = h

  from : (c : Content) → IsDict (shape c) → IsDict c
  from (list xs) h = h
  from (tuple xs) h = h
  from (dict es) h = h
  from (instance of fs) h = h
  from (class n d ms) h = h
  from (function n u b w ds) h = h
  from (method r c) h = h
  from (scope b p vs) h = h

instance_shape : IsOfShape IsInstance
instance_shape = (to, from) where
  to : (c : Content) → IsInstance c → IsInstance (shape c)
  to (list xs) h = h
  to (tuple xs) h = h
  to (dict es) h = h
  to (instance of fs) h = h
  to (class n d ms) h = h
  to (function n u b w ds) h = h
  to (method r c) h = h
  to (scope b p vs) h = h

  from : (c : Content) → IsInstance (shape c) → IsInstance c
  from (list xs) h = h
  from (tuple xs) h = h
  from (dict es) h = h
  from (instance of fs) h = h
  from (class n d ms) h = h
  from (function n u b w ds) h = h
  from (method r c) h = h
  from (scope b p vs) h = h

value_shape : IsOfShape (λ c. ¬ IsScope c)
value_shape = ((λ c h k. h (scope_shape.1 c k)), (λ c h k. h (scope_shape.0 c k)))

module _ (heap new : List Owned) (keeps : ShapeStays heap new) where
  shaped_at : (i : ℕ) → i < length heap → option_map shaped (slice_get new i) ≡ option_map shaped (slice_get heap i)
  shaped_at i held =
      sym (slice_get-map shaped new i) ∙ ap (λ os. slice_get os i) keeps.same ∙ slice_get-front (map shaped heap) keeps.more i (held-map heap i held)
      ∙ slice_get-map shaped heap i

  owner_by : (x : Option Owned) → option_map (λ o. o.owner) x ≡ option_map (λ o. o.owner) (option_map shaped x)
  owner_by None = refl
  owner_by (Some o) = refl

  shape_by : (x : Option Owned) → option_map shape (option_map (λ o. o.content) x) ≡ option_map (λ o. o.content) (option_map shaped x)
  shape_by None = refl
  shape_by (Some o) = refl

  pub owner_at-kept : (at : Oid) → IsHeld heap at → owner_at new at ≡ owner_at heap at
  owner_at-kept at held =
      owner_by (slice_get new at.0) ∙ ap (option_map (λ o. o.owner)) (shaped_at at.0 held) ∙ sym (owner_by (slice_get heap at.0))

  shape_at-kept : (at : Oid) → IsHeld heap at → option_map shape (content_at new at) ≡ option_map shape (content_at heap at)
  shape_at-kept at held =
      shape_by (slice_get new at.0) ∙ ap (option_map (λ o. o.content)) (shaped_at at.0 held) ∙ sym (shape_by (slice_get heap at.0))

  named_by : (P : Content → Type 0) → IsOfShape P → (x y : Option Content) → option_map shape x ≡ option_map shape y → IsSomeAnd y P → IsSomeAnd x P
  named_by P of x None e h = absurd h
  named_by P of None (Some d) e h = absurd (cc)
  named_by P of (Some c) (Some d) e h = of.1 c (subst (λ (z : Option Content). IsSomeAnd z P) (sym e) (of.0 d h))

  pub Names-kept : (P : Content → Type 0) → IsOfShape P → (at : Oid) → Names heap P at → Names new P at
  Names-kept P of at h = named_by P of (content_at new at) (content_at heap at) (shape_at-kept at (named_held P heap at.0 h)) h

  pub IsSound-kept : (v : Value) → IsSound heap v → IsSound new v
  IsSound-kept (value.Rock rock) h = tt
  IsSound-kept (value.Ref at) h = Names-kept (λ c. ¬ IsScope c) value_shape at h
  IsSound-kept (value.Prox at) h = Names-kept (λ c. ¬ IsScope c) value_shape at h

  pub AreSound-kept : (vs : List Value) → AreSound heap vs → AreSound new vs
  AreSound-kept vs h = All-weaker (IsSound heap) (IsSound new) IsSound-kept vs h

  some_held : (P : Content → Type 0) (at : Oid) (side : Side) → Names heap P at → owner_at heap at ≡ Some side → owner_at new at ≡ Some side
  some_held P at side h e = owner_at-kept at (named_held P heap at.0 h) ∙ e

  owned_held : (xs : List Owned) (i : ℕ) (side : Side) → option_map (λ o. o.owner) (slice_get xs i) ≡ Some side → i < length xs
  owned_held [] i side e = absurd (cc)
  owned_held (o ∷ os) zero side e = omega arith
  owned_held (o ∷ os) (suc i) side e = omega (arith, owned_held os i side e)

  owner_kept : (at : Oid) (side : Side) → owner_at heap at ≡ Some side → owner_at new at ≡ Some side
  owner_kept at side e = owner_at-kept at (owned_held heap at.0 side e) ∙ e

  IsSafe-kept : (side : Side) (v : Value) → IsSound heap v → IsSafe heap side v → IsSafe new side v
  IsSafe-kept side (value.Rock rock) sound h = tt
  IsSafe-kept side (value.Ref at) sound h = (λ script. owner_kept at side (h script))
  IsSafe-kept side (value.Prox at) sound h = (λ script e. h script (sym (owner_at-kept at (named_held (λ c. ¬ IsScope c) heap at.0 sound)) ∙ e))

  IsReceiver-kept : (owner : Side) (v : Value) → IsReceiver heap owner v → IsReceiver new owner v
  IsReceiver-kept owner (value.Rock rock) h = tt
  IsReceiver-kept owner (value.Ref at) h = owner_kept at owner h
  IsReceiver-kept owner (value.Prox at) h = absurd h

  IsCallee-kept : (called : Callee) → IsCallee heap called → IsCallee new called
  IsCallee-kept (callee.Function at) h = Names-kept IsFunction function_shape at h
  IsCallee-kept (callee.Native id) h = tt

  IsScopeOf-kept : (owner : Side) (at : Oid) → IsScopeOf heap owner at → IsScopeOf new owner at
  IsScopeOf-kept owner at h = (Names-kept IsScope scope_shape at h.0, owner_kept at owner h.1)

  parent_kept : (owner : Side) (parent : Option Oid) → IfSome parent (IsScopeOf heap owner) → IfSome parent (IsScopeOf new owner)
  parent_kept owner None h = tt
  parent_kept owner (Some at) h = IsScopeOf-kept owner at h

  slot_kept : (owner : Side) (slot : Option Value)
      → IfSome slot (λ v. IsSound heap v × IsSafe heap owner v) → IfSome slot (λ v. IsSound new v × IsSafe new owner v)
  slot_kept owner None h = tt
  slot_kept owner (Some v) h = (IsSound-kept v h.0, IsSafe-kept owner v h.0 h.1)

  -- what an object of an owner may hold
  pub Holds-kept : (owner : Side) (c : Content) → Holds heap owner c → Holds new owner c
  Holds-kept owner (list elements) h = AreSound-kept elements h
  Holds-kept owner (tuple elements) h = AreSound-kept elements h
  Holds-kept owner (dict entries) h = All-weaker (IsEntry heap) (IsEntry new) (λ entry e. (e.0, IsSound-kept entry.1.1 e.1)) entries h
  Holds-kept owner (instance of fields) h =
      (Names-kept IsClass class_shape of h.0, All-weaker (λ field. IsSound heap field.1) (λ field. IsSound new field.1) (λ field e. IsSound-kept field.1 e) fields h.1)
  Holds-kept owner (class name declared methods) h =
      All-weaker (λ m. Names heap IsFunction m.1) (λ m. Names new IsFunction m.1) (λ m e. Names-kept IsFunction function_shape m.1 e) methods h
  Holds-kept owner (function name unit block within defaults) h = (h.0, IsScopeOf-kept owner within h.1, AreSound-kept defaults h.2)
  Holds-kept owner (method receiver called) h = (IsSound-kept receiver h.0, IsReceiver-kept owner receiver h.1, IsCallee-kept called h.2)
  Holds-kept owner (scope block parent slots) h = (parent_kept owner parent h.0, All-weaker _ _ (slot_kept owner) slots h.1)

-- a change that leaves the shape
abbrev pub IsShapely : (Content → Content) → Type 0
IsShapely change = (c : Content) → shape (change c) ≡ shape c

shapes-changed : (heap : List Owned) (i : ℕ) (change : Content → Content) → IsShapely change → map shaped (changed_from heap i change) ≡ map shaped heap
shapes-changed [] i change same = refl
shapes-changed (o ∷ os) zero change same = ap (λ c. record { owner = o.owner; content = c } ∷ map shaped os) (same o.content)
shapes-changed (o ∷ os) (suc i) change same = ap (λ rest. shaped o ∷ rest) (shapes-changed os i change same)

pub ShapeStays-same : (old new : List Owned) → new ≡ old → ShapeStays old new
ShapeStays-same old new e = record { more = []; same = ap (map shaped) e ∙ sym (append-nil (map shaped old)) }

pub ShapeStays-trans : (old mid new : List Owned) → ShapeStays old mid → ShapeStays mid new → ShapeStays old new
ShapeStays-trans old mid new a b =
    record { more = a.more ++ b.more; same = b.same ∙ ap (λ os. os ++ b.more) a.same ∙ append_assoc (map shaped old) a.more b.more }

pub ShapeStays-changed : (heap : List Owned) (at : Oid) (change : Content → Content) → IsShapely change → ShapeStays heap (changed_at heap at change)
ShapeStays-changed heap at change same = record { more = []; same = shapes-changed heap at.0 change same ∙ sym (append-nil (map shaped heap)) }

pub ShapeStays-grown : (old new more : List Owned) → new ≡ old ++ more → ShapeStays old new
ShapeStays-grown old new more e = record { more = map shaped more; same = ap (map shaped) e ∙ map-append shaped old more }

-- a change of the object at a place after which it holds what it may, in each heap that goes on from this one
pub record Allows (heap : List Owned) (at : Oid) (change : Content → Content) : Type 0 where
  pub shapely : IsShapely change
  pub still : (new : List Owned) → ShapeStays heap new → (o : Owned) → slice_get heap at.0 ≡ Some o → Holds new o.owner o.content → Holds new o.owner (change o.content)

All-changed : (P : Owned → Type 0) (heap : List Owned) (i : ℕ) (change : Content → Content)
    → ((o : Owned) → slice_get heap i ≡ Some o → P o → P (record { owner = o.owner; content = change o.content })) → All P heap → All P (changed_from heap i change)
All-changed P [] i change still h = h
All-changed P (o ∷ os) zero change still h = All-cons P _ os (still o refl (All-head P o os h)) (All-tail P o os h)
All-changed P (o ∷ os) (suc i) change still h = All-cons P o _ (All-head P o os h) (All-changed P os i change still (All-tail P o os h))

pub IsKept-changed : (heap : List Owned) (at : Oid) (change : Content → Content) → Allows heap at change → IsKept heap → IsKept (changed_at heap at change)
IsKept-changed heap at change allows kept =
    let new : List Owned = changed_at heap at change in
    let keeps : ShapeStays heap new = ShapeStays-changed heap at change allows.shapely in
    record {
      each = All-changed (λ o. Holds new o.owner o.content) heap at.0 change (λ o is h. allows.still new keeps o is h)
          (All-weaker (λ o. Holds heap o.owner o.content) (λ o. Holds new o.owner o.content) (λ o h. Holds-kept heap new keeps o.owner o.content h) heap kept.each);
    }

-- an object put last, which holds what it may
pub IsKept-last : (heap : List Owned) (o : Owned) → IsKept heap → Holds heap o.owner o.content → IsKept (heap ++ o ∷ [])
IsKept-last heap o kept h =
    let new : List Owned = heap ++ o ∷ [] in
    let keeps : ShapeStays heap new = ShapeStays-grown heap new (o ∷ []) refl in
    let P : Owned → Type 0 = λ p. Holds new p.owner p.content in
    record {
      each = All-append P heap (o ∷ []) (All-weaker (λ p. Holds heap p.owner p.content) P (λ p h. Holds-kept heap new keeps p.owner p.content h) heap kept.each)
          (All-cons P o [] (Holds-kept heap new keeps o.owner o.content h) (All-nil P));
    }

pub Allows-same : (heap : List Owned) (at : Oid) → Allows heap at (λ c. c)
Allows-same heap at = record { shapely = λ c. refl; still = λ new keeps o is h. h }

-- lists

shapely_list : (f : List Value → List Value) → IsShapely (on_list f)
shapely_list f (list xs) = refl
shapely_list f (tuple xs) = refl
shapely_list f (dict es) = refl
shapely_list f (instance of fs) = refl
shapely_list f (class n d ms) = refl
shapely_list f (function n u b w ds) = refl
shapely_list f (method r q) = refl
shapely_list f (scope b p vs) = refl

list_still : (f : List Value → List Value) (new : List Owned) → ((xs : List Value) → AreSound new xs → AreSound new (f xs))
    → (owner : Side) (c : Content) → Holds new owner c → Holds new owner (on_list f c)
list_still f new go owner (list xs) h = go xs h
list_still f new go owner (tuple xs) h = h
list_still f new go owner (dict es) h = h
list_still f new go owner (instance of fs) h = h
list_still f new go owner (class n d ms) h = h
list_still f new go owner (function n u b w ds) h = h
list_still f new go owner (method r q) h = h
list_still f new go owner (scope b p vs) h = h

pub Allows-list : (heap : List Owned) (at : Oid) (f : List Value → List Value)
    → ((new : List Owned) → ShapeStays heap new → (xs : List Value) → AreSound new xs → AreSound new (f xs)) → Allows heap at (on_list f)
Allows-list heap at f go = record { shapely = shapely_list f; still = λ new keeps o is h. list_still f new (go new keeps) o.owner o.content h }

-- dicts

shapely_dict : (f : List Entry → List Entry) → IsShapely (on_dict f)
shapely_dict f (list xs) = refl
shapely_dict f (tuple xs) = refl
shapely_dict f (dict es) = refl
shapely_dict f (instance of fs) = refl
shapely_dict f (class n d ms) = refl
shapely_dict f (function n u b w ds) = refl
shapely_dict f (method r q) = refl
shapely_dict f (scope b p vs) = refl

dict_still : (f : List Entry → List Entry) (new : List Owned) → ((es : List Entry) → All (IsEntry new) es → All (IsEntry new) (f es))
    → (owner : Side) (c : Content) → Holds new owner c → Holds new owner (on_dict f c)
dict_still f new go owner (list xs) h = h
dict_still f new go owner (tuple xs) h = h
dict_still f new go owner (dict es) h = go es h
dict_still f new go owner (instance of fs) h = h
dict_still f new go owner (class n d ms) h = h
dict_still f new go owner (function n u b w ds) h = h
dict_still f new go owner (method r q) h = h
dict_still f new go owner (scope b p vs) h = h

pub Allows-dict : (heap : List Owned) (at : Oid) (f : List Entry → List Entry)
    → ((new : List Owned) → ShapeStays heap new → (es : List Entry) → All (IsEntry new) es → All (IsEntry new) (f es)) → Allows heap at (on_dict f)
Allows-dict heap at f go = record { shapely = shapely_dict f; still = λ new keeps o is h. dict_still f new (go new keeps) o.owner o.content h }

-- fields of instances

abbrev Field : Type 0
Field = Name × Value

abbrev FieldSound : List Owned → Field → Type 0
FieldSound heap field = IsSound heap field.1

shapely_fields : (f : List Field → List Field) → IsShapely (on_fields f)
shapely_fields f (list xs) = refl
shapely_fields f (tuple xs) = refl
shapely_fields f (dict es) = refl
shapely_fields f (instance of fs) = refl
shapely_fields f (class n d ms) = refl
shapely_fields f (function n u b w ds) = refl
shapely_fields f (method r q) = refl
shapely_fields f (scope b p vs) = refl

fields_still : (f : List Field → List Field) (new : List Owned) → ((fs : List Field) → All (FieldSound new) fs → All (FieldSound new) (f fs))
    → (owner : Side) (c : Content) → Holds new owner c → Holds new owner (on_fields f c)
fields_still f new go owner (list xs) h = h
fields_still f new go owner (tuple xs) h = h
fields_still f new go owner (dict es) h = h
fields_still f new go owner (instance of fs) h = (h.0, go fs h.1)
fields_still f new go owner (class n d ms) h = h
fields_still f new go owner (function n u b w ds) h = h
fields_still f new go owner (method r q) h = h
fields_still f new go owner (scope b p vs) h = h

pub Allows-fields : (heap : List Owned) (at : Oid) (f : List Field → List Field)
    → ((new : List Owned) → ShapeStays heap new → (fs : List Field) → All (FieldSound new) fs → All (FieldSound new) (f fs)) → Allows heap at (on_fields f)
Allows-fields heap at f go = record { shapely = shapely_fields f; still = λ new keeps o is h. fields_still f new (go new keeps) o.owner o.content h }

-- methods of classes

abbrev Method : Type 0
Method = Name × Oid

abbrev MethodSound : List Owned → Method → Type 0
MethodSound heap m = Names heap IsFunction m.1

shapely_methods : (f : List Method → List Method) → IsShapely (on_methods f)
shapely_methods f (list xs) = refl
shapely_methods f (tuple xs) = refl
shapely_methods f (dict es) = refl
shapely_methods f (instance of fs) = refl
shapely_methods f (class n d ms) = refl
shapely_methods f (function n u b w ds) = refl
shapely_methods f (method r q) = refl
shapely_methods f (scope b p vs) = refl

methods_still : (f : List Method → List Method) (new : List Owned) → ((ms : List Method) → All (MethodSound new) ms → All (MethodSound new) (f ms))
    → (owner : Side) (c : Content) → Holds new owner c → Holds new owner (on_methods f c)
methods_still f new go owner (list xs) h = h
methods_still f new go owner (tuple xs) h = h
methods_still f new go owner (dict es) h = h
methods_still f new go owner (instance of fs) h = h
methods_still f new go owner (class n d ms) h = go ms h
methods_still f new go owner (function n u b w ds) h = h
methods_still f new go owner (method r q) h = h
methods_still f new go owner (scope b p vs) h = h

pub Allows-methods : (heap : List Owned) (at : Oid) (f : List Method → List Method)
    → ((new : List Owned) → ShapeStays heap new → (ms : List Method) → All (MethodSound new) ms → All (MethodSound new) (f ms)) → Allows heap at (on_methods f)
Allows-methods heap at f go = record { shapely = shapely_methods f; still = λ new keeps o is h. methods_still f new (go new keeps) o.owner o.content h }

-- slots of scopes

abbrev Slot : Type 0
Slot = Option Value

abbrev SlotSound : List Owned → Side → Slot → Type 0
SlotSound heap owner slot = IfSome slot (λ v. IsSound heap v × IsSafe heap owner v)

abbrev blank : Slot → Slot
blank slot = None

blank-set : (vs : List Slot) (i : ℕ) (v : Slot) → map blank (slice_set vs i v) ≡ map blank vs
blank-set [] i v = refl
blank-set (x ∷ xs) zero v = refl
blank-set (x ∷ xs) (suc i) v = ap (λ rest. None ∷ rest) (blank-set xs i v)

shapely_slot : (i : ℕ) (v : Slot) → IsShapely (with_slot i v)
shapely_slot i v (list xs) = refl
shapely_slot i v (tuple xs) = refl
shapely_slot i v (dict es) = refl
shapely_slot i v (instance of fs) = refl
shapely_slot i v (class n d ms) = refl
shapely_slot i v (function n u b w ds) = refl
shapely_slot i v (method r q) = refl
shapely_slot i v (scope b p vs) = ap (scope b p) (blank-set vs i v)

slot_still : (i : ℕ) (v : Slot) (new : List Owned) (owner : Side) → SlotSound new owner v → (c : Content) → Holds new owner c → Holds new owner (with_slot i v c)
slot_still i v new owner sound (list xs) h = h
slot_still i v new owner sound (tuple xs) h = h
slot_still i v new owner sound (dict es) h = h
slot_still i v new owner sound (instance of fs) h = h
slot_still i v new owner sound (class n d ms) h = h
slot_still i v new owner sound (function n u b w ds) h = h
slot_still i v new owner sound (method r q) h = h
slot_still i v new owner sound (scope b p vs) h = (h.0, All-set (SlotSound new owner) vs i v sound h.1)

-- maps, where keys are compared by a test

module _ {K V : Type 0} (P : K × V → Type 0) where
  set_case : (b : Bool) (k : K) (v : V) (e : K × V) (es rest : List (K × V)) → P (e.0, v) → P e → All P es → All P rest
      → All P (if b then (e.0, v) ∷ es else e ∷ rest)
  set_case true k v e es rest new is h more = All-cons P (e.0, v) es new h
  set_case false k v e es rest new is h more = All-cons P e rest is more

  remove_case : (b : Bool) (e : K × V) (es rest : List (K × V)) → P e → All P es → All P rest → All P (cond b es (e ∷ rest))
  remove_case true e es rest is h more = h
  remove_case false e es rest is h more = All-cons P e rest is more

  All-removed : (test : K → Bool) (es : List (K × V)) → All P es → All P (remove_entry test es)
  All-removed test [] h = h
  All-removed test (e ∷ es) h =
      remove_case (test e.0) e es (remove_entry test es) (All-head P e es h) (All-tail P e es h) (All-removed test es (All-tail P e es h))

  -- where the value fits each key
  All-inserted : (same : K → K → Bool) (k : K) (v : V) → ((l : K) → P (l, v)) → (es : List (K × V)) → All P es → All P (insert_entry same es k v)
  All-inserted same k v fits [] h = All-cons P (k, v) [] (fits k) h
  All-inserted same k v fits (e ∷ es) h =
      set_case (same k e.0) k v e es (insert_entry same es k v) (fits e.0) (All-head P e es h) (All-tail P e es h)
      (All-inserted same k v fits es (All-tail P e es h))

module _ (new : List Owned) (key : Key) (r : Rock) (v : Value) (form : key_form r ≡ Some key) (sound : IsSound new v) where
  put_case : (b : Bool) (e : Entry) (es : List Entry) (found : Option (Rock × Value)) → IsEntry new e → All (IsEntry new) es
      → All (IsEntry new) (insert_entry same_key es key (option_map_or (λ x. x.0) found r, v))
      → All (IsEntry new)
      (if b then (e.0, (option_map_or (λ x. x.0) (cond b (Some e.1) found) r, v)) ∷ es
      else e ∷ insert_entry same_key es key (option_map_or (λ x. x.0) (cond b (Some e.1) found) r, v))
  put_case true e es found is h more = All-cons (IsEntry new) _ es (is.0, sound) h
  put_case false e es found is h more = All-cons (IsEntry new) e _ is more

  All-put : (es : List Entry) → All (IsEntry new) es → All (IsEntry new) (insert_entry same_key es key (first_written key r es, v))
  All-put [] h = All-cons (IsEntry new) _ [] (form, sound) h
  All-put (e ∷ es) h =
      put_case (same_key key e.0) e es (lookup (same_key key) es) (All-head (IsEntry new) e es h) (All-tail (IsEntry new) e es h)
      (All-put es (All-tail (IsEntry new) e es h))

-- each writer

one : {X : Type 0} (P : X → Type 0) (x : X) → P x → All P (x ∷ [])
one P x h = All-cons P x [] h (All-nil P)

module _ (heap : List Owned) (at : Oid) where
  pub Allows-pushed : (v : Value) → IsSound heap v → Allows heap at (pushed v)
  Allows-pushed v sound = Allows-list heap at (λ xs. xs ++ v ∷ []) (λ new keeps xs h. All-append (IsSound new) xs (v ∷ []) h (one (IsSound new) v (IsSound-kept heap new keeps v sound)))

  pub Allows-extended : (vs : List Value) → AreSound heap vs → Allows heap at (extended vs)
  Allows-extended vs sound = Allows-list heap at (λ xs. xs ++ vs) (λ new keeps xs h. All-append (IsSound new) xs vs h (AreSound-kept heap new keeps vs sound))

  pub Allows-elements : (vs : List Value) → AreSound heap vs → Allows heap at (with_elements vs)
  Allows-elements vs sound = Allows-list heap at (λ xs. vs) (λ new keeps xs h. AreSound-kept heap new keeps vs sound)

  pub Allows-inserted : (i : ℕ) (v : Value) → IsSound heap v → Allows heap at (inserted i v)
  Allows-inserted i v sound = Allows-list heap at (λ xs. insert xs i v) (λ new keeps xs h.
      All-append (IsSound new) _ _ (All-take (IsSound new) i xs h) (All-cons (IsSound new) v _ (IsSound-kept heap new keeps v sound) (All-drop (IsSound new) i xs h)))

  pub Allows-element : (i : ℕ) (v : Value) → IsSound heap v → Allows heap at (with_element i v)
  Allows-element i v sound = Allows-list heap at (λ xs. slice_set xs i v) (λ new keeps xs h. All-set (IsSound new) xs i v (IsSound-kept heap new keeps v sound) h)

  pub Allows-without_element : (i : ℕ) → Allows heap at (without_element i)
  Allows-without_element i = Allows-list heap at (λ xs. remove xs i) (λ new keeps xs h.
      All-append (IsSound new) _ _ (All-take (IsSound new) i xs h) (All-drop (IsSound new) (suc i) xs h))

  pub Allows-entry : (key : Key) (r : Rock) (v : Value) → key_form r ≡ Some key → IsSound heap v → Allows heap at (with_entry key r v)
  Allows-entry key r v form sound = Allows-dict heap at (λ es. insert_entry same_key es key (first_written key r es, v))
      (λ new keeps es h. All-put new key r v form (IsSound-kept heap new keeps v sound) es h)

  pub Allows-without_entry : (key : Key) → Allows heap at (without_entry key)
  Allows-without_entry key = Allows-dict heap at (λ es. remove_entry (same_key key) es) (λ new keeps es h. All-removed (IsEntry new) (same_key key) es h)

  pub Allows-field : (name : Name) (v : Value) → IsSound heap v → Allows heap at (with_field name v)
  Allows-field name v sound = Allows-fields heap at (λ fs. insert_entry same_name fs name v)
      (λ new keeps fs h. All-inserted (FieldSound new) same_name name v (λ l. IsSound-kept heap new keeps v sound) fs h)

  pub Allows-without_field : (name : Name) → Allows heap at (without_field name)
  Allows-without_field name = Allows-fields heap at (λ fs. remove_entry (same_name name) fs) (λ new keeps fs h. All-removed (FieldSound new) (same_name name) fs h)

  pub Allows-method : (name : Name) (to : Oid) → Names heap IsFunction to → Allows heap at (with_method name to)
  Allows-method name to is = Allows-methods heap at (λ ms. insert_entry same_name ms name to)
      (λ new keeps ms h. All-inserted (MethodSound new) same_name name to (λ l. Names-kept heap new keeps IsFunction function_shape to is) ms h)

  pub Allows-with_methods : (ms : List Method) → All (MethodSound heap) ms → Allows heap at (with_methods ms)
  Allows-with_methods ms are = Allows-methods heap at (λ old. ms) (λ new keeps old h.
      All-weaker (MethodSound heap) (MethodSound new) (λ m is. Names-kept heap new keeps IsFunction function_shape m.1 is) ms are)

  pub Allows-without_methods : Allows heap at without_methods
  Allows-without_methods = Allows-methods heap at (λ ms. []) (λ new keeps ms h. All-nil (MethodSound new))

  owned : (x : Option Owned) (o : Owned) → x ≡ Some o → option_map (λ o. o.owner) x ≡ Some o.owner
  owned x o e = ap (option_map (λ o. o.owner)) e

  pub Allows-slot : (i : ℕ) (v : Slot) → ((owner : Side) → owner_at heap at ≡ Some owner → SlotSound heap owner v) → Allows heap at (with_slot i v)
  Allows-slot i v sound = record {
    shapely = shapely_slot i v;
    still = λ new keeps o is h. slot_still i v new o.owner (slot_kept heap new keeps o.owner v (sound o.owner (owned (slice_get heap at.0) o is))) o.content h;
  }

pub slice_get-last : (heap : List Owned) (o : Owned) → slice_get (heap ++ o ∷ []) (length heap) ≡ Some o
slice_get-last [] o = refl
slice_get-last (p ∷ ps) o = slice_get-last ps o

-- a plain reference to an object put last that is no scope
pub IsSound-last : (heap : List Owned) (o : Owned) (at : Oid) → at.0 ≡ length heap → ¬ (IsScope o.content) → IsSound (heap ++ o ∷ []) (value.Ref at)
IsSound-last heap o at place h =
    subst (λ (c : Option Content). IsSomeAnd c (λ c. ¬ IsScope c))
    (sym (ap (λ i. option_map (λ (p : Owned). p.content) (slice_get (heap ++ o ∷ []) i)) place ∙ ap (option_map (λ p. p.content)) (slice_get-last heap o))) h

module _ (old new : List Owned) (stays : ShapeStays old new) where
  shape_held : (xs : List Owned) (i : ℕ) (s : Content) → option_map shape (option_map (λ o. o.content) (slice_get xs i)) ≡ Some s → i < length xs
  shape_held [] i s e = absurd (cc)
  shape_held (o ∷ os) zero s e = omega arith
  shape_held (o ∷ os) (suc i) s e = omega (arith, shape_held os i s e)

  shape_kept : (at : Oid) (s : Content) → shape_at old at ≡ Some s → shape_at new at ≡ Some s
  shape_kept at s e = shape_at-kept old new stays at (shape_held old at.0 s e) ∙ e

  some_side : (xs : List Owned) (i : ℕ) → i < length xs → (side : Side) × (option_map (λ (o : Owned). o.owner) (slice_get xs i) ≡ Some side)
  some_side [] i h = absurd (omega arith)
  some_side (o ∷ os) zero h = (o.owner, refl)
  some_side (o ∷ os) (suc i) h = some_side os i (omega arith)

  held_kept : (at : Oid) → IsHeld old at → IsHeld new at
  held_kept at h = let by = some_side old at.0 h in owned_held old new stays new at.0 by.0 (owner_kept old new stays at by.0 by.1)

  fit_kept : (side : Side) (v : Value) → IsFit old side v → IsFit new side v
  fit_kept side v h = (IsSound-kept old new stays v h.0, IsSafe-kept old new stays side v h.0 h.1)

  pub KeepsShape-of : KeepsShape old new
  KeepsShape-of = record {
    owner = owner_kept old new stays;
    shape = shape_kept;
    sound = IsSound-kept old new stays;
    all_sound = AreSound-kept old new stays;
    safe = IsSafe-kept old new stays;
    fit = fit_kept;
    all_fit = λ side vs h. All-weaker (IsFit old side) (IsFit new side) (fit_kept side) vs h;
    held = held_kept;
    list = Names-kept old new stays IsList list_shape;
    dict = Names-kept old new stays IsDict dict_shape;
    instance = Names-kept old new stays IsInstance instance_shape;
    class = Names-kept old new stays IsClass class_shape;
    function = Names-kept old new stays IsFunction function_shape;
    scope = IsScopeOf-kept old new stays;
  }

pub KeepsShape-same : (old new : List Owned) → new ≡ old → KeepsShape old new
KeepsShape-same old new e = KeepsShape-of old new (ShapeStays-same old new e)

pub KeepsShape-trans : (old mid new : List Owned) → KeepsShape old mid → KeepsShape mid new → KeepsShape old new
KeepsShape-trans old mid new a b = record {
  owner = λ at side h. b.owner at side (a.owner at side h);
  shape = λ at s h. b.shape at s (a.shape at s h);
  sound = λ v h. b.sound v (a.sound v h);
  all_sound = λ vs h. b.all_sound vs (a.all_sound vs h);
  safe = λ side v sound h. b.safe side v (a.sound v sound) (a.safe side v sound h);
  fit = λ side v h. b.fit side v (a.fit side v h);
  all_fit = λ side vs h. b.all_fit side vs (a.all_fit side vs h);
  held = λ at h. b.held at (a.held at h);
  list = λ at h. b.list at (a.list at h);
  dict = λ at h. b.dict at (a.dict at h);
  instance = λ at h. b.instance at (a.instance at h);
  class = λ at h. b.class at (a.class at h);
  function = λ at h. b.function at (a.function at h);
  scope = λ owner at h. b.scope owner at (a.scope owner at h);
}
