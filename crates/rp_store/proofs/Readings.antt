-- What is found in an object that may be held.
use Rattle.std.proofs.Common.{◌≡◌, ℕ, zero, suc, List, [], ◌∷◌, Option, Some, None, slice_get, sym, ap, subst, unwrap_or}
use Rattle.std.specs.List.{All}
use Rattle.std.specs.Map.{lookup}
use Rattle.std.specs.Option.{IfSome, option_map, option_map_or}
use Rattle.std.proofs.lemmas.Map.Entries.{All-lookup}
use Rattle.std.proofs.lemmas.List.Elements.{All-head, All-nil, All-tail, All-weaker}
use Rattle.rp_base.specs.declared.value.Name.{Name}
use Rattle.rp_base.specs.declared.value.Oid.{Oid}
use Rattle.rp_base.specs.declared.value.Rock.{Rock}
use Rattle.rp_base.specs.declared.value.Side.{Side}
use Rattle.rp_base.specs.declared.value.Value.{Value}
use Rattle.rp_store.specs.declared.key.Key.{Key}
use Rattle.rp_store.specs.Heap.{Owned, Names, content_at, owner_at}
use Rattle.rp_store.specs.Kept.{AreSound, Holds, IsEntry, IsFit, IsHeldBySome, IsKept, IsScopeOf, IsSound}
use Rattle.rp_store.specs.Key.{same_key, same_name}
use Rattle.rp_store.specs.Object.{Content, list, tuple, dict, instance, class, function, method, scope}
use Rattle.rp_store.specs.Parts.{IsClass, IsFunction, class_of, entries, fields, methods, parent, sequence, slots}
use Rattle.rp_base.proofs.CallerLemmas.{IfSome-slice_get}

module _ (heap : List Owned) (owner : Side) where
  entries_in : (c : Content) → Holds heap owner c → All (IsEntry heap) (entries c)
  entries_in (dict es) h = h
  entries_in (list xs) h = All-nil (IsEntry heap)
  entries_in (tuple xs) h = All-nil (IsEntry heap)
  entries_in (instance of fs) h = All-nil (IsEntry heap)
  entries_in (class n d ms) h = All-nil (IsEntry heap)
  entries_in (function n u b w ds) h = All-nil (IsEntry heap)
  entries_in (method r c) h = All-nil (IsEntry heap)
  entries_in (scope b p vs) h = All-nil (IsEntry heap)

  sequence_in : (c : Content) → Holds heap owner c → AreSound heap (sequence c)
  sequence_in (list xs) h = h
  sequence_in (tuple xs) h = h
  sequence_in (dict es) h = All-nil (IsSound heap)
  sequence_in (instance of fs) h = All-nil (IsSound heap)
  sequence_in (class n d ms) h = All-nil (IsSound heap)
  sequence_in (function n u b w ds) h = All-nil (IsSound heap)
  sequence_in (method r c) h = All-nil (IsSound heap)
  sequence_in (scope b p vs) h = All-nil (IsSound heap)

  abbrev SlotFit : Option Value → Type 0
  SlotFit slot = IfSome slot (IsFit heap owner)

  slots_in : (c : Content) → Holds heap owner c → All SlotFit (slots c)
  slots_in (scope b p vs) h = h.1
  slots_in (list xs) h = All-nil SlotFit
  slots_in (tuple xs) h = All-nil SlotFit
  slots_in (dict es) h = All-nil SlotFit
  slots_in (instance of fs) h = All-nil SlotFit
  slots_in (class n d ms) h = All-nil SlotFit
  slots_in (function n u b w ds) h = All-nil SlotFit
  slots_in (method r c) h = All-nil SlotFit

  abbrev MethodNames : Name × Oid → Type 0
  MethodNames m = Names heap IsFunction m.1

  methods_in : (c : Content) → Holds heap owner c → All MethodNames (methods c)
  methods_in (class n d ms) h = h
  methods_in (list xs) h = All-nil MethodNames
  methods_in (tuple xs) h = All-nil MethodNames
  methods_in (dict es) h = All-nil MethodNames
  methods_in (instance of fs) h = All-nil MethodNames
  methods_in (function n u b w ds) h = All-nil MethodNames
  methods_in (method r c) h = All-nil MethodNames
  methods_in (scope b p vs) h = All-nil MethodNames

  field_in : (c : Content) (name : Name) → Holds heap owner c → IfSome (lookup (same_name name) (fields c)) (IsSound heap)
  field_in (instance of fs) name h = All-lookup (IsSound heap) (same_name name) fs h.1
  field_in (list xs) name h = tt
  field_in (tuple xs) name h = tt
  field_in (dict es) name h = tt
  field_in (class n d ms) name h = tt
  field_in (function n u b w ds) name h = tt
  field_in (method r c) name h = tt
  field_in (scope b p vs) name h = tt

  class_in : (c : Content) → Holds heap owner c → IfSome (class_of c) (Names heap IsClass)
  class_in (instance of fs) h = h.0
  class_in (list xs) h = tt
  class_in (tuple xs) h = tt
  class_in (dict es) h = tt
  class_in (class n d ms) h = tt
  class_in (function n u b w ds) h = tt
  class_in (method r c) h = tt
  class_in (scope b p vs) h = tt

  parent_in : (c : Content) → Holds heap owner c → IfSome (parent c) (IsScopeOf heap owner)
  parent_in (scope b p vs) h = h.0
  parent_in (list xs) h = tt
  parent_in (tuple xs) h = tt
  parent_in (dict es) h = tt
  parent_in (instance of fs) h = tt
  parent_in (class n d ms) h = tt
  parent_in (function n u b w ds) h = tt
  parent_in (method r c) h = tt

module _ (heap : List Owned) (c : Content) (h : IsHeldBySome heap c) where
  -- a field, an entry, an element, the class and a method of what an object may hold
  pub IsSound-field : (name : Name) (x : Option Value) → x ≡ lookup (same_name name) (fields c) → IfSome x (IsSound heap)
  IsSound-field name x e = subst (λ (x : Option Value). IfSome x (IsSound heap)) (sym e) (field_in heap h.owner c name h.holds)

  pub IsSound-entry : (key : Key) (x : Option (Rock × Value)) → x ≡ lookup (same_key key) (entries c) → IfSome x (λ entry. IsSound heap entry.1)
  IsSound-entry key x e =
      subst (λ (x : Option (Rock × Value)). IfSome x (λ entry. IsSound heap entry.1)) (sym e)
      (All-lookup (λ (entry : Rock × Value). IsSound heap entry.1) (same_key key) (entries c)
      (All-weaker (IsEntry heap) (λ entry. IsSound heap entry.1.1) (λ entry is. is.1) (entries c) (entries_in heap h.owner c h.holds)))

  pub IsSound-element : (i : ℕ) (x : Option Value) → x ≡ slice_get (sequence c) i → IfSome x (IsSound heap)
  IsSound-element i x e = subst (λ (x : Option Value). IfSome x (IsSound heap)) (sym e) (IfSome-slice_get (IsSound heap) (sequence c) i (sequence_in heap h.owner c h.holds))

  pub AreSound-sequence : AreSound heap (sequence c)
  AreSound-sequence = sequence_in heap h.owner c h.holds

  pub Names-class : (x : Option Oid) → x ≡ class_of c → IfSome x (Names heap IsClass)
  Names-class x e = subst (λ (x : Option Oid). IfSome x (Names heap IsClass)) (sym e) (class_in heap h.owner c h.holds)

  pub Names-method : (name : Name) (x : Option Oid) → x ≡ lookup (same_name name) (methods c) → IfSome x (Names heap IsFunction)
  Names-method name x e =
      subst (λ (x : Option Oid). IfSome x (Names heap IsFunction)) (sym e) (All-lookup (Names heap IsFunction) (same_name name) (methods c) (methods_in heap h.owner c h.holds))

held_by : (heap xs : List Owned) (i : ℕ) (owner : Side) (c : Content) → All (λ (o : Owned). Holds heap o.owner o.content) xs → option_map (λ (o : Owned). o.owner) (slice_get xs i) ≡ Some owner
    → option_map (λ (o : Owned). o.content) (slice_get xs i) ≡ Some c → Holds heap owner c
held_by heap [] i owner c all is has = absurd (cc)
held_by heap (o ∷ os) zero owner c all is has =
    subst (λ (side : Side). Holds heap side c) (ap (λ x. unwrap_or x owner) is)
    (subst (λ (d : Content). Holds heap o.owner d) (ap (λ x. unwrap_or x c) has) (All-head (λ (o : Owned). Holds heap o.owner o.content) o os all))
held_by heap (o ∷ os) (suc i) owner c all is has = held_by heap os i owner c (All-tail (λ (o : Owned). Holds heap o.owner o.content) o os all) is has

-- what the object of an owner holds
pub Holds-at : (heap : List Owned) (at : Oid) (owner : Side) (c : Content) → IsKept heap → owner_at heap at ≡ Some owner → content_at heap at ≡ Some c → Holds heap owner c
Holds-at heap at owner c kept is has = held_by heap heap at.0 owner c kept.each is has

module _ (heap : List Owned) (owner : Side) (c : Content) (h : Holds heap owner c) where
  bound_fit : (slot : Option (Option Value)) → IfSome slot (λ slot. IfSome slot (IsFit heap owner)) → IfSome (option_map_or (λ slot. slot) slot None) (IsFit heap owner)
  bound_fit None fit = tt
  bound_fit (Some slot) fit = fit

  pub IsFit-slot : (i : ℕ) (x : Option Value) → x ≡ option_map_or (λ slot. slot) (slice_get (slots c) i) None → IfSome x (IsFit heap owner)
  IsFit-slot i x e =
      subst (λ (x : Option Value). IfSome x (IsFit heap owner)) (sym e)
      (bound_fit (slice_get (slots c) i) (IfSome-slice_get (λ (slot : Option Value). IfSome slot (IsFit heap owner)) (slots c) i (slots_in heap owner c h)))

  pub IsScopeOf-parent : (x : Option Oid) → x ≡ parent c → IfSome x (IsScopeOf heap owner)
  IsScopeOf-parent x e = subst (λ (x : Option Oid). IfSome x (IsScopeOf heap owner)) (sym e) (parent_in heap owner c h)
