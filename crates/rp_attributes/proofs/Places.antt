-- Attributes of the object at a place, by what it holds.
use Rattle.std.proofs.Common.{◌≡◌, ℕ, Bool, true, false, cond, List, [], ◌∷◌, zero, suc, Option, Some, None, slice_get, refl, sym, ap, ◌∙◌}
use Rattle.std.specs.Map.{lookup, remove_entry}
use Rattle.std.specs.Option.{option_and_then, option_map, option_map_or}
use Rattle.rp_base.specs.declared.value.Name.{Name}
use Rattle.rp_base.specs.declared.value.Oid.{Oid}
use Rattle.rp_base.specs.declared.value.Side.{Side}
use Rattle.rp_base.specs.declared.value.Value.{Value}
use Rattle.rp_base.specs.declared.value.Value.TheVariants as value
use Rattle.rp_store.specs.Heap.{Owned, changed_from, content_at, field_at, owner_at}
use Rattle.rp_store.specs.declared.object.Callee.{Callee}
use Rattle.rp_store.specs.Key.{same_name}
use Rattle.rp_store.specs.Object.{Content, list, tuple, dict, instance, class, function, method, scope}
use Rattle.rp_store.specs.Parts.{fields}
use Rattle.rp_store.specs.Store.{Cells, written}
use Rattle.rp_store.specs.Writers.{without_field}
use Rattle.rp_ops.specs.Outcome.{State, gives}
use Rattle.rp_attributes.specs.Attributes.{attribute_at, bound, content_del, del_at, field_deleted, field_or_method, method_of, no_attribute, object_attribute}

-- the field of what stands at a place
abbrev field_in : Name → Option Content → Option Value
field_in name found = option_map_or (λ c. lookup (same_name name) (fields c)) found None

module _ (at : Oid) (name : Name) (word : List ℕ) (s : State) where
  -- there is such a field
  pub attribute_at-field : (v : Value) → field_at s.store.heap at name ≡ Some v → attribute_at at name word s ≡ gives v s
  attribute_at-field v found = by (slice_get s.store.heap at.0) found where
    by : (x : Option Owned) → field_in name (option_map (λ o. o.content) x) ≡ Some v → option_map_or (λ o. object_attribute at o name word s) x (no_attribute word s) ≡ gives v s
    by None found = absurd (cc)
    by (Some o) found = ap (λ (x : Option Value). field_or_method o.owner at x (method_of o.content name word s) word s) found

  -- there is no such field: a method is bound
  pub attribute_at-method : (called : Option Callee) (owner : Side) → field_at s.store.heap at name ≡ None
      → called ≡ option_and_then (λ c. method_of c name word s) (content_at s.store.heap at) → owner_at s.store.heap at ≡ Some owner
      → attribute_at at name word s ≡ bound owner (value.Ref at) called word s
  attribute_at-method called owner none m mine = by (slice_get s.store.heap at.0) none m mine where
    by : (x : Option Owned) → field_in name (option_map (λ o. o.content) x) ≡ None
        → called ≡ option_and_then (λ c. method_of c name word s) (option_map (λ o. o.content) x) → option_map (λ o. o.owner) x ≡ Some owner
        → option_map_or (λ o. object_attribute at o name word s) x (no_attribute word s) ≡ bound owner (value.Ref at) called word s
    by None none m mine = absurd (cc)
    by (Some o) none m mine =
        let by_owner : o.owner ≡ owner = cc in
        ap (λ (x : Option Value). field_or_method o.owner at x (method_of o.content name word s) word s) none
        ∙ ap (λ (side : Side). bound side (value.Ref at) (method_of o.content name word s) word s) by_owner
        ∙ ap (λ (x : Option Callee). bound owner (value.Ref at) x word s) (sym m)

  missing : (o : Option Content) → field_at s.store.heap at name ≡ None
      → option_map_or (λ c. content_del at c name word s) o (no_attribute word s) ≡ no_attribute word s
  missing None e = refl
  missing (Some (instance of fs)) e = ap (λ (x : Option Value). field_deleted at x name word s) e
  missing (Some (list xs)) e = refl
  missing (Some (tuple xs)) e = refl
  missing (Some (dict es)) e = refl
  missing (Some (class n d ms)) e = refl
  missing (Some (function n u b w ds)) e = refl
  missing (Some (method r c)) e = refl
  missing (Some (scope b p vs)) e = refl

  -- there is no such field to delete
  pub del_at-missing : field_at s.store.heap at name ≡ None → del_at at name word s ≡ no_attribute word s
  del_at-missing e = missing (content_at s.store.heap at) e

module _ (name : Name) where
  removed_case : (b : Bool) (e : Name × Value) (es rest : List (Name × Value)) → cond b (Some e.1) (lookup (same_name name) es) ≡ None → (lookup (same_name name) es ≡ None → rest ≡ es)
      → cond b es (e ∷ rest) ≡ e ∷ es
  removed_case true e es rest none same = absurd (cc)
  removed_case false e es rest none same = ap (λ (xs : List (Name × Value)). e ∷ xs) (same none)

  removed : (es : List (Name × Value)) → lookup (same_name name) es ≡ None → remove_entry (same_name name) es ≡ es
  removed [] none = refl
  removed (e ∷ es) none = removed_case (same_name name e.0) e es (remove_entry (same_name name) es) none (removed es)

  without : (c : Content) → lookup (same_name name) (fields c) ≡ None → without_field name c ≡ c
  without (instance of fs) none = ap (instance of) (removed fs none)
  without (list xs) none = refl
  without (tuple xs) none = refl
  without (dict es) none = refl
  without (class n d ms) none = refl
  without (function n u b w ds) none = refl
  without (method r c) none = refl
  without (scope b p vs) none = refl

  unchanged : (heap : List Owned) (i : ℕ) → field_in name (option_map (λ o. o.content) (slice_get heap i)) ≡ None → changed_from heap i (without_field name) ≡ heap
  unchanged [] i none = refl
  unchanged (o ∷ os) zero none = ap (λ (c : Content). record { owner = o.owner; content = c } ∷ os) (without o.content none)
  unchanged (o ∷ os) (suc i) none = ap (λ (xs : List Owned). o ∷ xs) (unchanged os i none)

  -- a field that is not there leaves the store as it was
  pub written-missing : (s : Cells) (at : Oid) → field_at s.heap at name ≡ None → written s at (without_field name) ≡ s
  written-missing s at none = ap (λ (heap : List Owned). record s { heap = heap }) (unchanged s.heap at.0 none)
