-- A slot that is filled, and one that is not there.
use Rattle.std.proofs.Common.{◌≡◌, ℕ, zero, suc, ◌≤◌, true, false, List, [], ◌∷◌, length, Option, slice_get, slice_set, refl, sym, ap, subst, arith}
use Rattle.std.specs.Option.{option_map, option_map_or}
use Rattle.std.proofs.lemmas.List.Elements.{All-cons, All-head, All-tail}
use Rattle.rp_base.specs.declared.value.Oid.{Oid}
use Rattle.rp_base.specs.declared.value.Value.{Value}
use Rattle.rp_meaning.specs.State.{State, with_change}
use Rattle.rp_proxy.specs.Faithful.{IsFaithful}
use Rattle.rp_proxy.specs.Held.{AreNamed, IsNamed}
use Rattle.rp_proxy.specs.declared.world.World.{World}
use Rattle.rp_store.specs.Heap.{Owned, changed_from, slots_at}
use Rattle.rp_store.specs.Object.{Content, list, tuple, dict, instance, class, function, method, scope}
use Rattle.rp_store.specs.Parts.{slots}
use Rattle.rp_store.specs.Store.{Cells, written}
use Rattle.rp_store.specs.Writers.{with_slot}

set_past : {A : Type 0} (xs : List A) (i : ℕ) (x : A) → length xs ≤ i → slice_set xs i x ≡ xs
set_past [] i x h = refl
set_past (y ∷ ys) zero x h = absurd (omega arith)
set_past (y ∷ ys) (suc i) x h = ap (λ zs. y ∷ zs) (set_past ys i x (omega arith))

slot_past : (i : ℕ) (v : Option Value) (c : Content) → length (slots c) ≤ i → with_slot i v c ≡ c
slot_past i v (list xs) h = refl
slot_past i v (tuple xs) h = refl
slot_past i v (dict es) h = refl
slot_past i v (instance of fs) h = refl
slot_past i v (class n d ms) h = refl
slot_past i v (function n u b w ds) h = refl
slot_past i v (method r c) h = refl
slot_past i v (scope b p vs) h = ap (scope b p) (set_past vs i v h)

changed_past : (heap : List Owned) (j i : ℕ) (v : Option Value) → length (option_map_or slots (option_map (λ o. o.content) (slice_get heap j)) []) ≤ i
    → changed_from heap j (with_slot i v) ≡ heap
changed_past [] j i v h = refl
changed_past (o ∷ os) zero i v h = ap (λ c. record { owner = o.owner; content = c } ∷ os) (slot_past i v o.content h)
changed_past (o ∷ os) (suc j) i v h = ap (λ rest. o ∷ rest) (changed_past os j i v h)

-- a slot past the end of a scope fills nothing
pub filled_past : (s : State) (at : Oid) (i : ℕ) (v : Option Value) → length (slots_at s.plain.store.heap at) ≤ i → s ≡ with_change at (with_slot i v) s
filled_past s at i v h =
    ap (λ heap. record s { plain = record s.plain { store = record s.plain.store { heap = heap } } }) (sym (changed_past s.plain.store.heap at.0 i v h))

named_slot : (names : List (List ℕ)) (i : ℕ) (v : Option Value) (c : Content) → IsNamed names c → IsNamed names (with_slot i v c)
named_slot names i v (list xs) h = h
named_slot names i v (tuple xs) h = h
named_slot names i v (dict es) h = h
named_slot names i v (instance of fs) h = h
named_slot names i v (class n true ms) h = h
named_slot names i v (class n false ms) h = h
named_slot names i v (function n u b w ds) h = h
named_slot names i v (method r c) h = h
named_slot names i v (scope b p vs) h = h

named_changed : (names : List (List ℕ)) (heap : List Owned) (j i : ℕ) (v : Option Value) → AreNamed names heap → AreNamed names (changed_from heap j (with_slot i v))
named_changed names [] j i v h = h
named_changed names (o ∷ os) zero i v h =
    All-cons (λ o. IsNamed names o.content) (record { owner = o.owner; content = with_slot i v o.content }) os
    (named_slot names i v o.content (All-head (λ o. IsNamed names o.content) o os h)) (All-tail (λ o. IsNamed names o.content) o os h)
named_changed names (o ∷ os) (suc j) i v h =
    All-cons (λ o. IsNamed names o.content) o (changed_from os j (with_slot i v))
    (All-head (λ o. IsNamed names o.content) o os h) (named_changed names os j i v (All-tail (λ o. IsNamed names o.content) o os h))

faithful_with : (w : World) (store : Cells) → AreNamed w.names store.heap → IsFaithful w → IsFaithful (record w { store = store })
faithful_with w store named h = record {
  read = h.read;
  ordered = h.ordered;
  rows = h.rows;
  rows_within = h.rows_within;
  grants = h.grants;
  classes = named;
  entries = h.entries;
}

pub filled_faithful : (w : World) (store : Cells) (at : Oid) (i : ℕ) (v : Option Value) → store ≡ written w.store at (with_slot i v) → IsFaithful w → IsFaithful (record w { store = store })
filled_faithful w store at i v e h =
    faithful_with w store (subst (λ (s : Cells). AreNamed w.names s.heap) (sym e) (named_changed w.names w.store.heap at.0 i v h.classes)) h
