-- The heap that slots show, where one of them changes.
use Rattle.std.proofs.Common.{◌≡◌, ℕ, zero, suc, ◌+◌, ◌<◌, ◌≤◌, ◌↔◌, Bool, List, [], ◌∷◌, length, map, Option, Some, None, slice_get, slice_set, slice_index_or, refl, sym, ap, subst, ◌∙◌, ◌++◌, arith, IsTrue, false, true≢false, Result, Ok, Err, OnErr, OnOk, is_some, true}
use Rattle.std.specs.Option.{option_map, option_map_or}
use Rattle.rp_base.specs.declared.value.Oid.{Oid}
use Rattle.rp_store.specs.declared.object.Object.{Object}
use Rattle.rp_store.specs.declared.store.Slot.{Slot}
use Rattle.rp_store.specs.Cost.{cell_if_new}
use Rattle.rp_store.specs.Heap.{Owned, IsHeld, changed_from, content_at}
use Rattle.rp_store.specs.Object.{Content, content_of}
use Rattle.rp_store.specs.Kept.{Holds, IsHeldBySome, IsKept}
use Rattle.rp_store.specs.Shape.{KeepsShape}
use Rattle.rp_store.specs.Store.{Cells, IsOver, grown, written}
use Rattle.rp_store.proofs.Shapes.{Allows, IsKept-changed, IsKept-last, KeepsShape-of, ShapeStays-changed, ShapeStays-grown}
use Rattle.rp_store.specs.View.{owned_by}

-- what the fields of a store show
abbrev pub shown : List Slot → ℕ → ℕ → Cells
shown slots used limit = record { heap = map owned_by slots; used = used; limit = limit }

-- the slot with another object
abbrev pub with_object : Slot → Object → Slot
with_object s o = record { owner = s.owner; object = o }

slice_get-owned : (slots : List Slot) (i : ℕ) (d : Slot) → i < length (map owned_by slots) → slice_get (map owned_by slots) i ≡ Some (owned_by (slice_index_or slots i d))
slice_get-owned [] i d within = absurd (omega arith)
slice_get-owned (s ∷ ss) zero d within = refl
slice_get-owned (s ∷ ss) (suc i) d within = slice_get-owned ss i d (omega arith)

owned_there : (slots : List Slot) (i : ℕ) (s : Slot) → i < length (map owned_by slots) → s ≡ slice_index_or slots i s → owned_by s ≡ slice_index_or (map owned_by slots) i (owned_by s)
owned_there [] i s within found = absurd (omega arith)
owned_there (x ∷ xs) zero s within found = ap owned_by found
owned_there (x ∷ xs) (suc i) s within found = owned_there xs i s (omega arith) found

changed-owned : (slots : List Slot) (i : ℕ) (d : Slot) (o : Object) (change : Content → Content)
    → content_of o ≡ change (content_of (slice_index_or slots i d).object)
    → map owned_by (slice_set slots i (with_object (slice_index_or slots i d) o)) ≡ changed_from (map owned_by slots) i change
changed-owned [] i d o change is = refl
changed-owned (s ∷ ss) zero d o change is = (λ j. record { owner = s.owner; content = is j } ∷ map owned_by ss)
changed-owned (s ∷ ss) (suc i) d o change is = ap (λ rest. owned_by s ∷ rest) (changed-owned ss i d o change is)

changed-same : (heap : List Owned) (i : ℕ) → changed_from heap i (λ c. c) ≡ heap
changed-same [] i = refl
changed-same (o ∷ os) zero = refl
changed-same (o ∷ os) (suc i) = ap (λ rest. o ∷ rest) (changed-same os i)

module _ (slots : List Slot) (used limit : ℕ) (now : Cells) (view_is : shown slots used limit ≡ now) (at : Oid)
    (s : Slot) (found : s ≡ slice_index_or slots at.0 s) where
  changed : (o : Object) (change : Content → Content) → content_of o ≡ change (content_of s.object)
      → map owned_by (slice_set slots at.0 (with_object s o)) ≡ changed_from (map owned_by slots) at.0 change
  changed o change is =
      (λ j. map owned_by (slice_set slots at.0 (with_object (found j) o)))
      ∙ changed-owned slots at.0 s o change (is ∙ (λ j. change (content_of (found j).object)))

  -- where the object at a place changes, so does the store
  pub written-view : (o : Object) (change : Content → Content) → content_of o ≡ change (content_of s.object)
      → shown (slice_set slots at.0 (with_object s o)) used limit ≡ written now at change
  written-view o change is =
      (λ j. shown_heap (changed o change is j)) ∙ (λ j. written (view_is j) at change)
    where
      shown_heap : List Owned → Cells
      shown_heap heap = record { heap = heap; used = used; limit = limit }

  -- the same, with cells charged
  pub grown-view : (o : Object) (change : Content → Content) (cells more : ℕ) → content_of o ≡ change (content_of s.object) → cells ≡ more
      → shown (slice_set slots at.0 (with_object s o)) (used + cells) limit ≡ grown now at change more
  grown-view o change cells more is same =
      (λ j. record { heap = changed o change is j; used = used + same j; limit = limit }) ∙ (λ j. grown (view_is j) at change more)

  allows_shown : (change : Content → Content) → Allows now.heap at change → Allows (map owned_by slots) at change
  allows_shown change allows = subst (λ (v : Cells). Allows v.heap at change) (sym view_is) allows

  -- where the object at a place changes to one that holds what it may, what the store keeps is kept
  pub kept-view : (o : Object) (change : Content → Content) → content_of o ≡ change (content_of s.object) → Allows now.heap at change → IsKept (map owned_by slots)
      → IsKept (map owned_by (slice_set slots at.0 (with_object s o)))
  kept-view o change is allows kept =
      subst IsKept (sym (changed o change is)) (IsKept-changed (map owned_by slots) at change (allows_shown change allows) kept)

  -- and the shape stays
  pub shape-view : (o : Object) (change : Content → Content) → content_of o ≡ change (content_of s.object) → Allows now.heap at change
      → KeepsShape now.heap (map owned_by (slice_set slots at.0 (with_object s o)))
  shape-view o change is allows =
      subst (λ (v : Cells). KeepsShape v.heap (map owned_by (slice_set slots at.0 (with_object s o)))) view_is
      (subst (λ (heap : List Owned). KeepsShape (map owned_by slots) heap) (sym (changed o change is))
      (KeepsShape-of _ _ (ShapeStays-changed (map owned_by slots) at change allows.shapely)))

  -- where what it holds stays, so does the store
  pub same-view : (o : Object) → content_of o ≡ content_of s.object → shown (slice_set slots at.0 (with_object s o)) used limit ≡ now
  same-view o is =
      (λ j. record { heap = (changed o (λ c. c) is ∙ changed-same (map owned_by slots) at.0) j; used = used; limit = limit }) ∙ view_is

  -- what the object at the place holds
  pub content-view : IsHeld now.heap at → content_at now.heap at ≡ Some (content_of s.object)
  content-view held =
      let within : at.0 < length (map owned_by slots) = subst (λ v. IsHeld v.heap at) (sym view_is) held in
      sym (λ j. content_at (view_is j).heap at) ∙ ap (option_map (λ o. o.content)) (slice_get-owned slots at.0 s within)
      ∙ sym (λ j. Some (content_of (found j).object))

  -- and it may be held
  pub holds-view : IsHeld now.heap at → IsKept (map owned_by slots) → IsHeldBySome now.heap (content_of s.object)
  holds-view held kept =
      let within : at.0 < length (map owned_by slots) = subst (λ v. IsHeld v.heap at) (sym view_is) held in
      subst (λ (v : Cells). IsHeldBySome v.heap (content_of s.object)) view_is
      (record { owner = s.owner; holds = subst (λ (o : Owned). Holds (map owned_by slots) o.owner o.content) (sym (owned_there slots at.0 s within found)) (kept.each at.0 (owned_by s) within) })

  -- the cells of a growth, told by what the object at the place had
  pub cells-view : {A : Type 0} (part : Content → Option A) (cells : ℕ) → IsHeld now.heap at → cells ≡ cell_if_new (part (content_of s.object))
      → cells ≡ cell_if_new (option_map_or part (content_at now.heap at) None)
  cells-view part cells held is = is ∙ sym (λ j. cell_if_new (option_map_or part (content-view held j) None))

-- cells that are not over the limit are within it
pub not_over : (slots : List Slot) (used limit : ℕ) (now : Cells) → shown slots used limit ≡ now → (over : Bool) (cells more : ℕ) → over ≡ false → (IsTrue over ↔ IsOver now more) → cells ≡ more
    → used + cells ≤ limit
not_over slots used limit now view_is over cells more under tells same =
    let inside : (IsOver (shown slots used limit) more → IsTrue over) = subst (λ v. IsOver v more → IsTrue over) (sym view_is) tells.1 in
    let stays : (IsOver (shown slots used limit) more → ⊥) = (λ h. true≢false (sym (inside h) ∙ under)) in
    rw same (omega (arith, stays))

-- a fact of an `Err`
pub on_err : {A E : Type 0} (r : Result A E) (P : Type 0) → P → OnErr r P
on_err (Ok x) P p = tt
on_err (Err e) P p = p

map_last : (slots : List Slot) (s : Slot) → map owned_by (slots ++ s ∷ []) ≡ map owned_by slots ++ owned_by s ∷ []
map_last [] s = refl
map_last (x ∷ xs) s = ap (λ rest. owned_by x ∷ rest) (map_last xs s)

module _ (slots : List Slot) (used limit : ℕ) (now : Cells) (view_is : shown slots used limit ≡ now) (new : List Slot) (s : Slot) (last : new ≡ slots ++ s ∷ []) where
  -- an object put last
  pub kept-added : Holds now.heap s.owner (content_of s.object) → IsKept (map owned_by slots) → IsKept (map owned_by new)
  kept-added holds kept =
      subst IsKept (sym (ap (map owned_by) last ∙ map_last slots s))
      (IsKept-last (map owned_by slots) (owned_by s) kept (subst (λ (v : Cells). Holds v.heap s.owner (content_of s.object)) (sym view_is) holds))

  pub shape-added : KeepsShape now.heap (map owned_by new)
  shape-added =
      subst (λ (v : Cells). KeepsShape v.heap (map owned_by new)) view_is
      (KeepsShape-of _ _ (ShapeStays-grown (map owned_by slots) (map owned_by new) (owned_by s ∷ []) (ap (map owned_by) last ∙ map_last slots s)))

-- what holds either way
pub either : {A E X Y G : Type 0} (r : Result A E) → OnOk r X → OnErr r Y → (X → G) → (Y → G) → G
either (Ok a) ok err f g = f ok
either (Err e) ok err f g = g err

pub map_ok : {A E X Y : Type 0} (r : Result A E) → (X → Y) → OnOk r X → OnOk r Y
map_ok (Ok a) f x = f x
map_ok (Err e) f x = tt

pub map_err : {A E X Y : Type 0} (r : Result A E) → (X → Y) → OnErr r X → OnErr r Y
map_err (Ok a) f x = tt
map_err (Err e) f x = f x

-- what is held needs no cell
pub cell_held : {A : Type 0} (x : Option A) → is_some x ≡ true → cell_if_new x ≡ 0
cell_held None h = absurd (true≢false (sym h))
cell_held (Some a) h = refl

pub ok_not_err : {A E : Type 0} (a : A) (e : E) → ◌≡◌ {A = Result A E} (Ok a) (Err e) → ⊥
ok_not_err a e h = absurd (cc)
