-- The slots of the scope of the exposed names, which are filled one after the other.
use Rattle.std.proofs.Common.{◌≡◌, ◌≢◌, ℕ, zero, suc, ◌+◌, ◌<◌, ◌≤◌, List, [], ◌∷◌, ◌++◌, length, map, take, drop, get_or, slice_get, slice_set, position, Option, Some, None, refl, sym, ap, subst, ◌∙◌, arith}
use Rattle.std.specs.List.{All}
use Rattle.std.specs.Option.{IfSome, option_map, option_map_or}
use Rattle.std.proofs.lemmas.List.Elements.{All-map}
use Rattle.rp_base.specs.declared.value.Name.{Name}
use Rattle.rp_base.specs.declared.value.Oid.{Oid}
use Rattle.rp_base.specs.declared.value.Side.{Side}
use Rattle.rp_base.specs.declared.value.Value.{Value}
use Rattle.rp_meaning.specs.Load.{trusted}
use Rattle.rp_meaning.specs.Scopes.{held, slot_in}
use Rattle.rp_store.proofs.CallerLemmas.{content_at-changed_at, content_at-changed_other, owner_at-changed_at}
use Rattle.rp_store.specs.Heap.{Owned, IsHeld, changed_at, changed_from, content_at, owner_at, slots_at}
use Rattle.rp_store.specs.Kept.{Holds, IsFit, IsSafe, IsSound}
use Rattle.rp_store.specs.Key.{same_name}
use Rattle.rp_store.specs.Object.{Content, list, tuple, dict, instance, class, function, method, scope}
use Rattle.rp_store.specs.Parts.{slots}
use Rattle.rp_store.specs.Store.{Cells, written}
use Rattle.rp_store.specs.Writers.{on_slots, with_slot}
use Rattle.rp_world.specs.PlacingSteps.{first, global_value}
use Rattle.rp_world.specs.Worlds.{HasExposed}

-- empty slots may be held
pub exposing-holds : (heap : List Owned) (expose : List Name) (vs : List (Option Value)) → vs ≡ map (λ _. None) expose → Holds heap trusted (scope None None vs)
exposing-holds heap expose vs is =
    let P : Option Value → Type 0 = λ slot. IfSome slot (λ v. IsSound heap v × IsSafe heap trusted v) in
    (tt, subst (All P) (sym is) (All-map P (λ _. None) expose (λ k d within. tt)))

-- ---- changes of the object at a place

changed-same : (heap : List Owned) (i : ℕ) (change : Content → Content) (c : Content) → option_map (λ o. o.content) (slice_get heap i) ≡ Some c → change c ≡ c → changed_from heap i change ≡ heap
changed-same [] i change c h e = refl
changed-same (o ∷ os) zero change c h e =
    let here : o.content ≡ c = cc in
    let same : change o.content ≡ o.content = ap change here ∙ e ∙ sym here in
    ap (λ (k : Content). record { owner = o.owner; content = k } ∷ os) same
changed-same (o ∷ os) (suc i) change c h e = ap (λ rest. o ∷ rest) (changed-same os i change c h e)

changed-twice : (heap : List Owned) (i : ℕ) (f g : Content → Content) → changed_from (changed_from heap i f) i g ≡ changed_from heap i (λ c. g (f c))
changed-twice [] i f g = refl
changed-twice (o ∷ os) zero f g = refl
changed-twice (o ∷ os) (suc i) f g = ap (λ rest. o ∷ rest) (changed-twice os i f g)

slots-set : (vs : List (Option Value)) (i : ℕ) (v : Option Value) (c : Content) → with_slot i v (on_slots (λ _. vs) c) ≡ on_slots (λ _. slice_set vs i v) c
slots-set vs i v (list xs) = refl
slots-set vs i v (tuple xs) = refl
slots-set vs i v (dict es) = refl
slots-set vs i v (instance of fs) = refl
slots-set vs i v (class n d ms) = refl
slots-set vs i v (function n u b w ds) = refl
slots-set vs i v (method r q) = refl
slots-set vs i v (scope b p old) = refl

-- ---- the slots of the first names are filled

-- the values of the first names, and what stood in the slots behind these
abbrev pub filled_to : (Name → Option Value) → List Name → List (Option Value) → ℕ → List (Option Value)
filled_to value expose old i = map value (take i expose) ++ drop i old

-- the scope of the exposed names had some slots before, of which the first have the values of their names now
pub record IsFilledTo (value : Name → Option Value) (expose : List Name) (i : ℕ) (before now : Cells) : Type 0 where
  pub old : List (Option Value)
  pub many : length old ≡ length expose
  pub there : content_at before.heap first ≡ Some (scope None None old)
  pub is : now ≡ written before first (on_slots (λ _. filled_to value expose old i))

module _ (value : Name → Option Value) where
  filled-long : (expose : List Name) (old : List (Option Value)) (i : ℕ) → i ≤ length expose → length old ≡ length expose → length (filled_to value expose old i) ≡ length expose
  filled-long [] [] zero within many = refl
  filled-long [] (o ∷ old) i within many = absurd (omega arith)
  filled-long [] [] (suc i) within many = absurd (omega arith)
  filled-long (x ∷ xs) old zero within many = many
  filled-long (x ∷ xs) [] (suc i) within many = absurd (omega arith)
  filled-long (x ∷ xs) (o ∷ old) (suc i) within many = ap suc (filled-long xs old i (omega arith) (omega arith))

  filled-next : (expose : List Name) (old : List (Option Value)) (i : ℕ) (d : Name) → i < length expose → length old ≡ length expose
      → slice_set (filled_to value expose old i) i (value (get_or expose i d)) ≡ filled_to value expose old (suc i)
  filled-next [] old i d within many = absurd (omega arith)
  filled-next (x ∷ xs) [] i d within many = absurd (omega arith)
  filled-next (x ∷ xs) (o ∷ old) zero d within many = refl
  filled-next (x ∷ xs) (o ∷ old) (suc i) d within many = ap (λ rest. value x ∷ rest) (filled-next xs old i d (omega arith) (omega arith))

  filled-all : (expose : List Name) (old : List (Option Value)) (i : ℕ) → length expose ≤ i → length old ≡ length expose → filled_to value expose old i ≡ map value expose
  filled-all [] [] zero past many = refl
  filled-all [] [] (suc i) past many = refl
  filled-all [] (o ∷ old) i past many = absurd (omega arith)
  filled-all (x ∷ xs) old zero past many = absurd (omega arith)
  filled-all (x ∷ xs) [] (suc i) past many = absurd (omega arith)
  filled-all (x ∷ xs) (o ∷ old) (suc i) past many = ap (λ rest. value x ∷ rest) (filled-all xs old i (omega arith) (omega arith))

  pub expose-begun : (cells : Cells) (expose : List Name) → HasExposed (length expose) cells.heap → IsFilledTo value expose 0 cells cells
  expose-begun cells expose has = record {
    old = has.slots;
    many = has.many;
    there = has.content;
    is = ap (λ (heap : List Owned). record cells { heap = heap }) (sym (changed-same cells.heap 0 (on_slots (λ _. has.slots)) (scope None None has.slots) has.content refl));
  }

  pub expose-room : (cells store : Cells) (expose : List Name) (i : ℕ) → i < length expose → IsFilledTo value expose i cells store → i < length (slots_at store.heap first)
  expose-room cells store expose i within f =
      let change : Content → Content = on_slots (λ _. filled_to value expose f.old i) in
      let now : content_at store.heap first ≡ Some (scope None None (filled_to value expose f.old i)) =
      ap (λ (s : Cells). content_at s.heap first) f.is ∙ content_at-changed_at cells.heap first change ∙ ap (option_map change) f.there in
      let many : length (slots_at store.heap first) ≡ length expose =
      ap (λ (o : Option Content). length (option_map_or slots o [])) now ∙ filled-long expose f.old i (omega arith) f.many in
      omega arith

  pub expose-turn : (cells store new : Cells) (expose : List Name) (i : ℕ) (d : Name) (v : Option Value) → i < length expose → v ≡ value (get_or expose i d)
      → IsFilledTo value expose i cells store → new ≡ written store first (with_slot i v) → IsFilledTo value expose (i + 1) cells new
  expose-turn cells store new expose i d v within found f set =
      let next : suc i ≡ i + 1 = omega arith in
      let to : ℕ → List (Option Value) = filled_to value expose f.old in
      let held_slots : slice_set (to i) i v ≡ to (i + 1) = ap (slice_set (to i) i) found ∙ filled-next expose f.old i d within f.many ∙ ap to next in
      let both : (λ (c : Content). with_slot i v (on_slots (λ _. to i) c)) ≡ on_slots (λ _. to (i + 1)) =
      λ j c. (slots-set (to i) i v c ∙ ap (λ (vs : List (Option Value)). on_slots (λ _. vs) c) held_slots) j in
      record {
        old = f.old;
        many = f.many;
        there = f.there;
        is = set
            ∙ ap (λ (s : Cells). written s first (with_slot i v)) f.is
            ∙ ap (λ (heap : List Owned). record cells { heap = heap }) (changed-twice cells.heap 0 (on_slots (λ _. to i)) (with_slot i v) ∙ ap (changed_from cells.heap 0) both);
      }

  -- each has its value
  pub expose-done : (cells store : Cells) (expose : List Name) (i : ℕ) → length expose ≤ i → IsFilledTo value expose i cells store → store ≡ written cells first (on_slots (λ _. map value expose))
  expose-done cells store expose i past f =
      f.is ∙ ap (λ (vs : List (Option Value)). written cells first (on_slots (λ _. vs))) (filled-all expose f.old i past f.many)

-- ---- what stays

pub owner-there : (heap : List Owned) (at : Oid) (side : Side) → owner_at heap at ≡ Some side → IsHeld heap at
owner-there heap at side e = by heap at.0 e
  where
    by : (os : List Owned) (i : ℕ) → option_map (λ (o : Owned). o.owner) (slice_get os i) ≡ Some side → i < length os
    by [] i e = absurd (cc)
    by (o ∷ os) zero e = omega arith
    by (o ∷ os) (suc i) e = let low = by os i e in omega arith

pub owner-stays : (value : Name → Option Value) (expose : List Name) (i : ℕ) (cells store : Cells) (at : Oid) → IsFilledTo value expose i cells store → owner_at store.heap at ≡ owner_at cells.heap at
owner-stays value expose i cells store at f =
    ap (λ (s : Cells). owner_at s.heap at) f.is ∙ owner_at-changed_at cells.heap first at (on_slots (λ _. filled_to value expose f.old i))

pub fit-owner : (heap : List Owned) (at : Oid) (owner : Side) (value : Option Value) → owner_at heap at ≡ Some trusted → owner_at heap at ≡ Some owner → IfSome value (IsFit heap trusted)
    → IfSome value (λ v. IsSound heap v × IsSafe heap owner v)
fit-owner heap at owner value one other h =
    let same : trusted ≡ owner = cc in
    subst (λ (side : Side). IfSome value (λ v. IsSound heap v × IsSafe heap side v)) same h

held-alike : (s : Oid) (a b : List Owned) → content_at a s ≡ content_at b s → (o : Option ℕ) → held a (option_map (slot_in s) o) ≡ held b (option_map (slot_in s) o)
held-alike s a b same None = refl
held-alike s a b same (Some k) = ap (λ (c : Option Content). option_map_or (λ c. option_map_or (λ slot. slot) (slice_get (slots c) k) None) c None) same

-- the value of a global name is read in the store that has changed
pub value-stays : (locals : List Name) (globals : Oid) (value : Name → Option Value) (expose : List Name) (i : ℕ) (cells store : Cells) (name : Name) → 0 < globals.0
    → IsFilledTo value expose i cells store → global_value locals globals store.heap name ≡ global_value locals globals cells.heap name
value-stays locals globals value expose i cells store name apart f =
    let other : 0 ≢ globals.0 = λ e. absurd (omega arith) in
    let same : content_at store.heap globals ≡ content_at cells.heap globals =
    ap (λ (s : Cells). content_at s.heap globals) f.is ∙ content_at-changed_other cells.heap first globals (on_slots (λ _. filled_to value expose f.old i)) other in
    held-alike globals store.heap cells.heap same (position (same_name name) locals)
