-- The store while it is filled: what stands at the places of the two scopes and of the classes.
use Rattle.std.proofs.Common.{◌≡◌, ℕ, zero, suc, ◌+◌, ◌-◌, ◌<◌, ◌≤◌, true, List, [], ◌∷◌, ◌++◌, append-nil, append_assoc, length, map, get_or, slice_get, Option, Some, None, refl, sym, ap, subst, ◌∙◌, arith}
use Rattle.std.specs.List.{All, position_or_len}
use Rattle.std.specs.Option.{IfSome, IsSomeAnd, option_map}
use Rattle.std.proofs.lemmas.List.{length-append, length-map}
use Rattle.std.proofs.lemmas.List.Elements.{All-append, All-cons, All-head, All-map, All-nil, All-tail}
use Rattle.rp_base.specs.declared.value.Oid.{Oid}
use Rattle.rp_base.specs.declared.value.Value.{Value}
use Rattle.rp_decl.specs.Places.{IsHeldBy}
use Rattle.rp_decl.specs.View.{Placed}
use Rattle.rp_decl.specs.declared.records.ClassDecl.{ClassDecl}
use Rattle.rp_meaning.specs.Expressions.{empty_slots}
use Rattle.rp_meaning.specs.Load.{trusted}
use Rattle.rp_proxy.specs.Held.{AreNamed, IsNamed}
use Rattle.rp_store.specs.Heap.{Owned, changed_from, content_at, owner_at}
use Rattle.rp_store.specs.Kept.{IsScopeOf, IsSound}
use Rattle.rp_store.specs.Key.{same_name}
use Rattle.rp_store.specs.Object.{Content, list, tuple, dict, instance, class, function, method, scope}
use Rattle.rp_store.specs.Parts.{IsClass, IsScope}
use Rattle.rp_store.specs.Store.{Cells, added}
use Rattle.rp_store.specs.Writers.{on_slots}
use Rattle.rp_world.proofs.Grown.{classes-heap, objects-grew}
use Rattle.rp_world.proofs.Spots.{spot-holds}
use Rattle.rp_world.specs.PlacingSteps.{AreBound, AreClassed, IsDeclared, SlotsMade, class_owned, classes_placed, declared_placed, exposing, filled, first, objects_placed, slots_to}
use Rattle.rp_world.specs.Worlds.{HasExposed}
use Rattle.rp_store.proofs.CallerLemmas.{slice_get-last}

-- the first object stays
begins : (heap more : List Owned) (o : Owned) → slice_get heap 0 ≡ Some o → slice_get (heap ++ more) 0 ≡ Some o
begins [] more o e = absurd (cc)
begins (p ∷ heap) more o e = e

abbrev pub exposing_owned : Placed → Owned
exposing_owned d = record { owner = trusted; content = exposing d.expose }

module _ (d : Placed) (before begun classed : Cells) (some : List (Option Value)) (empty : before.heap ≡ []) (one : begun ≡ added before trusted (exposing d.expose))
    (two : classes_placed d.classes ([], begun) ≡ (some, classed)) where
  heap-begun : begun.heap ≡ exposing_owned d ∷ []
  heap-begun = ap (λ (s : Cells). s.heap) one ∙ ap (λ (h : List Owned). h ++ exposing_owned d ∷ []) empty

  heap-classed : classed.heap ≡ exposing_owned d ∷ map class_owned d.classes
  heap-classed =
      sym (ap (λ (r : SlotsMade). r.1.heap) two) ∙ classes-heap d.classes ([], begun) ∙ ap (λ (h : List Owned). h ++ map class_owned d.classes) heap-begun

  pub classes-there : All (λ o. IsDeclared d.classes o.class) d.objects → AreClassed classed.heap d.classes d.objects
  classes-there there = λ k x within.
      let name = (get_or d.objects k x).class in
      let (c, found) = spot-holds (λ (c : ClassDecl). same_name name c.name) class_owned d.classes (there k x within) in
      let place : Oid = record { 0 = suc (position_or_len (λ (c : ClassDecl). same_name name c.name) d.classes) } in
      let content : content_at classed.heap place ≡ Some (class c.name true []) = ap (λ (h : List Owned). content_at h place) heap-classed ∙ ap (option_map (λ (o : Owned). o.content)) found in
      subst (λ (o : Option Content). IsSomeAnd o IsClass) (sym content) tt

  pub all-declared : (declared : Cells) (all : List (Option Value)) → objects_placed d.classes d.objects (some, classed) ≡ (all, declared) → (all, declared) ≡ declared_placed d before
  all-declared declared all three =
      sym three ∙ sym (ap (objects_placed d.classes d.objects) two) ∙ ap (λ (s : Cells). objects_placed d.classes d.objects (classes_placed d.classes ([], s))) one

  module _ (declared whole : Cells) (all slots : List (Option Value)) (three : objects_placed d.classes d.objects (some, classed) ≡ (all, declared)) (four : whole ≡ added declared trusted (scope (Some 0) None slots)) where
    first-declared : slice_get declared.heap 0 ≡ Some (exposing_owned d)
    first-declared =
        let grew = objects-grew d.classes d.objects (some, classed) in
        let same : declared.heap ≡ classed.heap ++ grew.more = sym (ap (λ (r : SlotsMade). r.1.heap) three) ∙ grew.same in
        ap (λ (h : List Owned). slice_get h 0) same ∙ begins classed.heap grew.more (exposing_owned d) (ap (λ (h : List Owned). slice_get h 0) heap-classed)

    first-whole : slice_get whole.heap 0 ≡ Some (exposing_owned d)
    first-whole =
        ap (λ (s : Cells). slice_get s.heap 0) four ∙ begins declared.heap (record { owner = trusted; content = scope (Some 0) None slots } ∷ []) (exposing_owned d) first-declared

    pub exposing-there : content_at whole.heap first ≡ Some (exposing d.expose)
    exposing-there = ap (option_map (λ (o : Owned). o.content)) first-whole

    pub exposing-trusted : owner_at whole.heap first ≡ Some trusted
    exposing-trusted = ap (option_map (λ (o : Owned). o.owner)) first-whole

    pub all-filled : (locals : ℕ) → slots ≡ slots_to locals all → whole ≡ filled d locals before
    all-filled locals more =
        four
        ∙ ap (λ (vs : List (Option Value)). added declared trusted (scope (Some 0) None vs)) more
        ∙ ap (λ (r : SlotsMade). added r.1 trusted (scope (Some 0) None (slots_to locals r.0))) (all-declared declared all three)

    module _ (at : Oid) (place : at.0 ≡ length declared.heap) where
      pub globals-behind : 0 < at.0
      globals-behind = behind declared.heap first-declared place
        where
          behind : (heap : List Owned) → slice_get heap 0 ≡ Some (exposing_owned d) → at.0 ≡ length heap → 0 < at.0
          behind [] there e = absurd (cc)
          behind (o ∷ os) there e = omega arith

      pub globals-last : slice_get whole.heap at.0 ≡ Some (record { owner = trusted; content = scope (Some 0) None slots })
      globals-last =
          ap (λ (s : Cells). slice_get s.heap at.0) four
          ∙ ap (slice_get (declared.heap ++ record { owner = trusted; content = scope (Some 0) None slots } ∷ [])) place
          ∙ slice_get-last declared.heap (record { owner = trusted; content = scope (Some 0) None slots })

-- ---- the slots of the module's global scope

bound-empty : (heap : List Owned) (n : ℕ) → AreBound heap (empty_slots n)
bound-empty heap zero = All-nil (λ slot. IfSome slot (IsSound heap))
bound-empty heap (suc n) = All-cons (λ slot. IfSome slot (IsSound heap)) None (empty_slots n) tt (bound-empty heap n)

pub bound-more : (heap : List Owned) (locals : ℕ) (slots more : List (Option Value)) → more ≡ slots_to locals slots → AreBound heap slots → AreBound heap more
bound-more heap locals slots more is bound =
    subst (AreBound heap) (sym is) (All-append (λ slot. IfSome slot (IsSound heap)) slots (empty_slots (locals - length slots)) bound (bound-empty heap (locals - length slots)))

-- one slot more
pub slots-turn : (locals : ℕ) (slots new : List (Option Value)) → length slots < locals → new ≡ slots ++ None ∷ [] → slots_to locals new ≡ slots_to locals slots
slots-turn locals slots new few pushed =
    let long : length (slots ++ None ∷ []) ≡ length slots + 1 = length-append slots (None ∷ []) in
    let left : locals - length slots ≡ suc (locals - length (slots ++ None ∷ [])) = omega arith in
    ap (slots_to locals) pushed
    ∙ append_assoc slots (None ∷ []) (empty_slots (locals - length (slots ++ None ∷ [])))
    ∙ ap (λ n. slots ++ empty_slots n) (sym left)

-- none is missing
pub slots-all : (locals : ℕ) (slots : List (Option Value)) → locals ≤ length slots → slots ≡ slots_to locals slots
slots-all locals slots many =
    let none : locals - length slots ≡ 0 = omega arith in
    sym (ap (λ n. slots ++ empty_slots n) none ∙ append-nil slots)

-- ---- the store before the module runs

module _ (d : Placed) (before : Cells) (empty : before.heap ≡ []) (locals : ℕ) where
  abbrev begun : Cells
  begun = added before trusted (exposing d.expose)

  abbrev some : SlotsMade
  some = classes_placed d.classes ([], begun)

  abbrev pub all_declared : SlotsMade
  all_declared = declared_placed d before

  abbrev pub globals_at : Oid
  globals_at = record { 0 = length all_declared.1.heap }

  abbrev pub whole : Cells
  whole = filled d locals before

  abbrev slots : List (Option Value)
  slots = slots_to locals all_declared.0

  pub exposed-there : HasExposed (length d.expose) whole.heap
  exposed-there = record {
    slots = map (λ _. None) d.expose;
    many = length-map d.expose (λ _. None);
    content = exposing-there d before begun some.1 some.0 empty refl refl all_declared.1 whole all_declared.0 slots refl refl;
    owner = exposing-trusted d before begun some.1 some.0 empty refl refl all_declared.1 whole all_declared.0 slots refl refl;
  }

  pub scope-there : IsScopeOf whole.heap trusted globals_at
  scope-there =
      let last = globals-last d before begun some.1 some.0 empty refl refl all_declared.1 whole all_declared.0 slots refl refl globals_at refl in
      (subst (λ (c : Option Content). IsSomeAnd c IsScope) (sym (ap (option_map (λ (o : Owned). o.content)) last)) tt, ap (option_map (λ (o : Owned). o.owner)) last)

  pub scope-at : (store : Cells) (at : Oid) → store ≡ whole → at.0 ≡ length all_declared.1.heap → IsScopeOf store.heap trusted at
  scope-at store at is place =
      let spot : globals_at ≡ at = λ k. record { 0 = sym place k } in
      subst (λ (at : Oid). IsScopeOf store.heap trusted at) spot (subst (λ (s : Cells). IsScopeOf s.heap trusted globals_at) (sym is) scope-there)

  pub scope-behind : 0 < globals_at.0
  scope-behind = globals-behind d before begun some.1 some.0 empty refl refl all_declared.1 whole all_declared.0 slots refl refl globals_at refl

  -- the names of its classes are those of declared ones
  pub filled-named : (names : List (List ℕ)) → IsHeldBy names d → AreNamed names whole.heap
  filled-named names held =
      let P : Owned → Type 0 = λ o. IsNamed names o.content in
      let classes : AreNamed names (exposing_owned d ∷ map class_owned d.classes) =
      All-cons P (exposing_owned d) (map class_owned d.classes) tt (All-map P class_owned d.classes (λ k c within. (held.classes k c within).name)) in
      let there : AreNamed names some.1.heap = subst (AreNamed names) (sym (heap-classed d before begun some.1 some.0 empty refl refl)) classes in
      let grew = objects-grew d.classes d.objects some in
      let objects : AreNamed names all_declared.1.heap = subst (AreNamed names) (sym grew.same) (All-append P some.1.heap grew.more there (grew.named names)) in
      All-append P all_declared.1.heap (record { owner = trusted; content = scope (Some 0) None slots } ∷ []) objects
      (All-cons P (record { owner = trusted; content = scope (Some 0) None slots }) [] tt (All-nil P))

-- ---- slots that change name no class

slots-named : (names : List (List ℕ)) (f : List (Option Value) → List (Option Value)) (c : Content) → IsNamed names c → IsNamed names (on_slots f c)
slots-named names f (list xs) h = h
slots-named names f (tuple xs) h = h
slots-named names f (dict es) h = h
slots-named names f (instance of fs) h = h
slots-named names f (class n d ms) h = h
slots-named names f (function n u b w ds) h = h
slots-named names f (method r q) h = h
slots-named names f (scope b p vs) h = h

pub changed-named : (names : List (List ℕ)) (heap : List Owned) (i : ℕ) (f : List (Option Value) → List (Option Value)) → AreNamed names heap → AreNamed names (changed_from heap i (on_slots f))
changed-named names [] i f named = named
changed-named names (o ∷ heap) zero f named =
    let P : Owned → Type 0 = λ o. IsNamed names o.content in
    All-cons P (record { owner = o.owner; content = on_slots f o.content }) heap (slots-named names f o.content (All-head P o heap named)) (All-tail P o heap named)
changed-named names (o ∷ heap) (suc i) f named =
    let P : Owned → Type 0 = λ o. IsNamed names o.content in
    All-cons P o (changed_from heap i (on_slots f)) (All-head P o heap named) (changed-named names heap i f (All-tail P o heap named))
