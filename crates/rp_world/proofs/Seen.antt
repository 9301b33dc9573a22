-- The steps over the records as the program keeps them are those of loading over the texts that they stand for.
use Rattle.std.proofs.Common.{◌≡◌, ℕ, zero, suc, ◌+◌, ◌<◌, ◌≤◌, Bool, true, false, cond, not, if◌then◌else◌, nat_eq, List, [], ◌∷◌, ◌++◌, length, map, get_or, replicate, Option, Some, None, refl, sym, ap, ◌∙◌, ne_eqb, arith}
use Rattle.std.specs.List.{All, AllByRecursion, IsDistinct, position_or_len}
use Rattle.std.specs.Map.{keys_of}
use Rattle.std.proofs.lemmas.Bool.Decides.{nat_tests}
use Rattle.std.proofs.lemmas.List.{length-append, length-map, map-append}
use Rattle.std.proofs.lemmas.List.Elements.{All-head, All-tail}
use Rattle.std.proofs.lemmas.List.Sums.{position_or_len_is}
use Rattle.rp_base.specs.Names.{HoldsEachOnce}
use Rattle.rp_base.specs.Same.{same_text}
use Rattle.rp_base.specs.declared.value.Name.{Name}
use Rattle.rp_base.specs.declared.value.Oid.{Oid}
use Rattle.rp_base.specs.declared.value.Value.{Value}
use Rattle.rp_checker.proofs.Composition.{same_text-places}
use Rattle.rp_decl.specs.Places.{IsClassHeld, IsHeld, IsHeldBy, IsObjectHeld}
use Rattle.rp_decl.specs.Records as records
use Rattle.rp_decl.specs.Records.{Declarations}
use Rattle.rp_decl.specs.View.{Placed, class_view, declarations_view, field_view, name_text, object_view}
use Rattle.rp_decl.specs.declared.records.ClassDecl.{ClassDecl}
use Rattle.rp_decl.specs.declared.records.Field.{Field}
use Rattle.rp_decl.specs.declared.records.ObjectDecl.{ObjectDecl}
use Rattle.rp_dict.specs.Dict.{insert_entry}
use Rattle.rp_meaning.specs.BuiltIn.{name_of}
use Rattle.rp_meaning.specs.Expressions.{empty_slots}
use Rattle.rp_meaning.specs.Load.{AllMade, Made, and_made, class_place, classes_made, declared_made, exposing as exposing_made, field_made, instance_made, made_in, objects_made, trusted}
use Rattle.rp_store.specs.Key.{same_name}
use Rattle.rp_store.specs.Object.{class, scope}
use Rattle.rp_store.specs.Store.{Cells, added}
use Rattle.rp_world.proofs.Apart.{AreApart}
use Rattle.rp_world.specs.PlacingSteps.{FieldsMade, SlotsMade, and_slot, classes_placed, declared_placed, exposing, fields_placed, instance_in, nothing, object_placed, objects_placed, place_of_class}

-- ---- fields whose names differ

-- a name is none of these
abbrev pub IsFresh : Name → List (Name × Value) → Type 0
IsFresh name [] = Unit {0}
IsFresh name (e ∷ es) = (same_name name e.0 ≡ false) × IsFresh name es

abbrev AreFresh : List (Name × Field) → List (Name × Value) → Type 0
AreFresh [] done = Unit {0}
AreFresh (f ∷ fs) done = IsFresh f.0 done × AreFresh fs done

put-last : (done : List (Name × Value)) (name : Name) (v : Value) → IsFresh name done → insert_entry same_name done name v ≡ done ++ (name, v) ∷ []
put-last [] name v fresh = refl
put-last (e ∷ es) name v fresh =
    ap (λ b. if b then (e.0, v) ∷ es else e ∷ insert_entry same_name es name v) fresh.0 ∙ ap (λ l. e ∷ l) (put-last es name v fresh.1)

fresh-more : (name other : Name) (v : Value) (done : List (Name × Value)) → IsFresh name done → same_name name other ≡ false → IsFresh name (done ++ (other, v) ∷ [])
fresh-more name other v [] fresh apart = (apart, tt)
fresh-more name other v (e ∷ es) fresh apart = (fresh.0, fresh-more name other v es fresh.1 apart)

same-back : (m n : Name) → same_name m n ≡ same_name n m
same-back m n = grind (arith, nat_tests)

all-fresh : (other : Name) (v : Value) (done : List (Name × Value)) (fs : List (Name × Field)) → AreFresh fs done → AllByRecursion (λ y. same_name other y ≡ false) (keys_of fs) → AreFresh fs (done ++ (other, v) ∷ [])
all-fresh other v done [] fresh apart = tt
all-fresh other v done (f ∷ fs) fresh apart = (fresh-more f.0 other v done fresh.0 (same-back f.0 other ∙ apart.0), all-fresh other v done fs fresh.1 apart.1)

none-fresh : (fs : List (Name × Field)) → AreFresh fs []
none-fresh [] = tt
none-fresh (f ∷ fs) = (tt, none-fresh fs)

-- ---- names and their texts

abbrev pub bind : AllMade → SlotsMade
bind all = (map Some all.0, all.1)

module _ (names : List (List ℕ)) (once : HoldsEachOnce names) where
  pub name-back : (n : Name) → IsHeld names n → name_of names (name_text names n) ≡ n
  name-back n held =
      let p : List ℕ → Bool = same_text (name_text names n) in
      let before : (k : ℕ) → k < n.0 → p (get_or names k []) ≡ false = λ k low.
      let inside : k < length names = omega arith in
      let other : n.0 ≡ k → ⊥ = λ e. absurd (omega arith) in
      same_text-places names n.0 k once held inside ∙ ne_eqb n.0 k other in
      let here : n.0 < length names → p (get_or names n.0 []) ≡ true = λ low. same_text-places names n.0 n.0 once held held ∙ same-itself n.0 in
      let place : position_or_len p names ≡ n.0 = position_or_len_is p names n.0 [] (omega arith) before here in
      λ k. record { 0 = place k }
    where
      same-itself : (i : ℕ) → nat_eq i i ≡ true
      same-itself i = grind (arith, nat_tests)

  module _ (d : Placed) where
    abbrev ds : Declarations
    ds = declarations_view names d

    spot-seen : (name : Name) (cs : List ClassDecl) → IsHeld names name → All (IsClassHeld names) cs
        → position_or_len (λ (c : records.Class). same_text (name_text names name) c.name) (map (class_view names d.permissions) cs) ≡ position_or_len (λ (c : ClassDecl). same_name name c.name) cs
    spot-seen name [] here held = refl
    spot-seen name (c ∷ cs) here held =
        let head = same_text-places names name.0 c.name.0 once here (All-head (IsClassHeld names) c cs held).name in
        let tail = spot-seen name cs here (All-tail (IsClassHeld names) c cs held) in
        λ k. cond (not (head k)) (1 + tail k) 0

    place-seen : (name : Name) → IsHeld names name → All (IsClassHeld names) d.classes → class_place names ds (name_text names name) ≡ place_of_class d.classes name
    place-seen name here held = λ k. record { 0 = suc (spot-seen name d.classes here held k) }

    -- ---- classes

    pub classes-seen : (cs : List ClassDecl) (all : AllMade) → All (IsClassHeld names) cs → bind (classes_made names ds (map (class_view names d.permissions) cs) all) ≡ classes_placed cs (bind all)
    classes-seen [] all held = refl
    classes-seen (c ∷ cs) all held =
        let back = name-back c.name (All-head (IsClassHeld names) c cs held).name in
        let made : Made = made_in (class c.name true []) all.1 in
        ap (λ (n : Name). bind (classes_made names ds (map (class_view names d.permissions) cs) (and_made all (made_in (class n true []) all.1)))) back
        ∙ classes-seen cs (and_made all made) (All-tail (IsClassHeld names) c cs held)
        ∙ ap (λ (slots : List (Option Value)). classes_placed cs (slots, made.1)) (map-append Some all.0 (made.0 ∷ []))

    -- ---- objects

    fields-seen : (of : Oid) (fs : List (Name × Field)) (done : List (Name × Value)) (cells : Cells) → All (λ f. IsHeld names f.0) fs → IsDistinct same_name (keys_of fs) → AreFresh fs done
        → instance_made names ds of (map (λ (f : Name × Field). (name_text names f.0, field_view f.1)) fs) done cells ≡ instance_in of (fields_placed fs (done, cells))
    unfolding IsDistinct
    fields-seen of [] done cells held apart fresh = refl
    fields-seen of (f ∷ fs) done cells held apart fresh =
        let made : Made = field_made (field_view f.1) cells in
        let last : insert_entry same_name done f.0 made.0 ≡ done ++ (f.0, made.0) ∷ [] = put-last done f.0 made.0 fresh.0 in
        ap (λ (n : Name). instance_made names ds of (map (λ (f : Name × Field). (name_text names f.0, field_view f.1)) fs) (done ++ (n, made.0) ∷ []) made.1) (name-back f.0 (All-head (λ (f : Name × Field). IsHeld names f.0) f fs held))
        ∙ fields-seen of fs (done ++ (f.0, made.0) ∷ []) made.1 (All-tail (λ (f : Name × Field). IsHeld names f.0) f fs held) apart.1 (all-fresh f.0 made.0 done fs fresh.1 apart.0)
        ∙ sym (ap (λ (fields : List (Name × Value)). instance_in of (fields_placed fs (fields, made.1))) last)

    object-seen : (o : ObjectDecl) (cells : Cells) → All (IsClassHeld names) d.classes → IsObjectHeld names o → AreApart o
        → instance_made names ds (class_place names ds (object_view names o).class) (object_view names o).fields [] cells ≡ object_placed d.classes o cells
    object-seen o cells classes held apart =
        ap (λ (of : Oid). instance_made names ds of (object_view names o).fields [] cells) (place-seen o.class held.class classes)
        ∙ fields-seen (place_of_class d.classes o.class) o.fields.items [] cells held.fields apart (none-fresh o.fields.items)

    pub objects-seen : (os : List ObjectDecl) (all : AllMade) → All (IsClassHeld names) d.classes → All (IsObjectHeld names) os → All AreApart os
        → bind (objects_made names ds (map (object_view names) os) all) ≡ objects_placed d.classes os (bind all)
    objects-seen [] all classes held apart = refl
    objects-seen (o ∷ os) all classes held apart =
        let here = object-seen o all.1 classes (All-head (IsObjectHeld names) o os held) (All-head AreApart o os apart) in
        let made : Made = object_placed d.classes o all.1 in
        ap (λ (m : Made). bind (objects_made names ds (map (object_view names) os) (and_made all m))) here
        ∙ objects-seen os (and_made all made) classes (All-tail (IsObjectHeld names) o os held) (All-tail AreApart o os apart)
        ∙ ap (λ (slots : List (Option Value)). objects_placed d.classes os (slots, made.1)) (map-append Some all.0 (made.0 ∷ []))

    -- ---- all that is declared

    empty-seen : (ns : List Name) → empty_slots (length (map (name_text names) ns)) ≡ map (λ _. None) ns
    empty-seen [] = refl
    empty-seen (n ∷ ns) = ap (λ (slots : List (Option Value)). None ∷ slots) (empty-seen ns)

    pub declared-seen : IsHeldBy names d → All AreApart d.objects → bind (declared_made names ds) ≡ declared_placed d nothing
    declared-seen held apart =
        objects-seen d.objects (classes_made names ds ds.classes ([], exposing_made names ds)) held.classes held.objects apart
        ∙ ap (objects_placed d.classes d.objects) (classes-seen d.classes ([], exposing_made names ds) held.classes)
        ∙ ap (λ (slots : List (Option Value)). objects_placed d.classes d.objects (classes_placed d.classes ([], added nothing trusted (scope None None slots)))) (empty-seen d.expose)
