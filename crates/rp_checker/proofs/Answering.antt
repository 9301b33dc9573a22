-- Checkers whose rows are those of the classes answer as the declarations say.
use Rattle.std.proofs.Common.{◌≡◌, refl, sym, ap, subst, ◌∙◌, ℕ, suc, ◌+◌, ◌<◌, ◌≢◌, Bool, true, false, cond, ◌||◌, List, [], ◌∷◌, ◌++◌, length, map, get_or, unwrap_or, Option, Some, None, arith, nat_lt}
use Rattle.std.specs.List.{All, list_all, slice_get}
use Rattle.std.specs.Option.{IfSome, IsSome, option_and_then, option_map, option_map_or}
use Rattle.std.specs.Map.{lookup}
use Rattle.std.proofs.lemmas.Bool.{ltb-true}
use Rattle.std.proofs.lemmas.List.{length-append, length-map}
use Rattle.std.proofs.lemmas.List.Elements.{All-head, All-tail}
use Rattle.std.proofs.lemmas.List.Sums.{AllPass-from_list_all}
use Rattle.rp_base.specs.Names.{HoldsEachOnce, first_words}
use Rattle.rp_base.specs.declared.value.ClassTag.TheVariants.{List as ListTag, Tuple, Dict, Function, Method, Class, Declared, Other}
use Rattle.rp_base.specs.declared.value.Name.{Name}
use Rattle.rp_base.specs.declared.value.Op.{Op}
use Rattle.rp_base.specs.declared.value.Op.TheVariants.{Get, Set}
use Rattle.rp_base.proofs.CallerLemmas.{same_text-refl}
use Rattle.rp_decl.specs.Document.{public as zope_public}
use Rattle.rp_decl.specs.Places.{IsHeld}
use Rattle.rp_decl.specs.View.{Placed, class_view, declarations_view, name_text, text_at}
use Rattle.rp_decl.specs.Word.{is_among}
use Rattle.rp_decl.specs.declared.row.Row.TheVariants.{Public, Default, Forbidden}
use Rattle.rp_checker.specs.Answers.{AnswersAs, IsReadWith, operation_view, row_view}
use Rattle.rp_checker.specs.Chain.{AllEnd, AreRowsOf, HasAllRows, class_places, row_within}
use Rattle.rp_checker.specs.Lookup.{is_name}
use Rattle.rp_checker.specs.Plan.{HasPlacesWithin}
use Rattle.rp_checker.specs.RowOf as text
use Rattle.rp_checker.specs.Tables.{class_place, is_place_among, row_at, row_in, row_unlisted}
use Rattle.rp_checker.specs.declared.class_rows.ClassRows.{ClassRows}
use Rattle.rp_checker.specs.declared.words.TheConstants.{SEQUENCE, MAPPING, CALLABLE, AVAILABLE}
use Rattle.rp_checker.proofs.Composition.{plan_of, has-no-ring, same_text-at, within-agrees}
use Rattle.rp_checker.proofs.Lookups.{nat_eq-swap}
use Rattle.rp_checker.proofs.Plans.{row_within-enough}
use Rattle.rp_checker.proofs.Rings.{all-end}

abbrev IsWord : List ℕ → Type 0
IsWord word = word ≢ []

-- a name is at one of the places where its word is one of those there
words-agree : (names : List (List ℕ)) (name : Name) (ps : List ℕ) → HoldsEachOnce names → All (λ p. p < length names) ps → All IsWord (map (text_at names) ps) → is_place_among ps name ≡ is_among (map (text_at names) ps) (name_text names name)
words-agree names name [] once within some = refl
words-agree names name (p ∷ ps) once within some =
    let first = nat_eq-swap p name.0
    ∙ sym (same_text-at names name.0 p once (All-head (λ p. p < length names) p ps within) (All-head IsWord (text_at names p) (map (text_at names) ps) some)) in
    let later = words-agree names name ps once (All-tail (λ p. p < length names) p ps within) (All-tail IsWord (text_at names p) (map (text_at names) ps) some) in
    λ k. first k || later k

option_map-unwrap : {A B : Type 0} (f : A → B) (o : Option A) (x : A) → f (unwrap_or o x) ≡ unwrap_or (option_map f o) (f x)
option_map-unwrap f None x = refl
option_map-unwrap f (Some y) x = refl

option_map_or-unwrap : {A B : Type 0} (f : A → B) (o : Option A) (x : B) → option_map_or f o x ≡ unwrap_or (option_map f o) x
option_map_or-unwrap f None x = refl
option_map_or-unwrap f (Some y) x = refl

module _ (names : List (List ℕ)) (d : Placed) (r : IsReadWith names d) where
  words-at : (ps : List ℕ) (ws : List (List ℕ)) (name : Name) → list_all (λ p. nat_lt p 59) ps ≡ true → list_all (λ w. nat_lt 0 (length w)) ws ≡ true → ((more : List (List ℕ)) → map (text_at (first_words ++ more)) ps ≡ ws)
      → is_place_among ps name ≡ is_among ws (name_text names name)
  words-at ps ws name few some words =
      let grown : names ≡ first_words ++ r.first.0 = r.first.1 in
      let long : length names ≡ length first_words + length r.first.0 = ap length grown ∙ length-append first_words r.first.0 in
      let within : All (λ p. p < length names) ps = λ k d inside. let low = ltb-true (get_or ps k d) 59 (AllPass-from_list_all (λ p. nat_lt p 59) ps few k d inside) in omega arith in
      let same : map (text_at names) ps ≡ ws = ap (λ ns. map (text_at ns) ps) grown ∙ words r.first.0 in
      let each : All IsWord ws = λ k d inside e.
      let letters = ltb-true 0 (length (get_or ws k d)) (AllPass-from_list_all (λ w. nat_lt 0 (length w)) ws some k d inside) in
      let none = ap length e in
      omega arith in
      words-agree names name ps r.distinct within (subst (All IsWord) (sym same) each) ∙ ap (λ ws. is_among ws (name_text names name)) same

  -- without a row
  unlisted-agrees : (op : Op) → row_view d.permissions (row_unlisted op) ≡ text.row_without (operation_view names op)
  unlisted-agrees (Get name) = by (is_place_among AVAILABLE name) ∙ ap (λ b. cond b text.default text.forbidden) (words-at AVAILABLE text.default_names name refl refl (λ more. refl))
    where
      by : (b : Bool) → row_view d.permissions (cond b Default Forbidden) ≡ cond b text.default text.forbidden
      by true = refl
      by false = refl
  unlisted-agrees (Set name) = refl

  -- a row that everybody has
  public-agrees : (name : Name) (b c : Bool) → b ≡ c
      → row_view d.permissions (unwrap_or (cond b (Some Public) None) (row_unlisted (Get name))) ≡ option_map_or text.row_needing (cond c (Some zope_public) None) (text.row_without (text.reading (name_text names name)))
  public-agrees name b c same = by b ∙ ap (λ c. option_map_or text.row_needing (cond c (Some zope_public) None) (text.row_without (text.reading (name_text names name)))) same
    where
      by : (b : Bool) → row_view d.permissions (unwrap_or (cond b (Some Public) None) (row_unlisted (Get name))) ≡ option_map_or text.row_needing (cond b (Some zope_public) None) (text.row_without (text.reading (name_text names name)))
      by true = ap (λ b. cond b text.public (text.needs zope_public)) (sym (same_text-refl zope_public))
      by false = unlisted-agrees (Get name)

  module _ (places : List (Name × ℕ)) (rows : List ClassRows) (look : (name : Name) → lookup (is_name name) places ≡ lookup (is_name name) (class_places d.classes)) (within : HasPlacesWithin (plan_of d places)) (right : AllEnd (plan_of d places) → HasAllRows (plan_of d places) rows)
      (index : List (Option ℕ)) (indexed : (name : Name) → class_place index name ≡ lookup (is_name name) places) where
    ends : AllEnd (plan_of d places)
    ends = all-end (plan_of d places) (has-no-ring names d places r look) within

    -- the row that is made of a class
    listed-agrees : (op : Op) (o : Option ℕ) → ((q : ℕ) → o ≡ Some q → q < length d.classes)
        → option_and_then (λ place. option_and_then (row_at op) (slice_get rows place)) o ≡ option_and_then (λ q. row_within (plan_of d places) (length d.classes) q op) o
    listed-agrees op None inside = refl
    listed-agrees op (Some q) inside =
        let all = right ends q (inside q refl) in
        by (slice_get rows q) all.0 all.1 ∙ row_within-enough (plan_of d places) (length d.classes) q op (ends q (inside q refl))
      where
        by : (o : Option ClassRows) → IfSome o (AreRowsOf (plan_of d places) q) → IsSome o → option_and_then (row_at op) o ≡ row_within (plan_of d places) (suc (length d.classes)) q op
        by None rows_of some = cc
        by (Some r) rows_of some = rows_of op

    declared-agrees : (name : Name) (op : Op) → IsHeld names name
        → row_view d.permissions (row_in (record { places = index; rows = rows }) (Declared name) op) ≡ text.row_of (declarations_view names d) (text.declared (name_text names name)) (operation_view names op)
    declared-agrees name op held =
        let as_many : length (map (class_view names d.permissions) d.classes) ≡ length d.classes = length-map d.classes (class_view names d.permissions) in
        let listed = listed-agrees op (lookup (is_name name) places) (λ q e. within name q e) in
        let said = within-agrees names d places r look (length d.classes) op name held in
        ap (λ o. row_view d.permissions (unwrap_or (option_and_then (λ place. option_and_then (row_at op) (slice_get rows place)) o) (row_unlisted op))) (indexed name)
        ∙ option_map-unwrap (row_view d.permissions) _ _
        ∙ (λ k. unwrap_or (option_map (row_view d.permissions) (listed k)) (unlisted-agrees op k))
        ∙ ap (λ o. unwrap_or o (text.row_without (operation_view names op))) (sym said)
        ∙ sym (option_map_or-unwrap text.row_needing (text.permission_within (declarations_view names d) (length d.classes) (name_text names name) (operation_view names op)) (text.row_without (operation_view names op)))
        ∙ ap (λ n. option_map_or text.row_needing (text.permission_within (declarations_view names d) n (name_text names name) (operation_view names op)) (text.row_without (operation_view names op))) (sym as_many)

    pub answers-as : AnswersAs names d (record { places = index; rows = rows })
    answers-as (Declared name) op held = declared-agrees name op held
    answers-as ListTag (Get name) held = public-agrees name _ _ (words-at SEQUENCE text.sequence_names name refl refl (λ more. refl))
    answers-as Tuple (Get name) held = public-agrees name _ _ (words-at SEQUENCE text.sequence_names name refl refl (λ more. refl))
    answers-as Dict (Get name) held = public-agrees name _ _ (words-at MAPPING text.dict_names name refl refl (λ more. refl))
    answers-as Function (Get name) held = public-agrees name _ _ (words-at CALLABLE text.call_names name refl refl (λ more. refl))
    answers-as Method (Get name) held = public-agrees name _ _ (words-at CALLABLE text.call_names name refl refl (λ more. refl))
    answers-as Class (Get name) held = unlisted-agrees (Get name)
    answers-as Other (Get name) held = unlisted-agrees (Get name)
    answers-as ListTag (Set name) held = unlisted-agrees (Set name)
    answers-as Tuple (Set name) held = unlisted-agrees (Set name)
    answers-as Dict (Set name) held = unlisted-agrees (Set name)
    answers-as Function (Set name) held = unlisted-agrees (Set name)
    answers-as Method (Set name) held = unlisted-agrees (Set name)
    answers-as Class (Set name) held = unlisted-agrees (Set name)
    answers-as Other (Set name) held = unlisted-agrees (Set name)
