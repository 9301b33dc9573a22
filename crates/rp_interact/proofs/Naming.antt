-- Principals by their ids.
use Rattle.std.proofs.Common.{◌≡◌, refl, sym, ap, ◌∙◌, ℕ, ◌+◌, ◌<◌, Bool, true, false, not, cond, List, [], ◌∷◌, ◌++◌, map, take, get_or, length, find, Option, Some, None, is_some, subst}
use Rattle.std.specs.List.{All}
use Rattle.std.specs.Option.{option_map}
use Rattle.std.proofs.lemmas.List.{length-map, map_more, map_push}
use Rattle.std.proofs.lemmas.List.Elements.{All-head, All-tail}
use Rattle.rp_base.specs.Same.{same_text}
use Rattle.rp_decl.specs.View.{Placed, declarations_view, group_ids, principal_view, role_ids}
use Rattle.rp_decl.specs.Records.{Principal}
use Rattle.rp_decl.specs.declared.records.PrincipalDecl.{PrincipalDecl}
use Rattle.rp_interact.specs.Granted.{granted_of, reasons_of}
use Rattle.rp_interact.specs.declared.reason.Reason.{Reason}
use Rattle.rp_interact.specs.Why.{first_unknown, principal_named}
use Rattle.rp_interact.proofs.Leasts.{find-first}
use Rattle.rp_base.proofs.CallerLemmas.{is_some-option_map}

-- the principal with an id, as the code looks for it
abbrev pub principal_of : Placed → List ℕ → Option PrincipalDecl
principal_of d id = find (λ p. same_text id p.id) d.principals

abbrev pub view_of : Placed → PrincipalDecl → Principal
view_of d = principal_view d.permissions (role_ids d) (group_ids d)

-- why a principal has each permission or not
abbrev pub table_of : Placed → PrincipalDecl → List Reason
table_of d p = reasons_of (length d.permissions) (granted_of d.roles d.groups p)

-- each id names a principal, with these reasons
abbrev pub AreNamed : Placed → List (List ℕ) → List (List Reason) → Type 0
AreNamed d ids reasons = map Some reasons ≡ map (λ id. option_map (table_of d) (principal_of d id)) ids

pub named-more : (d : Placed) (who : List (List ℕ)) (i : ℕ) (id : List ℕ) (p : PrincipalDecl) (reasons : List (List Reason)) → i < length who → id ≡ get_or who i id → principal_of d id ≡ Some p → AreNamed d (take i who) reasons
    → AreNamed d (take (i + 1) who) (reasons ++ table_of d p ∷ [])
named-more d who i id p reasons inside is found named =
    map_push Some reasons (table_of d p)
    ∙ (λ k. named k ++ ap (option_map (table_of d)) (sym found) k ∷ [])
    ∙ ap (λ x. map (λ id. option_map (table_of d) (principal_of d id)) (take i who) ++ option_map (table_of d) (principal_of d x) ∷ []) is
    ∙ sym (map_more (λ id. option_map (table_of d) (principal_of d id)) who i id inside)

pub named-length : (d : Placed) (ids : List (List ℕ)) (reasons : List (List Reason)) → AreNamed d ids reasons → length ids ≡ length reasons
named-length d ids reasons named = sym (length-map ids (λ id. option_map (table_of d) (principal_of d id))) ∙ ap length (sym named) ∙ length-map reasons Some

pub find-within : {X : Type 0} (P : X → Type 0) (test : X → Bool) (xs : List X) (x : X) → All P xs → find test xs ≡ Some x → P x
find-within P test [] x all e = cc
find-within {X} P test (y ∷ xs) x all e = by (test y) (find-within P test xs x (All-tail P y xs all)) e
  where
    by : (b : Bool) → (find test xs ≡ Some x → P x) → cond b (Some y) (find test xs) ≡ Some x → P x
    by true later e = let same : y ≡ x = cc in subst P same (All-head P y xs all)
    by false later e = later e

pub find-map : {X Y : Type 0} (f : X → Y) (test : Y → Bool) (xs : List X) → find test (map f xs) ≡ option_map f (find (λ x. test (f x)) xs)
find-map f test [] = refl
find-map {X} {Y} f test (x ∷ xs) = by (test (f x)) (find-map f test xs)
  where
    by : (b : Bool) → find test (map f xs) ≡ option_map f (find (λ x. test (f x)) xs) → cond b (Some (f x)) (find test (map f xs)) ≡ option_map f (cond b (Some x) (find (λ x. test (f x)) xs))
    by true later = refl
    by false later = later

pub principal-named : (names : List (List ℕ)) (d : Placed) (id : List ℕ) → principal_named (declarations_view names d) id ≡ option_map (view_of d) (principal_of d id)
principal-named names d id = find-map (view_of d) (λ p. same_text id p.id) d.principals

is-named : (names : List (List ℕ)) (d : Placed) (id : List ℕ) → is_some (principal_named (declarations_view names d) id) ≡ is_some (principal_of d id)
is-named names d id = ap is_some (principal-named names d id) ∙ is_some-option_map (view_of d) (principal_of d id)

-- where each names a principal, none is unknown
pub none-unknown : (names : List (List ℕ)) (d : Placed) (ids : List (List ℕ)) (reasons : List (List Reason)) → AreNamed d ids reasons → first_unknown (declarations_view names d) ids ≡ None
none-unknown names d [] reasons named = refl
none-unknown names d (id ∷ ids) [] named = cc
none-unknown names d (id ∷ ids) (g ∷ reasons) named =
    let first : Some g ≡ option_map (table_of d) (principal_of d id) = cc in
    let rest : map Some reasons ≡ map (λ id. option_map (table_of d) (principal_of d id)) ids = cc in
    let known : is_some (principal_named (declarations_view names d) id) ≡ true = is-named names d id ∙ sym (is_some-option_map (table_of d) (principal_of d id)) ∙ sym (ap is_some first) in
    ap (λ b. cond (not b) (Some id) (first_unknown (declarations_view names d) ids)) known ∙ none-unknown names d ids reasons rest

-- the first id that names none
pub one-unknown : (names : List (List ℕ)) (d : Placed) (who : List (List ℕ)) (i : ℕ) (id : List ℕ) (reasons : List (List Reason)) → i < length who → id ≡ get_or who i id → AreNamed d (take i who) reasons → principal_of d id ≡ None
    → first_unknown (declarations_view names d) who ≡ Some id
one-unknown names d who i id reasons inside is named none =
    let here : not (is_some (principal_named (declarations_view names d) id)) ≡ true = ap not (is-named names d id ∙ ap is_some none) in
    find-first (λ id. not (is_some (principal_named (declarations_view names d) id))) who i id inside (none-unknown names d (take i who) reasons named) (ap (λ x. not (is_some (principal_named (declarations_view names d) x))) (sym is) ∙ here)
    ∙ ap Some (sym is)
