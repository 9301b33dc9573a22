-- The classes of declared objects are declared.
use Rattle.std.proofs.Common.{◌≡◌, ℕ, Bool, true, false, cond, not, ◌||◌, List, [], ◌∷◌, ◌++◌, map}
use Rattle.std.proofs.Common.{flat_map, filter, get_or, refl, sym, ap, ◌∙◌, arith}
use Rattle.std.specs.List.{All, list_any}
use Rattle.std.proofs.lemmas.List.Elements.{All-cons, All-head, All-tail}
use Rattle.rp_base.specs.Names.{HoldsEachOnce}
use Rattle.rp_base.specs.Same.{same_text}
use Rattle.rp_base.specs.declared.value.Name.{Name}
use Rattle.rp_checker.proofs.Composition.{same_text-places}
use Rattle.rp_decl.specs.Consistency.{IsConsistent, class_names, is_on_ring, likes, unknown}
use Rattle.rp_decl.specs.Places.{IsHeld, IsHeldBy}
use Rattle.rp_decl.specs.View.{Placed, class_view, declarations_view, name_text, object_view}
use Rattle.rp_decl.specs.Word.{is_among}
use Rattle.rp_decl.proofs.Unknown.{unknown-append}
use Rattle.rp_store.specs.Key.{same_name}
use Rattle.rp_world.specs.PlacingSteps.{IsDeclared}
use Rattle.rp_base.proofs.CallerLemmas.{map-through, nil-front, nil-rest}

-- to look for a word among the words of names is to look for the name
any-named : {X : Type 0} (of : X → Name) (names : List (List ℕ)) (name : Name) (xs : List X) → HoldsEachOnce names → IsHeld names name → All (λ x. IsHeld names (of x)) xs
    → list_any (same_text (name_text names name)) (map (λ x. name_text names (of x)) xs) ≡ list_any (λ x. same_name name (of x)) xs
any-named of names name [] once here held = refl
any-named of names name (x ∷ xs) once here held =
    let head = same_text-places names name.0 (of x).0 once here (All-head (λ x. IsHeld names (of x)) x xs held) in
    let tail = any-named of names name xs once here (All-tail (λ x. IsHeld names (of x)) x xs held) in
    λ k. head k || tail k

all-known : {X : Type 0} (known : List (List ℕ)) (of : X → List ℕ) (xs : List X) → unknown known (map of xs) ≡ [] → All (λ x. is_among known (of x) ≡ true) xs
all-known known of [] none = λ k d within. absurd (omega arith)
all-known {X} known of (x ∷ xs) none = by (is_among known (of x)) refl (all-known known of xs) none
  where
    by : (b : Bool) → is_among known (of x) ≡ b → (unknown known (map of xs) ≡ [] → All (λ x. is_among known (of x) ≡ true) xs) → cond (not b) (of x ∷ unknown known (map of xs)) (unknown known (map of xs)) ≡ [] → All (λ x. is_among known (of x) ≡ true) (x ∷ xs)
    by true here rest none = All-cons (λ x. is_among known (of x) ≡ true) x xs here (rest none)
    by false here rest none = cc

pub classes-declared : (names : List (List ℕ)) (d : Placed) → HoldsEachOnce names → IsHeldBy names d → IsConsistent (declarations_view names d) → All (λ o. IsDeclared d.classes o.class) d.objects
classes-declared names d once held consistent =
    let ds = declarations_view names d in
    let known = class_names ds in
    let liked = flat_map likes ds.classes in
    let of = map (λ o. o.class) ds.objects in
    let joined : unknown known (liked ++ of) ≡ [] = nil-front (unknown known (liked ++ of)) (filter (is_on_ring ds) known) consistent.classes_declared in
    let none : unknown known of ≡ [] = nil-rest (unknown known liked) (unknown known of) (sym (unknown-append known liked of) ∙ joined) in
    let through : of ≡ map (λ o. name_text names o.class) d.objects = map-through (object_view names) (λ o. o.class) d.objects in
    let all = all-known known (λ o. name_text names o.class) d.objects (ap (unknown known) (sym through) ∙ none) in
    λ k x within.
    let o = get_or d.objects k x in
    let here = any-named (λ c. c.name) names o.class d.classes once (held.objects k x within).class (λ j c inside. (held.classes j c inside).name) in
    let words = ap (list_any (same_text (name_text names o.class))) (map-through (class_view names d.permissions) (λ c. c.name) d.classes) in
    sym (words ∙ here) ∙ all k x within
