-- What is named and not known, of lists that are joined.
use Rattle.std.proofs.Common.{◌≡◌, ℕ, Bool, true, false, not, ◌||◌, cond, suc, if◌then◌else◌, List, [], ◌∷◌, ◌++◌, Option, None, Some, is_some, option_and_then, option_map, refl, sym, ap, ◌∙◌}
use Rattle.std.specs.Option.{option_map_or}
use Rattle.std.proofs.lemmas.List.Elements.{filter-append}
use Rattle.rp_base.specs.Same.{same_text}
use Rattle.rp_decl.specs.Consistency.{unknown}
use Rattle.rp_decl.specs.Order.{least, lesser_of, place_of}
use Rattle.rp_decl.specs.Word.{is_among}
use Rattle.rp_decl.proofs.Orders.{least-append, least-step}
use Rattle.rp_base.proofs.CallerLemmas.{is_some-option_map}

pub is_among-place_of : (known : List (List ℕ)) (text : List ℕ) → is_among known text ≡ is_some (place_of known text)
is_among-place_of [] text = refl
is_among-place_of (x ∷ xs) text = by (same_text text x) (is_among-place_of xs text)
  where
    by : (b : Bool) → is_among xs text ≡ is_some (place_of xs text) → (b || is_among xs text) ≡ is_some (cond b (Some 0) (option_map suc (place_of xs text)))
    by true rest = refl
    by false rest = rest ∙ sym (is_some-option_map _ (place_of xs text))

-- a text is unknown where it has no place
pub least-unknown-like : (known : List (List ℕ)) (like : Option (List ℕ))
    → least (unknown known (option_map_or (λ name. name ∷ []) like []))
    ≡ (if is_some (option_and_then (place_of known) like) then None else like)
least-unknown-like known None = refl
least-unknown-like known (Some name) = rw (is_among-place_of known name) (by (is_some (place_of known name)))
  where
    by : (b : Bool) → least (cond (not b) (name ∷ []) []) ≡ cond b None (Some name)
    by true = refl
    by false = refl

pub unknown-append : (known xs ys : List (List ℕ)) → unknown known (xs ++ ys) ≡ unknown known xs ++ unknown known ys
unknown-append known xs ys = filter-append (λ t. not (is_among known t)) xs ys

pub least-unknown : (known xs ys : List (List ℕ)) → least (unknown known (xs ++ ys)) ≡ lesser_of (least (unknown known xs)) (least (unknown known ys))
least-unknown known xs ys = ap least (unknown-append known xs ys) ∙ least-append (unknown known xs) (unknown known ys)

pub unknown-step : (found : Option (List ℕ)) (known xs ys : List (List ℕ)) → lesser_of found (least (unknown known (xs ++ ys))) ≡ lesser_of (lesser_of found (least (unknown known xs))) (least (unknown known ys))
unknown-step found known xs ys = ap (λ faults. lesser_of found (least faults)) (unknown-append known xs ys) ∙ least-step found (unknown known xs) (unknown known ys)

pub least-unknown-4 : (known a b c d : List (List ℕ)) → least (unknown known (((a ++ b) ++ c) ++ d))
    ≡ lesser_of (lesser_of (lesser_of (least (unknown known a)) (least (unknown known b))) (least (unknown known c))) (least (unknown known d))
least-unknown-4 known a b c d =
    least-unknown known ((a ++ b) ++ c) d
    ∙ ap (λ x. lesser_of x (least (unknown known d)))
    (least-unknown known (a ++ b) c ∙ ap (λ x. lesser_of x (least (unknown known c))) (least-unknown known a b))

pub least-unknown-and : (known a b faults : List (List ℕ)) → least (unknown known (a ++ b) ++ faults)
    ≡ lesser_of (lesser_of (least (unknown known a)) (least (unknown known b))) (least faults)
least-unknown-and known a b faults = least-append (unknown known (a ++ b)) faults ∙ ap (λ x. lesser_of x (least faults)) (least-unknown known a b)
