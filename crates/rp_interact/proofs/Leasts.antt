-- The least place, from the front on.
use Rattle.std.proofs.Common.{◌≡◌, refl, sym, ap, ◌∙◌, ℕ, zero, suc, ◌+◌, ◌<◌, ◌≢◌, nat_eq, Bool, true, false, cond, List, [], ◌∷◌, ◌++◌, append-nil, length, map, take, get_or, Option, Some, None, arith}
use Rattle.std.specs.List.{filter, find}
use Rattle.std.proofs.lemmas.Bool.Decides.{nat_tests}
use Rattle.std.proofs.lemmas.List.{map_push}
use Rattle.std.proofs.lemmas.List.Elements.{filter_more}
use Rattle.rp_interact.specs.Least.{least_of, least_place, lower, lowered}

lower-twice : (o : Option ℕ) (x y : ℕ) → lower (Some (lower o x)) y ≡ lower (Some (lower o y)) x
lower-twice None x y = grind (arith, nat_tests)
lower-twice (Some z) x y = grind (arith, nat_tests)

least_place-push : (xs : List ℕ) (x : ℕ) → least_place (xs ++ x ∷ []) ≡ Some (lower (least_place xs) x)
least_place-push [] x = refl
least_place-push (y ∷ xs) x = ap (λ o. Some (lower o y)) (least_place-push xs x) ∙ ap Some (lower-twice (least_place xs) x y)

-- one more element
pub least_of-more : {X : Type 0} (test : X → Bool) (place : X → ℕ) (xs : List X) (i : ℕ) (d : X) → i < length xs → least_of test place (take (i + 1) xs) ≡ lowered (least_of test place (take i xs)) (test (get_or xs i d)) (place (get_or xs i d))
least_of-more {X} test place xs i d inside = ap (λ ys. least_place (map place ys)) (filter_more test xs i d inside) ∙ by (test (get_or xs i d))
  where
    by : (b : Bool) → least_place (map place (filter test (take i xs) ++ cond b (get_or xs i d ∷ []) [])) ≡ lowered (least_of test place (take i xs)) b (place (get_or xs i d))
    by true = ap least_place (map_push place (filter test (take i xs)) (get_or xs i d)) ∙ least_place-push (map place (filter test (take i xs))) (place (get_or xs i d))
    by false = ap (λ ys. least_place (map place ys)) (append-nil (filter test (take i xs)))

-- one turn of a loop over the elements
pub least_of-step : {X : Type 0} (test : X → Bool) (place : X → ℕ) (xs : List X) (i : ℕ) (x : X) (least result : Option ℕ) (counts : Bool) (at_place : ℕ) → i < length xs → x ≡ get_or xs i x
    → least ≡ least_of test place (take i xs) → counts ≡ test x → at_place ≡ place x → result ≡ lowered least counts at_place → result ≡ least_of test place (take (i + 1) xs)
least_of-step test place xs i x least result counts at_place inside is so_far passes stands made =
    made
    ∙ (λ k. lowered (so_far k) (passes k) (stands k))
    ∙ (λ k. lowered (least_of test place (take i xs)) (test (is k)) (place (is k)))
    ∙ sym (least_of-more test place xs i x inside)

-- an element that none before it comes up to
pub find-first : {X : Type 0} (test : X → Bool) (xs : List X) (i : ℕ) (d : X) → i < length xs → find test (take i xs) ≡ None → test (get_or xs i d) ≡ true → find test xs ≡ Some (get_or xs i d)
find-first test [] i d inside none here = absurd (omega arith)
find-first test (x ∷ xs) zero d inside none here = ap (λ b. cond b (Some x) (find test xs)) here
find-first {X} test (x ∷ xs) (suc i) d inside none here = by (test x) (find-first test xs i d (omega arith)) none
  where
    by : (b : Bool) → (find test (take i xs) ≡ None → test (get_or xs i d) ≡ true → find test xs ≡ Some (get_or xs i d)) → cond b (Some x) (find test (take i xs)) ≡ None → cond b (Some x) (find test xs) ≡ Some (get_or xs i d)
    by true later none = cc
    by false later none = later none here

pub find-none-more : {X : Type 0} (test : X → Bool) (xs : List X) (i : ℕ) (d : X) → i < length xs → find test (take i xs) ≡ None → test (get_or xs i d) ≡ false → find test (take (i + 1) xs) ≡ None
find-none-more test [] i d inside none here = absurd (omega arith)
find-none-more test (x ∷ xs) zero d inside none here = ap (λ b. cond b (Some x) None) here
find-none-more {X} test (x ∷ xs) (suc i) d inside none here = let longer : suc i + 1 ≡ suc (i + 1) = omega arith in rw longer (by (test x) (find-none-more test xs i d (omega arith)) none)
  where
    by : (b : Bool) → (find test (take i xs) ≡ None → test (get_or xs i d) ≡ false → find test (take (i + 1) xs) ≡ None) → cond b (Some x) (find test (take i xs)) ≡ None → cond b (Some x) (find test (take (i + 1) xs)) ≡ None
    by true later none = cc
    by false later none = later none here

pub not_one : (a b : ℕ) → a ≢ b → nat_eq a b ≡ false
not_one a b differ = grind (arith, nat_tests)

pub nat_eq-swap : (a b : ℕ) → nat_eq a b ≡ nat_eq b a
nat_eq-swap a b = grind (arith, nat_tests)
