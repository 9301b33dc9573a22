-- Where no class is like itself, each chain of classes ends.
use Rattle.std.proofs.Common.{◌≡◌, refl, sym, ap, ◌∙◌, ℕ, zero, suc, ◌+◌, ◌<◌, ◌≤◌, ◌≢◌, Bool, true, false, ◌||◌, List, [], ◌∷◌, length, Option, Some, None, arith, nat_eq}
use Rattle.std.specs.List.{IsDistinct, AllByRecursion, list_any}
use Rattle.std.specs.Option.{ForSome, option_and_then}
use Rattle.std.proofs.lemmas.Map.Keys.{IsDistinct-cons}
use Rattle.std.proofs.lemmas.Map.Steps.{length-le_from_distinct_below}
use Rattle.rp_checker.specs.Chain.{AllEnd, EndsWithin, like_place}
use Rattle.rp_checker.specs.Plan.{Plan, HasPlacesWithin}
use Rattle.rp_checker.proofs.Plans.{like_within}
use Rattle.std.proofs.lemmas.Bool.{eqb-true}

-- the place so many classes on
abbrev pub ahead : Plan → ℕ → ℕ → Option ℕ
ahead plan zero place = Some place
ahead plan (suc n) place = option_and_then (ahead plan n) (like_place plan place)

-- the last step apart
pub ahead-last : (plan : Plan) (n place : ℕ) → ahead plan (suc n) place ≡ option_and_then (like_place plan) (ahead plan n place)
ahead-last plan zero place = by (like_place plan place)
  where
    by : (o : Option ℕ) → option_and_then (λ q. Some q) o ≡ o
    by None = refl
    by (Some q) = refl
ahead-last plan (suc n) place = by (like_place plan place) (ahead-last plan n)
  where
    by : (o : Option ℕ) → ((q : ℕ) → ahead plan (suc n) q ≡ option_and_then (like_place plan) (ahead plan n q))
        → option_and_then (ahead plan (suc n)) o ≡ option_and_then (like_place plan) (option_and_then (ahead plan n) o)
    by None later = refl
    by (Some q) later = later q

-- no class comes back within as many steps as there are classes
pub record HasNoRing (plan : Plan) : Type 0 where
  pub no_return : (n place : ℕ) → n < length plan.classes → place < length plan.classes → ahead plan (suc n) place ≢ Some place

ends-ahead : (plan : Plan) (n place : ℕ) → ahead plan n place ≡ None → EndsWithin plan n (Some place)
ends-ahead plan zero place e = cc
ends-ahead plan (suc n) place e = by (like_place plan place) (ends-ahead plan n) e
  where
    by : (o : Option ℕ) → ((q : ℕ) → ahead plan n q ≡ None → EndsWithin plan n (Some q)) → option_and_then (ahead plan n) o ≡ None → EndsWithin plan n o
    by None later e = tt
    by (Some q) later e = later q e

-- the places from one on, at most so many
abbrev orbit : Plan → ℕ → Option ℕ → List ℕ
orbit plan n None = []
orbit plan zero (Some place) = []
orbit plan (suc n) (Some place) = place ∷ orbit plan n (like_place plan place)

orbit-zero : (plan : Plan) (o : Option ℕ) → orbit plan zero o ≡ []
orbit-zero plan None = refl
orbit-zero plan (Some q) = refl

length-orbit : (plan : Plan) (n place q : ℕ) → ahead plan n place ≡ Some q → length (orbit plan (suc n) (Some place)) ≡ suc n
length-orbit plan zero place q e = ap (λ xs. suc (length xs)) (orbit-zero plan (like_place plan place))
length-orbit plan (suc n) place q e = ap suc (by (like_place plan place) (λ p. length-orbit plan n p q) e)
  where
    by : (o : Option ℕ) → ((p : ℕ) → ahead plan n p ≡ Some q → length (orbit plan (suc n) (Some p)) ≡ suc n) → option_and_then (ahead plan n) o ≡ Some q → length (orbit plan (suc n) o) ≡ suc n
    by None later e = cc
    by (Some p) later e = later p e

orbit-within : (plan : Plan) (n : ℕ) (o : Option ℕ) (q : ℕ) → HasPlacesWithin plan → ForSome o (λ p. p < length plan.classes) → list_any (nat_eq q) (orbit plan n o) ≡ true → q < length plan.classes
orbit-within plan n None q places within e = cc
orbit-within plan zero (Some p) q places within e = cc
orbit-within plan (suc n) (Some p) q places within e = by (nat_eq q p) refl (orbit-within plan n (like_place plan p) q places (like_within plan p places)) e
  where
    by : (b : Bool) → nat_eq q p ≡ b → (list_any (nat_eq q) (orbit plan n (like_place plan p)) ≡ true → q < length plan.classes)
        → (b || list_any (nat_eq q) (orbit plan n (like_place plan p))) ≡ true → q < length plan.classes
    by true same later e = let here : p < length plan.classes = within p refl in let one : q ≡ p = eqb-true q p same in omega arith
    by false same later e = later e

-- what comes behind a class differs from it
orbit-apart : (plan : Plan) (place m n : ℕ) (o : Option ℕ) → HasNoRing plan → place < length plan.classes → m + n ≤ length plan.classes → ahead plan (suc m) place ≡ o → AllByRecursion (λ q. nat_eq place q ≡ false) (orbit plan n o)
orbit-apart plan place m n None free inside few e = tt
orbit-apart plan place m zero (Some q) free inside few e = tt
orbit-apart plan place m (suc n) (Some q) free inside few e =
    let next : ahead plan (suc (suc m)) place ≡ like_place plan q = ahead-last plan (suc m) place ∙ ap (option_and_then (like_place plan)) e in
    (by (nat_eq place q) refl, orbit-apart plan place (suc m) n (like_place plan q) free inside (omega arith) next)
  where
    by : (b : Bool) → nat_eq place q ≡ b → nat_eq place q ≡ false
    by true same = absurd (free.no_return m place (omega arith) inside (e ∙ ap Some (sym (eqb-true place q same))))
    by false same = same

orbit-distinct : (plan : Plan) (n : ℕ) (o : Option ℕ) → HasNoRing plan → HasPlacesWithin plan → n ≤ suc (length plan.classes) → ForSome o (λ p. p < length plan.classes) → IsDistinct nat_eq (orbit plan n o)
unfolding IsDistinct
orbit-distinct plan n None free places few within = tt
orbit-distinct plan zero (Some p) free places few within = tt
orbit-distinct plan (suc n) (Some p) free places few within =
    IsDistinct-cons nat_eq p (orbit plan n (like_place plan p))
    (orbit-apart plan p 0 n (like_place plan p) free (within p refl) (omega arith) (ahead-last plan 0 p))
    (orbit-distinct plan n (like_place plan p) free places (omega arith) (like_within plan p places))

-- where there is no ring, each chain ends
pub all-end : (plan : Plan) → HasNoRing plan → HasPlacesWithin plan → AllEnd plan
all-end plan free places place inside = by (ahead plan (length plan.classes) place) refl
  where
    by : (o : Option ℕ) → ahead plan (length plan.classes) place ≡ o → EndsWithin plan (length plan.classes) (Some place)
    by None e = ends-ahead plan (length plan.classes) place e
    by (Some q) e =
        let start : ForSome (Some place) (λ p. p < length plan.classes) = λ x same. let one : place ≡ x = cc in rw (← one) inside in
        let few = length-le_from_distinct_below (orbit plan (suc (length plan.classes)) (Some place)) (length plan.classes)
        (orbit-distinct plan (suc (length plan.classes)) (Some place) free places (omega arith) start)
        (λ p held. orbit-within plan (suc (length plan.classes)) (Some place) p places start held) in
        let many = length-orbit plan (length plan.classes) place q e in
        absurd (omega arith)
