-- The first place in a list of which one more is looked at.
use Rattle.std.proofs.Common.{◌≡◌, ℕ, suc, ◌+◌, ◌<◌, Bool, true, false, cond, List, [], ◌∷◌, ◌++◌, length, take, get_or, Option, Some, None, refl, sym, ap, ◌∙◌, arith}
use Rattle.std.specs.List.{position, position_from}
use Rattle.std.specs.Option.{option_or}
use Rattle.std.proofs.lemmas.Iterator.Adapters.{position_from-zero}
use Rattle.std.proofs.lemmas.List.{length-take-le, take_more}

from-append : {A : Type 0} (p : A → Bool) (i : ℕ) (xs ys : List A) → position_from p i (xs ++ ys) ≡ option_or (position_from p i xs) (position_from p (i + length xs) ys)
from-append p i [] ys = let same : i ≡ i + 0 = omega arith in ap (λ (k : ℕ). position_from p k ys) same
from-append p i (x ∷ xs) ys =
    let same : i + 1 + length xs ≡ i + suc (length xs) = omega arith in
    ap (λ o. cond (p x) (Some i) o) (from-append p (i + 1) xs ys ∙ ap (λ (k : ℕ). option_or (position_from p (i + 1) xs) (position_from p k ys)) same)
    ∙ by (p x)
  where
    by : (b : Bool) → cond b (Some i) (option_or (position_from p (i + 1) xs) (position_from p (i + suc (length xs)) ys)) ≡ option_or (cond b (Some i) (position_from p (i + 1) xs)) (position_from p (i + suc (length xs)) ys)
    by true = refl
    by false = refl

-- one more of a list is looked at
pub position-more : {A : Type 0} (p : A → Bool) (xs : List A) (i : ℕ) (d : A) → i < length xs → position p (take (i + 1) xs) ≡ option_or (position p (take i xs)) (cond (p (get_or xs i d)) (Some i) None)
position-more p xs i d within =
    let many : length (take i xs) ≡ i = length-take-le i xs (omega arith) in
    let place : 0 + length (take i xs) ≡ i = omega arith in
    position_from-zero p (take (i + 1) xs)
    ∙ ap (position_from p 0) (take_more xs i d within)
    ∙ from-append p 0 (take i xs) (get_or xs i d ∷ [])
    ∙ (λ k. option_or (sym (position_from-zero p (take i xs)) k) (cond (p (get_or xs i d)) (Some (place k)) None))

-- then a table that has its place, where the name had none, has those of so many more
module _ {A : Type 0} (p : A → Bool) (xs : List A) (i : ℕ) (d : A) (before was more : Option ℕ) where
  by_class : (o : Option ℕ) (b : Bool) → option_or (option_or before o) (cond b (Some i) None) ≡ option_or before (option_or o (cond b (Some i) None))
  by_class o b = elim before as (λ v. option_or (option_or v o) (cond b (Some i) None) ≡ option_or v (option_or o (cond b (Some i) None))) [ Some k ↦ refl | None ↦ refl ]

  pub classes-more : i < length xs → was ≡ option_or before (position p (take i xs)) → more ≡ option_or was (cond (p (get_or xs i d)) (Some i) None)
      → more ≡ option_or before (position p (take (i + 1) xs))
  classes-more within known added =
      added ∙ ap (λ o. option_or o (cond (p (get_or xs i d)) (Some i) None)) known
      ∙ by_class (position p (take i xs)) (p (get_or xs i d))
      ∙ ap (option_or before) (sym (position-more p xs i d within))

pub option_or-None : (o : Option ℕ) → o ≡ option_or o None
option_or-None (Some k) = refl
option_or-None None = refl
