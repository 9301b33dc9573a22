-- Lists of sound values.
use Rattle.std.proofs.Common.{◌≡◌, ℕ, zero, suc, List, [], ◌∷◌, ◌++◌, length, get_or, reverse, Option, slice_get, refl, sym, ap, subst, ◌∙◌, arith}
use Rattle.std.specs.Option.{IfSome}
use Rattle.std.specs.List.{All}
use Rattle.std.proofs.lemmas.Grind.{reverse_onto}
use Rattle.std.proofs.lemmas.List.Elements.{All-append, All-cons, All-head, All-nil, All-same, All-tail}

pub All-reverse : {A : Type 0} (P : A → Type 0) (xs : List A) → All P xs → All P (reverse xs)
All-reverse P [] h = All-nil P
All-reverse P (x ∷ xs) h =
    All-same P (reverse (x ∷ xs)) (reverse xs ++ x ∷ []) (reverse_onto xs x [])
    (All-append P (reverse xs) (x ∷ []) (All-reverse P xs (All-tail P x xs h)) (All-cons P x [] (All-head P x xs h) (All-nil P)))

-- what is read of a list of sound values
pub All-get : {A : Type 0} (P : A → Type 0) (xs : List A) (i : ℕ) (o : Option A) → o ≡ slice_get xs i → All P xs → IfSome o P
All-get {A} P xs i o e h = subst (λ (o : Option A). IfSome o P) (sym e) (by xs i h) where
  by : (xs : List A) (i : ℕ) → All P xs → IfSome (slice_get xs i) P
  by [] i h = tt
  by (x ∷ xs) zero h = All-head P x xs h
  by (x ∷ xs) (suc i) h = by xs i (All-tail P x xs h)

-- lists of few elements
pub none-of : {A : Type 0} (xs : List A) → length xs ≡ 0 → xs ≡ []
none-of [] e = refl
none-of (x ∷ xs) e = absurd (omega (e, arith))

pub two-of : {A : Type 0} (xs : List A) (a b : A) → length xs ≡ 2 → a ≡ get_or xs 0 a → b ≡ get_or xs 1 b → xs ≡ a ∷ b ∷ []
two-of [] a b e f g = absurd (omega (e, arith))
two-of (x ∷ []) a b e f g = absurd (omega (e, arith))
two-of {A} (x ∷ y ∷ []) a b e f g = ap (λ (z : A). z ∷ y ∷ []) (sym f) ∙ ap (λ (z : A). a ∷ z ∷ []) (sym g)
two-of (x ∷ y ∷ z ∷ zs) a b e f g = absurd (omega (e, arith))
