-- A list, from its first element and the part behind it, as code takes them.
use Rattle.std.proofs.Common.{◌≡◌, ◌<◌, ◌≤◌, ◌-◌, List, [], ◌∷◌, length, get_or, take, drop, refl, ap, ◌∙◌, arith}
use Rattle.std.proofs.lemmas.List.{take_all}

pub first_rest : {A : Type 0} (xs : List A) (x : A) → 1 ≤ length xs → x ≡ get_or xs 0 x → x ∷ take (length xs - 1) (drop 1 xs) ≡ xs
first_rest [] x some is = absurd (omega arith)
first_rest (y ∷ ys) x some is = ap (λ z. z ∷ take (length (y ∷ ys) - 1) ys) is ∙ ap (λ zs. y ∷ zs) (take_all (length (y ∷ ys) - 1) ys (omega arith))

pub only_first : {A : Type 0} (xs : List A) (x : A) → 1 ≤ length xs → length xs < 2 → x ≡ get_or xs 0 x → x ∷ [] ≡ xs
only_first [] x some one is = absurd (omega arith)
only_first (y ∷ []) x some one is = ap (λ z. z ∷ []) is
only_first (y ∷ z ∷ zs) x some one is = absurd (omega arith)

pub none_left : {A : Type 0} (xs : List A) → length xs < 1 → xs ≡ []
none_left [] none = refl
none_left (x ∷ xs) none = absurd (omega arith)

pub two_of : {A : Type 0} (xs : List A) (x y : A) → 2 ≤ length xs → length xs < 3 → x ≡ get_or xs 0 x → y ≡ get_or xs 1 y → x ∷ y ∷ [] ≡ xs
two_of [] x y low high p q = absurd (omega arith)
two_of (a ∷ []) x y low high p q = absurd (omega arith)
two_of (a ∷ b ∷ []) x y low high p q = λ i. p i ∷ q i ∷ []
two_of (a ∷ b ∷ c ∷ ds) x y low high p q = absurd (omega arith)

pub three_of : {A : Type 0} (xs : List A) (x y z : A) → 3 ≤ length xs → length xs < 4 → x ≡ get_or xs 0 x → y ≡ get_or xs 1 y → z ≡ get_or xs 2 z → x ∷ y ∷ z ∷ [] ≡ xs
three_of [] x y z low high p q r = absurd (omega arith)
three_of (a ∷ []) x y z low high p q r = absurd (omega arith)
three_of (a ∷ b ∷ []) x y z low high p q r = absurd (omega arith)
three_of (a ∷ b ∷ c ∷ []) x y z low high p q r = λ i. p i ∷ q i ∷ r i ∷ []
three_of (a ∷ b ∷ c ∷ d ∷ es) x y z low high p q r = absurd (omega arith)
