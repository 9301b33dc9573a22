-- Lists, options and tests, beside the lemmas of the library.
use Rattle.std.proofs.Common.{◌≡◌, ℕ, zero, suc, ◌+◌, ◌-◌, ◌<◌, Bool, true, false, true≢false, not, List, [], ◌∷◌, ◌++◌, length, drop, get_or, map}
use Rattle.std.proofs.Common.{Option, Some, None, Bor, is_some, slice_get, refl, sym, ap, ◌∙◌, arith}
use Rattle.std.specs.List.{All, AllByRecursion, range_with_len}
use Rattle.std.specs.Option.{IfSome, option_copied, option_map}
use Rattle.std.proofs.lemmas.List.{drop_more, length-append}
use Rattle.std.proofs.lemmas.List.Elements.{All-head, All-tail}

-- what is left of a list begins with the element at hand
pub drop_here : {A : Type 0} (xs : List A) (i : ℕ) (x : A) → i < length xs → x ≡ get_or xs i x → drop i xs ≡ x ∷ drop (i + 1) xs
drop_here xs i x within here = drop_more xs i x within ∙ ap (λ y. y ∷ drop (i + 1) xs) (sym here)

-- what holds of each element holds of the one at a place
pub IfSome-slice_get : {A : Type 0} (P : A → Type 0) (xs : List A) (i : ℕ) → All P xs → IfSome (slice_get xs i) P
IfSome-slice_get P [] i all = tt
IfSome-slice_get P (x ∷ xs) zero all = All-head P x xs all
IfSome-slice_get P (x ∷ xs) (suc i) all = IfSome-slice_get P xs i (All-tail P x xs all)

pub AllByRecursion-at : {A : Type 0} (P : A → Type 0) (xs : List A) (i : ℕ) (d : A) → AllByRecursion P xs → i < length xs → P (get_or xs i d)
AllByRecursion-at P [] i d all inside = absurd (omega arith)
AllByRecursion-at P (x ∷ xs) zero d all inside = all.0
AllByRecursion-at P (x ∷ xs) (suc i) d all inside = AllByRecursion-at P xs i d all.1 (omega arith)

-- how long the front is
pub length-front : {A : Type 0} (whole front rest : List A) → whole ≡ front ++ rest → length front ≡ length whole - length rest
length-front whole front rest e = let both = ap length e ∙ length-append front rest in omega arith

-- nothing consists of nothing
pub nil-front : {A : Type 0} (xs ys : List A) → xs ++ ys ≡ [] → xs ≡ []
nil-front [] ys e = refl
nil-front (x ∷ xs) ys e = absurd (cc)

pub nil-rest : {A : Type 0} (xs ys : List A) → xs ++ ys ≡ [] → ys ≡ []
nil-rest [] ys e = e
nil-rest (x ∷ xs) ys e = absurd (cc)

pub map-through : {A B C : Type 0} (f : A → B) (g : B → C) (xs : List A) → map g (map f xs) ≡ map (λ x. g (f x)) xs
map-through f g [] = refl
map-through f g (x ∷ xs) = ap (λ rest. g (f x) ∷ rest) (map-through f g xs)

-- one number more
pub range-last : (a n : ℕ) → range_with_len a (suc n) ≡ range_with_len a n ++ (a + n) ∷ []
range-last a zero = let same : a ≡ a + 0 = omega arith in ap (λ (b : ℕ). b ∷ []) same
range-last a (suc n) =
    let same : a + 1 + n ≡ a + suc n = omega arith in
    ap (λ (t : List ℕ). a ∷ t) (range-last (a + 1) n) ∙ ap (λ (b : ℕ). a ∷ (range_with_len (a + 1) n ++ b ∷ [])) same

pub is_some-option_map : {A B : Type 0} (f : A → B) (o : Option A) → is_some (option_map f o) ≡ is_some o
is_some-option_map f None = refl
is_some-option_map f (Some x) = refl

pub is_some-copied : {A : Type 0} (o : Option (Bor A)) → is_some (option_copied o) ≡ is_some o
is_some-copied None = refl
is_some-copied (Some x) = refl

-- what a test for None tells
pub is_none-None : {A : Type 0} (o : Option A) (b : Bool) → is_some o ≡ not b → b ≡ true → o ≡ None
is_none-None None b e none = refl
is_none-None (Some x) b e none = absurd (true≢false (e ∙ ap not none))

-- tests that pass together are one
pub same_truth : (a b : Bool) → (a ≡ true → b ≡ true) → (b ≡ true → a ≡ true) → a ≡ b
same_truth true b there back = sym (there refl)
same_truth false true there back = back refl
same_truth false false there back = refl
