-- Numbers that are given one after the other: to lists that are joined, and to the elements of a list in turn.
use Rattle.std.proofs.Common.{◌≡◌, ℕ, zero, suc, ◌+◌, ◌<◌, ◌^◌, List, [], ◌∷◌, ◌++◌, map, length, get_or, take, refl, sym, ap, ◌∙◌, arith}
use Rattle.std.specs.List.{range_with_len}
use Rattle.rp_scope.specs.NumberSteps.{after, past, renumbered, all_numbers, start}

pub past-append : (xs ys : List ℕ) (n : ℕ) → past (xs ++ ys) n ≡ past ys (past xs n)
past-append [] ys n = refl
past-append (x ∷ xs) ys n = past-append xs ys (after n)

pub renumbered-append : (n : ℕ) (xs ys : List ℕ) → renumbered n (xs ++ ys) ≡ renumbered n xs ++ renumbered (past xs n) ys
renumbered-append n [] ys = refl
renumbered-append n (x ∷ xs) ys = ap (λ zs. n ∷ zs) (renumbered-append (after n) xs ys)

pub ruleset append_runs = (past-append, renumbered-append)

pub length-renumbered : (n : ℕ) (xs : List ℕ) → length (renumbered n xs) ≡ length xs
length-renumbered n [] = refl
length-renumbered n (x ∷ xs) = ap suc (length-renumbered (after n) xs)

after_below : (n : ℕ) → n + 1 < 2 ^ 64 → after n ≡ n + 1
unfolding after
after_below n h = omega arith

-- where 64 bits have them all, the numbers are those from n on
pub counted : (n : ℕ) (xs : List ℕ) → n + length xs < 2 ^ 64 → renumbered n xs ≡ range_with_len n (length xs)
counted n [] h = refl
counted n (x ∷ xs) h =
    let next : after n ≡ n + 1 = after_below n (omega arith) in
    let rest : renumbered (after n) xs ≡ range_with_len (after n) (length xs) = counted (after n) xs (omega (arith, next)) in
    ap (λ zs. n ∷ zs) (rest ∙ ap (λ k. range_with_len k (length xs)) next)

pub all_numbers-map : {A B : Type 0} (view : A → B) (nums : B → List ℕ) (xs : List A) → all_numbers nums (map view xs) ≡ all_numbers (λ x. nums (view x)) xs
all_numbers-map view nums [] = refl
all_numbers-map view nums (x ∷ xs) = ap (λ ys. nums (view x) ++ ys) (all_numbers-map view nums xs)

-- the element after one begins with the number that follows it
pub start_step : {A : Type 0} (nums : A → List ℕ) (n : ℕ) (xs : List A) (i : ℕ) (d : A) → i < length xs → past (nums (get_or xs i d)) (start nums n xs i) ≡ start nums n xs (suc i)
start_step nums n [] i d h = absurd (omega arith)
start_step nums n (x ∷ xs) zero d h = sym (past-append (nums x) [] n)
start_step nums n (x ∷ xs) (suc i) d h =
    let rest : past (nums (get_or xs i d)) (start nums (past (nums x) n) xs i) ≡ start nums (past (nums x) n) xs (suc i) = start_step nums (past (nums x) n) xs i d (omega arith) in
    ap (past (nums (get_or xs i d))) (past-append (nums x) (all_numbers nums (take i xs)) n) ∙ (rest ∙ sym (past-append (nums x) (all_numbers nums (take (suc i) xs)) n))

pub start_all : {A : Type 0} (nums : A → List ℕ) (n : ℕ) (xs : List A) → start nums n xs (length xs) ≡ past (all_numbers nums xs) n
start_all nums n [] = refl
start_all nums n (x ∷ xs) =
    past-append (nums x) (all_numbers nums (take (length xs) xs)) n ∙ (start_all nums (past (nums x) n) xs ∙ sym (past-append (nums x) (all_numbers nums xs) n))

-- a list each of whose elements has been given its numbers in turn
pub renumbered_all : {A : Type 0} (nums : A → List ℕ) (n : ℕ) (before now : List A) → length now ≡ length before → ((k : ℕ) (d : A) → k < length now → nums (get_or now k d) ≡ renumbered (start nums n before k) (nums (get_or before k d))) → all_numbers nums now ≡ renumbered n (all_numbers nums before)
renumbered_all nums n [] [] same each = refl
renumbered_all nums n (x ∷ xs) [] same each = absurd (omega arith)
renumbered_all nums n [] (y ∷ ys) same each = absurd (omega arith)
renumbered_all nums n (x ∷ xs) (y ∷ ys) same each =
    let first : nums y ≡ renumbered n (nums x) = each 0 y (omega arith) in
    let rest : all_numbers nums ys ≡ renumbered (past (nums x) n) (all_numbers nums xs) = renumbered_all nums (past (nums x) n) xs ys (omega arith) (λ k d lt. each (suc k) d (omega arith) ∙ ap (λ m. renumbered m (nums (get_or xs k d))) (past-append (nums x) (all_numbers nums (take k xs)) n)) in
    ap (λ zs. zs ++ all_numbers nums ys) first ∙ (ap (λ zs. renumbered n (nums x) ++ zs) rest ∙ sym (renumbered-append n (nums x) (all_numbers nums xs)))

-- a list whose elements have kept their shapes
pub all_kept : {A B C : Type 0} (view : A → B) (f : B → C) (before now : List A) → length now ≡ length before → ((k : ℕ) (d : A) → k < length now → f (view (get_or now k d)) ≡ f (view (get_or before k d))) → map f (map view now) ≡ map f (map view before)
all_kept view f [] [] same each = refl
all_kept view f (x ∷ xs) [] same each = absurd (omega arith)
all_kept view f [] (y ∷ ys) same each = absurd (omega arith)
all_kept view f (x ∷ xs) (y ∷ ys) same each =
    let first : f (view y) ≡ f (view x) = each 0 y (omega arith) in
    let rest : map f (map view ys) ≡ map f (map view xs) = all_kept view f xs ys (omega arith) (λ k d lt. each (suc k) d (omega arith)) in
    rw (first, rest) refl

-- numbers that have been given from 1 on are those that 64 bits have
pub numbered_from : (old new : List ℕ) → new ≡ renumbered 1 old → length old + 1 < 2 ^ 64 → new ≡ range_with_len 1 (length new)
numbered_from old new given few = given ∙ (counted 1 old (omega arith) ∙ ap (range_with_len 1) (sym (ap length given ∙ length-renumbered 1 old)))
