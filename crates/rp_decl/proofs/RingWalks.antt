-- A place that is led to in more steps than there are places is on a ring, and each place on a ring is led to.
use Rattle.std.proofs.Common.{◌≡◌, ℕ, zero, suc, ◌<◌, ◌≤◌, ◌+◌, ◌-◌, ◌*◌, ◌||◌, Bool, true, false, List, [], ◌∷◌, length, Option, Some, None, option_and_then, eqb, refl, sym, ap, ◌∙◌, arith}
use Rattle.std.specs.Option.{option_map_or}
use Rattle.std.specs.List.{AllByRecursion, IsDistinct, list_any}
use Rattle.std.proofs.lemmas.Bool.{eq-eqb, eqb-true, or_left, or_parts, true≢false}
use Rattle.std.proofs.lemmas.Map.Steps.{length-le_from_distinct_below}
use Rattle.rp_decl.proofs.Rings.{is_reached-more}
use Rattle.rp_decl.specs.Ring.{follow_places, is_place, is_reached, next}

-- some steps, and then some more
pub follow_places-add : (likes : List (Option ℕ)) (m n place : ℕ)
    → follow_places likes (m + n) place ≡ option_and_then (follow_places likes n) (follow_places likes m place)
follow_places-add likes zero n place = let none : 0 + n ≡ n = omega arith in ap (λ k. follow_places likes k place) none
follow_places-add likes (suc m) n place =
    let one : suc m + n ≡ suc (m + n) = omega arith in
    ap (λ k. follow_places likes k place) one ∙ by (next likes place) (follow_places-add likes m n)
  where
    by : (o : Option ℕ) → ((p : ℕ) → follow_places likes (m + n) p ≡ option_and_then (follow_places likes n) (follow_places likes m p))
        → option_and_then (follow_places likes (m + n)) o ≡ option_and_then (follow_places likes n) (option_and_then (follow_places likes m) o)
    by None step = refl
    by (Some p) step = step p

-- from p some steps on and then others, in either order
turned : (likes : List (Option ℕ)) (m n p a : ℕ) → follow_places likes m p ≡ Some a → option_and_then (follow_places likes m) (follow_places likes n p) ≡ follow_places likes n a
turned likes m n p a e =
    let comm : n + m ≡ m + n = omega arith in
    sym (follow_places-add likes n m p) ∙ (ap (λ k. follow_places likes k p) comm ∙ (follow_places-add likes m n p ∙ ap (option_and_then (follow_places likes n)) e))

-- what a place that is reached again leads to is reached again
reached-on : (likes : List (Option ℕ)) (j r a p : ℕ) → follow_places likes j a ≡ Some a → follow_places likes r a ≡ Some p → follow_places likes j p ≡ Some p
reached-on likes j r a p back on = sym (turned likes r j a p on) ∙ (ap (option_and_then (follow_places likes r)) back ∙ on)

pub is_place-same : (p : ℕ) (o : Option ℕ) → is_place p o ≡ true → o ≡ Some p
is_place-same p None e = cc
is_place-same p (Some q) e = ap (λ k. Some k) (eqb-true q p e)

pub is_place-at : (p : ℕ) (o : Option ℕ) → o ≡ Some p → is_place p o ≡ true
is_place-at p o e = rw e (eq-eqb p p refl)

-- where so many steps lead back, the place is reached in as many
reached-in : (likes : List (Option ℕ)) (n j p : ℕ) → j < n → follow_places likes (suc j) p ≡ Some p → is_reached likes n p ≡ true
reached-in likes n j p less back =
    is_reached-more likes p (suc j) n (or_left (is_place p (follow_places likes (suc j) p)) (is_reached likes j p) (is_place-at p (follow_places likes (suc j) p) back)) (omega arith)

-- the steps in which a place is reached
pub reached-steps : (likes : List (Option ℕ)) (n p : ℕ) → is_reached likes n p ≡ true → (j : ℕ) × (follow_places likes (suc j) p ≡ Some p)
reached-steps likes zero p h = cc
reached-steps likes (suc n) p h = by (is_place p (follow_places likes (suc n) p)) refl h (reached-steps likes n p)
  where
    by : (b : Bool) → is_place p (follow_places likes (suc n) p) ≡ b → (b || is_reached likes n p) ≡ true
        → (is_reached likes n p ≡ true → (j : ℕ) × (follow_places likes (suc j) p ≡ Some p)) → (j : ℕ) × (follow_places likes (suc j) p ≡ Some p)
    by true e h rest = (n, is_place-same p (follow_places likes (suc n) p) e)
    by false e h rest = rest h

-- the places of a walk of so many steps
abbrev visited : List (Option ℕ) → ℕ → ℕ → List ℕ
visited likes zero place = []
visited likes (suc n) place = place ∷ option_map_or (visited likes n) (next likes place) []

visited-length : (likes : List (Option ℕ)) (n place p : ℕ) → follow_places likes n place ≡ Some p → length (visited likes n place) ≡ n
visited-length likes zero place p e = refl
visited-length likes (suc n) place p e = by (next likes place) e (λ q. visited-length likes n q p)
  where
    by : (o : Option ℕ) → option_and_then (follow_places likes n) o ≡ Some p → ((q : ℕ) → follow_places likes n q ≡ Some p → length (visited likes n q) ≡ n)
        → suc (length (option_map_or (visited likes n) o [])) ≡ suc n
    by None e step = cc
    by (Some q) e step = ap suc (step q e)

-- a place that is visited is reached
visited-reached : (likes : List (Option ℕ)) (n place q : ℕ) → list_any (eqb q) (visited likes n place) ≡ true → (j : ℕ) × (j < n) × (follow_places likes j place ≡ Some q)
visited-reached likes zero place q h = absurd (true≢false (sym h))
visited-reached likes (suc n) place q h = by (eqb q place) refl h (on (next likes place) (λ p. visited-reached likes n p q))
  where
    on : (o : Option ℕ) → ((p : ℕ) → list_any (eqb q) (visited likes n p) ≡ true → (j : ℕ) × (j < n) × (follow_places likes j p ≡ Some q))
        → list_any (eqb q) (option_map_or (visited likes n) o []) ≡ true → (j : ℕ) × (j < n) × (option_and_then (follow_places likes j) o ≡ Some q)
    on None step h = cc
    on (Some p) step h = step p h

    by : (b : Bool) → eqb q place ≡ b → (b || list_any (eqb q) (option_map_or (visited likes n) (next likes place) [])) ≡ true
        → (list_any (eqb q) (option_map_or (visited likes n) (next likes place) []) ≡ true → (j : ℕ) × (j < n) × (option_and_then (follow_places likes j) (next likes place) ≡ Some q))
        → (j : ℕ) × (j < suc n) × (follow_places likes j place ≡ Some q)
    by true e h rest = (0, omega arith, ap (λ k. Some k) (sym (eqb-true q place e)))
    by false e h rest = let found = rest h in (suc found.0, omega (arith, found.1), found.2)

-- a place that leads on is one of the places
next-within : (likes : List (Option ℕ)) (place p : ℕ) (f : ℕ → Option ℕ) → option_and_then f (next likes place) ≡ Some p → place < length likes
next-within [] zero p f e = cc
next-within [] (suc place) p f e = cc
next-within (like ∷ likes) zero p f e = omega arith
next-within (like ∷ likes) (suc place) p f e = omega (arith, next-within likes place p f e)

visited-within : (likes : List (Option ℕ)) (n place p q : ℕ) → follow_places likes n place ≡ Some p → list_any (eqb q) (visited likes n place) ≡ true → q < length likes
visited-within likes n place p q on h =
    let found = visited-reached likes n place q h in
    let j : ℕ = found.0 in
    let split : n ≡ j + suc (n - suc j) = omega (arith, found.1) in
    let rest : follow_places likes (suc (n - suc j)) q ≡ Some p =
    sym (ap (option_and_then (follow_places likes (suc (n - suc j)))) found.2) ∙ (sym (follow_places-add likes j (suc (n - suc j)) place) ∙ (ap (λ k. follow_places likes k place) (sym split) ∙ on)) in
    next-within likes q p (follow_places likes (n - suc j)) rest

none_any : (test : ℕ → Bool) (xs : List ℕ) → list_any test xs ≡ false → AllByRecursion (λ x. test x ≡ false) xs
none_any test [] h = tt
none_any test (x ∷ xs) h = ((or_parts (test x) (list_any test xs) h).0, none_any test xs (or_parts (test x) (list_any test xs) h).1)

-- on the way to a place that is not reached again no place stands twice
visited-distinct : (likes : List (Option ℕ)) (n k place p : ℕ) → k ≤ suc n → is_reached likes n p ≡ false → follow_places likes k place ≡ Some p
    → IsDistinct eqb (visited likes k place)
unfolding IsDistinct
visited-distinct likes n zero place p le never on = tt
visited-distinct likes n (suc k) place p le never on = by (next likes place) refl on (λ y. visited-distinct likes n k y p (omega arith) never)
  where
    apart : (y : ℕ) → next likes place ≡ Some y → follow_places likes k y ≡ Some p → (b : Bool) → list_any (eqb place) (visited likes k y) ≡ b
        → list_any (eqb place) (visited likes k y) ≡ false
    apart y e on false h = h
    apart y e on true h =
        let found = visited-reached likes k y place h in
        let back : follow_places likes (suc found.0) place ≡ Some place = ap (option_and_then (follow_places likes found.0)) e ∙ found.2 in
        let reached : is_reached likes n p ≡ true =
        reached-in likes n found.0 p (omega (arith, found.1)) (reached-on likes (suc found.0) (suc k) place p back (ap (option_and_then (follow_places likes k)) e ∙ on)) in
        absurd (true≢false (sym reached ∙ never))

    by : (o : Option ℕ) → next likes place ≡ o → option_and_then (follow_places likes k) o ≡ Some p
        → ((y : ℕ) → follow_places likes k y ≡ Some p → IsDistinct eqb (visited likes k y)) → IsDistinct eqb (place ∷ option_map_or (visited likes k) o [])
    by None e on step = cc
    by (Some y) e on step = (none_any (eqb place) (visited likes k y) (apart y e on (list_any (eqb place) (visited likes k y)) refl), step y on)

pub some-front : (f : ℕ → Option ℕ) (o : Option ℕ) (p : ℕ) → option_and_then f o ≡ Some p → (y : ℕ) × (o ≡ Some y) × (f y ≡ Some p)
some-front f None p e = cc
some-front f (Some y) p e = (y, refl, e)

-- a place that is led to in more steps than there are places is reached again
pub far-reached : (likes : List (Option ℕ)) (m place p : ℕ) → length likes < m → follow_places likes m place ≡ Some p → is_reached likes (length likes) p ≡ true
far-reached likes m place p far on = by (is_reached likes n p) refl
  where
    n : ℕ
    n = length likes

    split : m ≡ (m - suc n) + suc n
    split = omega (arith, far)

    last : (y : ℕ) × (follow_places likes (m - suc n) place ≡ Some y) × (follow_places likes (suc n) y ≡ Some p)
    last = some-front (follow_places likes (suc n)) (follow_places likes (m - suc n) place) p
        (sym (follow_places-add likes (m - suc n) (suc n) place) ∙ (ap (λ k. follow_places likes k place) (sym split) ∙ on))

    by : (b : Bool) → is_reached likes n p ≡ b → is_reached likes n p ≡ true
    by true e = e
    by false e =
        let walk = visited likes (suc n) last.0 in
        let short : length walk ≤ n = length-le_from_distinct_below walk n (visited-distinct likes n (suc n) last.0 p (omega arith) e last.2) (λ q h. visited-within likes (suc n) last.0 p q last.2 h) in
        let long : length walk ≡ suc n = visited-length likes (suc n) last.0 p last.2 in
        absurd (omega (arith, short, long))

-- round and round
reached-times : (likes : List (Option ℕ)) (j p times : ℕ) → follow_places likes j p ≡ Some p → follow_places likes (times * j) p ≡ Some p
reached-times likes j p zero back = let none : 0 * j ≡ 0 = omega arith in ap (λ k. follow_places likes k p) none
reached-times likes j p (suc times) back =
    let split : suc times * j ≡ j + times * j = omega arith in
    ap (λ k. follow_places likes k p) split ∙ (follow_places-add likes j (times * j) p ∙ (ap (option_and_then (follow_places likes (times * j))) back ∙ reached-times likes j p times back))

-- a place that is reached again is led to in any number of steps
pub reached-far : (likes : List (Option ℕ)) (m p : ℕ) → is_reached likes (length likes) p ≡ true → (y : ℕ) × (follow_places likes m y ≡ Some p)
reached-far likes m p h =
    let found = reached-steps likes (length likes) p h in
    let j : ℕ = found.0 in
    let split : m * suc j ≡ m * j + m = omega arith in
    let round : follow_places likes (m * j + m) p ≡ Some p = ap (λ k. follow_places likes k p) (sym split) ∙ reached-times likes (suc j) p m found.1 in
    let front = some-front (follow_places likes m) (follow_places likes (m * j) p) p (sym (follow_places-add likes (m * j) m p) ∙ round) in
    (front.0, front.2)
