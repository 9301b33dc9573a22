-- Texts in byte order: to compare them is to compare their places.
use Rattle.std.proofs.Common.{◌≡◌, refl, sym, ap, ◌∙◌, ℕ, zero, suc, ◌<◌, ◌≤◌, ◌⊎◌, inl, inr, Bool, true, false, true≢false, cond, List, [], ◌∷◌, map, length, get_or, Option, Some, None, arith, nat_eq, nat_lt, encode_utf8_all, Less, Equal, Greater, find, eq-eqb}
use Rattle.std.specs.List.{All, slice_get}
use Rattle.std.specs.List.Sorted.{IsStrictlySortedBy}
use Rattle.std.specs.Cmp.Lexicographic.{nat_list_cmp_total}
use Rattle.std.specs.Option.{ForSome, option_map, option_map_or}
use Rattle.std.specs.Ordering.{ordering_reverse}
use Rattle.std.specs.declared.cmp.Ordering.{Ordering}
use Rattle.std.proofs.lemmas.Bool.Decides.{nat_tests}
use Rattle.std.proofs.lemmas.Bool.{cases_lt, lt-ltb}
use Rattle.std.proofs.lemmas.List.{get_or-map, length-map}
use Rattle.std.proofs.lemmas.Option.{get_or_from_slice_get, slice_get_within}
use Rattle.std.proofs.lemmas.List.Elements.{All-head, All-tail}
use Rattle.rp_base.specs.Same.{same_text}
use Rattle.rp_base.proofs.CallerLemmas.{AllByRecursion-at, same_text-equal, same_text-refl}
use Rattle.rp_decl.specs.InOrder.{AreAscending}
use Rattle.rp_decl.specs.Order.{least, lesser, lesser_by, text_cmp}
use Rattle.rp_decl.specs.View.{text_at}
use Rattle.rp_interact.specs.Least.{least_place, lower}
use Rattle.rp_interact.proofs.Leasts.{not_one}

same_text-swap : (x y : List ℕ) → same_text x y ≡ false → same_text y x ≡ false
same_text-swap x y other = by (same_text y x) refl
  where
    by : (b : Bool) → same_text y x ≡ b → same_text y x ≡ false
    by false e = e
    by true e = absurd (true≢false (sym (ap (same_text x) (same_text-equal y x e) ∙ same_text-refl x) ∙ other))

not_below : (a b : ℕ) → b ≤ a → nat_lt a b ≡ false
not_below a b high = grind (arith, nat_tests)

-- a text comes before those at higher places
pub before : (ids : List (List ℕ)) (i j : ℕ) → AreAscending ids → i < j → j < length ids → text_cmp (text_at ids i) (text_at ids j) ≡ Less
unfolding IsStrictlySortedBy
before [] i j ascending low inside = absurd (omega arith)
before (x ∷ ids) zero zero ascending low inside = absurd (omega arith)
before (x ∷ ids) zero (suc j) ascending low inside = AllByRecursion-at (λ y. text_cmp x y ≡ Less) ids j [] ascending.0 (omega arith)
before (x ∷ ids) (suc i) zero ascending low inside = absurd (omega arith)
before (x ∷ ids) (suc i) (suc j) ascending low inside = before ids i j ascending.1 (omega arith) (omega arith)

-- a text does not come before itself
less-differs : (x y : List ℕ) → text_cmp x y ≡ Less → same_text y x ≡ false
less-differs x y less = by (same_text y x) refl
  where
    by : (b : Bool) → same_text y x ≡ b → same_text y x ≡ false
    by false e = e
    by true e =
        let same : y ≡ x = same_text-equal y x e in
        let itself : text_cmp x x ≡ Less = ap (text_cmp x) (sym same) ∙ less in
        let back : text_cmp x x ≡ ordering_reverse (text_cmp x x) = nat_list_cmp_total.antisymm (encode_utf8_all x) (encode_utf8_all x) in
        let never : Less ≡ Greater = sym itself ∙ back ∙ ap ordering_reverse itself in
        cc

-- to compare texts at places is to compare the places
pub same_text-places : (ids : List (List ℕ)) (i j : ℕ) → AreAscending ids → i < length ids → j < length ids → same_text (text_at ids i) (text_at ids j) ≡ nat_eq i j
same_text-places ids i j ascending here there = by (cases_lt i j) (cases_lt j i)
  where
    by : (i < j) ⊎ (j ≤ i) → (j < i) ⊎ (i ≤ j) → same_text (text_at ids i) (text_at ids j) ≡ nat_eq i j
    by (inl low) other = same_text-swap (text_at ids j) (text_at ids i) (less-differs _ _ (before ids i j ascending low there)) ∙ sym (not_one i j (omega arith))
    by (inr high) (inl low) = less-differs _ _ (before ids j i ascending low here) ∙ sym (not_one i j (omega arith))
    by (inr high) (inr low) =
        let one : i ≡ j = omega arith in
        ap (λ k. same_text (text_at ids i) (text_at ids k)) (sym one) ∙ same_text-refl (text_at ids i) ∙ sym (eq-eqb i j one)

lesser_by-same : (o : Ordering) (x : List ℕ) → lesser_by o x x ≡ x
lesser_by-same Less x = refl
lesser_by-same Equal x = refl
lesser_by-same Greater x = refl

pick-same : (b : Bool) (p : ℕ) → cond b p p ≡ p
pick-same true p = refl
pick-same false p = refl

-- the lesser of two texts is the one at the lower place
lesser-lower : (ids : List (List ℕ)) (p q : ℕ) → AreAscending ids → p < length ids → q < length ids → lesser (text_at ids p) (text_at ids q) ≡ text_at ids (cond (nat_lt q p) q p)
lesser-lower ids p q ascending here there = by (cases_lt q p) (cases_lt p q)
  where
    by : (q < p) ⊎ (p ≤ q) → (p < q) ⊎ (q ≤ p) → lesser (text_at ids p) (text_at ids q) ≡ text_at ids (cond (nat_lt q p) q p)
    by (inl low) other =
        let back = nat_list_cmp_total.antisymm (encode_utf8_all (text_at ids p)) (encode_utf8_all (text_at ids q)) in
        let greater : text_cmp (text_at ids p) (text_at ids q) ≡ Greater = back ∙ ap ordering_reverse (before ids q p ascending low here) in
        ap (λ o. lesser_by o (text_at ids p) (text_at ids q)) greater ∙ ap (λ b. text_at ids (cond b q p)) (sym (lt-ltb q p low))
    by (inr high) (inl low) =
        ap (λ o. lesser_by o (text_at ids p) (text_at ids q)) (before ids p q ascending low there) ∙ ap (λ b. text_at ids (cond b q p)) (sym (not_below q p high))
    by (inr high) (inr low) =
        let one : q ≡ p = omega arith in
        rw one (lesser_by-same (text_cmp (text_at ids p) (text_at ids p)) (text_at ids p) ∙ ap (text_at ids) (sym (pick-same (nat_lt p p) p)))

least-step : (ids : List (List ℕ)) (p : ℕ) (texts : Option (List ℕ)) (o : Option ℕ) → AreAscending ids → p < length ids → texts ≡ option_map (text_at ids) o → ForSome o (λ q. q < length ids)
    → (option_map_or (lesser (text_at ids p)) texts (text_at ids p) ≡ text_at ids (lower o p)) × (lower o p < length ids)
least-step ids p texts None ascending here same inside = (ap (λ t. option_map_or (lesser (text_at ids p)) t (text_at ids p)) same, here)
least-step ids p texts (Some q) ascending here same inside =
    (ap (λ t. option_map_or (lesser (text_at ids p)) t (text_at ids p)) same ∙ lesser-lower ids p q ascending here (inside q refl), by (nat_lt q p))
  where
    by : (b : Bool) → cond b q p < length ids
    by true = inside q refl
    by false = here

-- the least of texts is the one at the least place
pub least-places : (ids : List (List ℕ)) (places : List ℕ) → AreAscending ids → All (λ p. p < length ids) places → (least (map (text_at ids) places) ≡ option_map (text_at ids) (least_place places)) × ForSome (least_place places) (λ p. p < length ids)
least-places ids [] ascending within = (refl, λ p e. cc)
least-places ids (p ∷ places) ascending within =
    let rest = least-places ids places ascending (All-tail (λ p. p < length ids) p places within) in
    let step = least-step ids p (least (map (text_at ids) places)) (least_place places) ascending (All-head (λ p. p < length ids) p places within) rest.0 rest.1 in
    (ap Some step.0, λ q e. let same : lower (least_place places) p ≡ q = cc in rw (← same) step.1)

-- the element whose id stands at a place
pub find-at : {X : Type 0} (id : X → List ℕ) (xs : List X) (place : ℕ) (x : X) → AreAscending (map id xs) → slice_get xs place ≡ Some x → find (λ r. same_text (id x) (id r)) xs ≡ Some x
unfolding IsStrictlySortedBy
find-at id [] place x ascending e = cc
find-at id (y ∷ xs) zero x ascending e = let same : y ≡ x = cc in rw same (ap (λ b. cond b (Some x) (find (λ r. same_text (id x) (id r)) xs)) (same_text-refl (id x)))
find-at id (y ∷ xs) (suc place) x ascending e =
    let inside : place < length xs = slice_get_within xs place x e in
    let as_many : length (map id xs) ≡ length xs = length-map xs id in
    let low : text_cmp (id y) (get_or (map id xs) place []) ≡ Less = AllByRecursion-at (λ t. text_cmp (id y) t ≡ Less) (map id xs) place [] ascending.0 (omega arith) in
    let its : get_or (map id xs) place [] ≡ id x = get_or-map id xs place x [] inside ∙ ap id (get_or_from_slice_get xs place x x e) in
    let other : same_text (id x) (id y) ≡ false = less-differs (id y) (id x) (ap (text_cmp (id y)) (sym its) ∙ low) in
    ap (λ b. cond b (Some y) (find (λ r. same_text (id x) (id r)) xs)) other ∙ find-at id xs place x ascending.1 e
