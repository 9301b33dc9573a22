-- The place of a text among texts that ascend, and what a binary search finds there.
use Rattle.std.proofs.Common.{◌≡◌, ℕ, zero, suc, ◌<◌, Bool, true, false, List, [], ◌∷◌, length, get_or, Option, Some, None, option_map, Result, Ok, Err, Ordering, Less, Equal, Greater, encode_utf8_all, is_eq, is_lt, if◌then◌else◌, inl, inr, add-one, eq-eqb, ◌==◌, refl, sym, ap, ◌∙◌, arith}
use Rattle.std.specs.Cmp.Lexicographic.{texts_ties}
use Rattle.std.specs.List.Sorted.{IsStrictlySortedBy, IsBinarySearchResult, IsSearchInRange, IsSortedBy}
use Rattle.std.specs.Result.{result_ok}
use Rattle.std.proofs.lemmas.Bool.{cases_lt, true≢false}
use Rattle.std.proofs.lemmas.Cmp.{alike_right, tied_back, tied_itself}
use Rattle.std.proofs.lemmas.List.Sorted.{searchable_from_sorted}
use Rattle.std.specs.Option.{option_map_or}
use Rattle.std.proofs.lemmas.Bool.Decides.{nat_tests}
use Rattle.rp_base.proofs.CallerLemmas.{AllByRecursion-at, same_text-equal, same_text-refl}
use Rattle.rp_base.specs.Same.{same_text}
use Rattle.rp_decl.specs.InOrder.{AreAscending}
use Rattle.rp_decl.specs.Order.{text_cmp, place_of}
use Rattle.rp_decl.proofs.Orders.{text_cmp_total}

pub same_text-tie : (x y : List ℕ) → same_text x y ≡ is_eq (text_cmp x y)
same_text-tie x y = texts_ties (encode_utf8_all x) (encode_utf8_all y)

pub place_of-at : (xs : List (List ℕ)) → AreAscending xs → (text : List ℕ) (i : ℕ) → i < length xs → text_cmp (get_or xs i []) text ≡ Equal → place_of xs text ≡ Some i
unfolding IsStrictlySortedBy
place_of-at [] up text i h e = absurd (omega arith)
place_of-at (x ∷ xs) up text zero h e =
    let same : same_text text x ≡ true = same_text-tie text x ∙ ap is_eq (tied_back text_cmp_total x text e) in
    rw same refl
place_of-at (x ∷ xs) up text (suc i) h e =
    let y = get_or xs i [] in
    let below : text_cmp x y ≡ Less = AllByRecursion-at (λ y. text_cmp x y ≡ Less) xs i [] up.0 (omega arith) in
    let under : text_cmp x text ≡ Less = sym (alike_right text_cmp_total y text x e) ∙ below in
    let over : text_cmp text x ≡ Greater = rw (text_cmp_total.antisymm text x, under) refl in
    let other : same_text text x ≡ false = same_text-tie text x ∙ ap is_eq over in
    rw (other, place_of-at xs up.1 text i (omega arith) e) refl

pub place_of-none : (xs : List (List ℕ)) (text : List ℕ) → ((i : ℕ) → i < length xs → is_eq (text_cmp (get_or xs i []) text) ≡ false) → place_of xs text ≡ None
place_of-none [] text none = refl
place_of-none (x ∷ xs) text none =
    let other : same_text text x ≡ false = by (same_text text x) refl in
    rw (other, place_of-none xs text (λ i h. none (suc i) (omega arith))) refl
  where
    by : (b : Bool) → same_text text x ≡ b → same_text text x ≡ false
    by false e = e
    by true e = absurd (true≢false (sym (tied (text_cmp text x) refl (sym (same_text-tie text x) ∙ e)) ∙ none 0 (omega arith)))
      where
        tied : (o : Ordering) → text_cmp text x ≡ o → is_eq (text_cmp text x) ≡ true → is_eq (text_cmp x text) ≡ true
        tied Less q h = absurd (true≢false (sym h ∙ ap is_eq q))
        tied Equal q h = ap is_eq (tied_back text_cmp_total text x q)
        tied Greater q h = absurd (true≢false (sym h ∙ ap is_eq q))

IsSortedBy-ascending : (xs : List (List ℕ)) → AreAscending xs → IsSortedBy (λ a b. is_lt (text_cmp a b)) xs
unfolding IsStrictlySortedBy
IsSortedBy-ascending [] up k d low h = absurd (omega arith)
IsSortedBy-ascending (x ∷ xs) up zero d low h =
    let below : text_cmp x (get_or xs 0 d) ≡ Less = AllByRecursion-at (λ y. text_cmp x y ≡ Less) xs 0 d up.0 (omega arith) in
    rw (text_cmp_total.antisymm (get_or xs 0 d) x, below) refl
IsSortedBy-ascending (x ∷ xs) up (suc k) d low h =
    let rest = IsSortedBy-ascending xs up.1 k d (omega arith) (omega arith) in rw add-one (rw add-one at rest)

-- what a binary search among ascending texts answers
pub searched : (xs : List (List ℕ)) → AreAscending xs → (text : List ℕ) (r : Result ℕ ℕ) → IsSearchInRange r (length xs) → IsBinarySearchResult (λ y. text_cmp y text) xs r → result_ok r ≡ place_of xs text
searched xs up text (Ok i) within found = sym (place_of-at xs up text i within (found []))
searched xs up text (Err i) within found =
    let (front, back) = found (searchable_from_sorted text_cmp_total (λ x. x) xs text (IsSortedBy-ascending xs up)) in
    sym (place_of-none xs text (λ k h. elim (cases_lt k i) [
      | inl before ↦ ap is_eq (front k [] (omega arith) before)
      | inr from ↦ ap is_eq (back k [] from h)
    ]))

-- the place that is found has the text
pub place_of-found : (xs : List (List ℕ)) (text : List ℕ) (i : ℕ) → place_of xs text ≡ Some i → (i < length xs) × (get_or xs i [] ≡ text)
place_of-found [] text i h = cc
place_of-found (x ∷ xs) text i h = by (same_text text x) refl (place_of xs text) (place_of-found xs text) h
  where
    by : (b : Bool) → same_text text x ≡ b → (rest : Option ℕ) → ((j : ℕ) → rest ≡ Some j → (j < length xs) × (get_or xs j [] ≡ text))
        → (if b then Some 0 else option_map suc rest) ≡ Some i → (i < suc (length xs)) × (get_or (x ∷ xs) i [] ≡ text)
    by true same rest step e = let first : 0 ≡ i = cc in rw (← first) (omega arith, sym (same_text-equal text x same))
    by false other None step e = cc
    by false other (Some j) step e =
        let next : suc j ≡ i = cc in let (within, found) = step j refl in rw (← next) (omega arith, found)

-- a text at a place is at no other one
pub same_text-place : (xs : List (List ℕ)) → AreAscending xs → (s : ℕ) → s < length xs → (text : List ℕ) → same_text (get_or xs s []) text ≡ option_map_or (λ p. p == s) (place_of xs text) false
same_text-place xs up s within text = by (same_text (get_or xs s []) text) refl (place_of xs text) refl
  where
    by : (b : Bool) → same_text (get_or xs s []) text ≡ b → (found : Option ℕ) → place_of xs text ≡ found → b ≡ option_map_or (λ p. p == s) found false
    by true same found e =
        let equal : get_or xs s [] ≡ text = same_text-equal (get_or xs s []) text same in
        let at : found ≡ Some s = sym e ∙ place_of-at xs up text s within (rw equal (tied_itself text_cmp_total text)) in
        rw at (sym (eq-eqb s s refl))
    by false other None e = refl
    by false other (Some j) e = elsewhere (j == s) refl
      where
        elsewhere : (c : Bool) → (j == s) ≡ c → false ≡ c
        elsewhere false q = refl
        elsewhere true q =
            let same : j ≡ s = grind (arith, nat_tests) in
            let text_is : get_or xs s [] ≡ text = rw (← same) (place_of-found xs text j e).1 in
            sym (sym (rw text_is (same_text-refl text)) ∙ other)
