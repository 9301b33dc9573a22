-- A name among names whose places are sorted, found by halving.
use Rattle.std.proofs.Common.{◌≡◌, ◌⊎◌, inl, inr, ℕ, suc, ◌<◌, ◌≤◌, Bool, true, false, ◌==◌, List, [], ◌∷◌, map, length, get_or, Result, Ok, Err, refl, sym, ◌∙◌, arith, nat_cmp}
use Rattle.std.specs.List.{list_any}
use Rattle.std.specs.Result.{is_ok, MatchResult}
use Rattle.std.specs.List.Sorted.{IsPermutation, IsSorted, IsBinarySearchResult}
use Rattle.std.proofs.lemmas.Bool.{cases_lt}
use Rattle.std.proofs.lemmas.Bool.Decides.{nat_tests}
use Rattle.std.proofs.lemmas.List.Folds.{list_any_at}
use Rattle.std.proofs.lemmas.List.Sorted.{searched, list_any-IsPermutation, IsNonDecreasingBy-from_sort}
use Rattle.rp_base.specs.declared.value.Name.{Name}
use Rattle.rp_grammar.specs.Expressions.{same_name}

abbrev place : Name → ℕ
place n = n.0

abbrev is_place : ℕ → ℕ → Bool
is_place n p = n == p

by_place : (n : Name) (ns : List Name) → list_any (same_name n) ns ≡ list_any (is_place n.0) (map place ns)
by_place n [] = refl
by_place n (m ∷ ms) = rw (by_place n ms) refl

one : (a b : ℕ) → b ≡ a → (a == b) ≡ true
one a b e = grind (arith, nat_tests)

below : (a b : ℕ) → b < a → (a == b) ≡ false
below a b l = grind (arith, nat_tests)

above : (a b : ℕ) → a < b → (a == b) ≡ false
above a b l = grind (arith, nat_tests)

none_of : (n : ℕ) (ps : List ℕ) → ((k : ℕ) → k < length ps → (n == get_or ps k 0) ≡ false) → list_any (is_place n) ps ≡ false
none_of n [] never = refl
none_of n (p ∷ ps) never = rw (never 0 (grind arith), none_of n ps (λ k within. never (suc k) (grind arith))) refl

split : (k i : ℕ) → (k < i) ⊎ (i ≤ k)
split k i = cases_lt k i

missing : (n : ℕ) (ps : List ℕ) (i k : ℕ) → (k < i) ⊎ (i ≤ k) → ((k : ℕ) → k < i → get_or ps k 0 < n)
    → ((k : ℕ) → i ≤ k → k < length ps → n < get_or ps k 0) → k < length ps → (n == get_or ps k 0) ≡ false
missing n ps i k (inl under) lower upper within = below n (get_or ps k 0) (lower k under)
missing n ps i k (inr over) lower upper within = above n (get_or ps k 0) (upper k over within)

is_found : (n : ℕ) (ps : List ℕ) (r : Result ℕ ℕ)
    → MatchResult r (λ i. (i < length ps) × (get_or ps i 0 ≡ n))
    (λ i. (i ≤ length ps) × ((k : ℕ) → k < i → get_or ps k 0 < n) × ((k : ℕ) → i ≤ k → k < length ps → n < get_or ps k 0))
    → is_ok r ≡ list_any (is_place n) ps
is_found n ps (Ok i) h = sym (list_any_at (is_place n) ps i 0 h.0 (one n (get_or ps i 0) h.1))
is_found n ps (Err i) h = sym (none_of n ps (λ k within. missing n ps i k (split k i) h.1 h.2 within))

-- the places of some names, sorted, have that of a name exactly where it is one of these
pub halved : (n : Name) (ns : List Name) (ps : List ℕ) (r : Result ℕ ℕ) → IsPermutation (map place ns) ps → IsSorted nat_cmp ps
    → IsBinarySearchResult (λ y. nat_cmp y n.0) ps r → is_ok r ≡ list_any (same_name n) ns
halved n ns ps r moved sorted found =
    is_found n.0 ps r (searched ps n.0 r found (λ i j low within. IsNonDecreasingBy-from_sort (λ x. x) ps sorted i j 0 low within))
    ∙ sym (list_any-IsPermutation (is_place n.0) (map place ns) ps moved) ∙ sym (by_place n ns)
