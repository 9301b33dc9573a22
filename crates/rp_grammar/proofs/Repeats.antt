-- Names that stand twice, found where their places are sorted.
use Rattle.std.proofs.Common.{◌≡◌, ◌↔◌, ℕ, Bool, true, false, not, ◌&&◌, List, [], ◌∷◌, map, IsTrue, refl, sym, subst, true≢false, arith}
use Rattle.std.specs.Ordering.{nat_cmp}
use Rattle.std.specs.declared.cmp.Ordering.TheVariants.{Less}
use Rattle.std.specs.List.{list_any, IsDistinct, AllByRecursion}
use Rattle.std.specs.List.Sorted.{IsPermutation, IsSorted, IsStrictlyIncreasing, IsStrictlySortedBy}
use Rattle.std.proofs.Math.Dec.{eqb}
use Rattle.std.proofs.lemmas.List.Sorted.{IsPermutation-sym, IsNonDecreasingBy-from_sort}
use Rattle.std.proofs.lemmas.Map.Keys.{IsDistinct-IsPermutation, IsStrictlyIncreasing-from_distinct, sorted_from_strictly_increasing}
use Rattle.rp_base.specs.declared.value.Name.{Name}
use Rattle.rp_grammar.specs.Expressions.{distinct, same_name}

abbrev place : Name → ℕ
place n = n.0

flipped : (a b : ℕ) → eqb a b ≡ eqb b a
flipped a b = grind arith

none_same : (n : Name) (ns : List Name) → AllByRecursion (λ y. eqb n.0 y ≡ false) (map place ns) → list_any (same_name n) ns ≡ false
none_same n [] a = refl
none_same n (m ∷ ms) a = rw (a.0, none_same n ms a.1) refl

all_others : (n : Name) (ns : List Name) → list_any (same_name n) ns ≡ false → AllByRecursion (λ y. eqb n.0 y ≡ false) (map place ns)
all_others n [] h = tt
all_others n (m ∷ ms) h = others_by n m ms (same_name n m) refl h (λ i. all_others n ms i)
  where
    others_by : (n m : Name) (ms : List Name) (b : Bool) → same_name n m ≡ b → list_any (same_name n) (m ∷ ms) ≡ false
        → (list_any (same_name n) ms ≡ false → AllByRecursion (λ y. eqb n.0 y ≡ false) (map place ms)) → AllByRecursion (λ y. eqb n.0 y ≡ false) (map place (m ∷ ms))
    others_by n m ms true e h more = absurd cc
    others_by n m ms false e h more = (e, more cc)

to_distinct : (ns : List Name) → IsDistinct eqb (map place ns) → distinct ns ≡ true
unfolding IsDistinct
to_distinct [] d = refl
to_distinct (n ∷ ns) d = rw (none_same n ns d.0, to_distinct ns d.1) refl

from_by : (n : Name) (ns : List Name) (a b : Bool) → list_any (same_name n) ns ≡ a → distinct ns ≡ b → (not a && b) ≡ true → (list_any (same_name n) ns ≡ false) × (distinct ns ≡ true)
from_by n ns true b none apart h = absurd cc
from_by n ns false true none apart h = (none, apart)
from_by n ns false false none apart h = absurd cc

from_distinct : (ns : List Name) → distinct ns ≡ true → IsDistinct eqb (map place ns)
unfolding IsDistinct
from_distinct [] h = tt
from_distinct (n ∷ ns) h =
    let parts = from_by n ns (list_any (same_name n) ns) (distinct ns) refl refl h in
    (all_others n ns parts.0, from_distinct ns parts.1)

below_apart : (x y : ℕ) → nat_cmp x y ≡ Less → eqb x y ≡ false
below_apart x y l = grind arith

all_apart : (x : ℕ) (xs : List ℕ) → AllByRecursion (λ y. nat_cmp x y ≡ Less) xs → AllByRecursion (λ y. eqb x y ≡ false) xs
all_apart x [] a = tt
all_apart x (y ∷ ys) a = (below_apart x y a.0, all_apart x ys a.1)

rising_apart : (ps : List ℕ) → IsStrictlySortedBy nat_cmp ps → IsDistinct eqb ps
unfolding IsDistinct IsStrictlySortedBy
rising_apart [] s = tt
rising_apart (x ∷ xs) s = (all_apart x xs s.0, rising_apart xs s.1)

apart_by : (ns : List Name) (ps : List ℕ) (d : Bool) → distinct ns ≡ d → IsPermutation (map place ns) ps → IsSorted nat_cmp ps → (IsStrictlyIncreasing ps → ⊥) → false ≡ distinct ns
apart_by ns ps false e p s never = sym e
apart_by ns ps true e p s never = absurd (never (IsStrictlyIncreasing-from_distinct ps (IsNonDecreasingBy-from_sort (λ x. x) ps s) (IsDistinct-IsPermutation eqb flipped (map place ns) ps p (from_distinct ns e))))

never_rises : (ps : List ℕ) → (IsTrue false ↔ IsStrictlyIncreasing ps) → IsStrictlyIncreasing ps → ⊥
never_rises ps r i = true≢false (sym (r.1 i))

decided : (ns : List Name) (ps : List ℕ) (b : Bool) → IsPermutation (map place ns) ps → IsSorted nat_cmp ps → (IsTrue b ↔ IsStrictlyIncreasing ps) → distinct ns ≡ b
decided ns ps true p s r = to_distinct ns (IsDistinct-IsPermutation eqb flipped ps (map place ns) (IsPermutation-sym (map place ns) ps p) (rising_apart ps (sorted_from_strictly_increasing ps (r.0 cc))))
decided ns ps false p s r = sym (apart_by ns ps (distinct ns) refl p s (never_rises ps r))

-- the places of names, once sorted, rise where no name stands twice
pub sorted_rise : (ns : List Name) (ps qs rs : List ℕ) (b : Bool) → ps ≡ map place ns → IsPermutation ps qs → IsSorted nat_cmp qs → rs ≡ qs → (IsTrue b ↔ IsStrictlyIncreasing rs) → distinct ns ≡ b
sorted_rise ns ps qs rs b places moved sorted same rise =
    decided ns qs b (subst (λ (l : List ℕ). IsPermutation l qs) places moved) sorted (subst (λ (l : List ℕ). IsTrue b ↔ IsStrictlyIncreasing l) same rise)
