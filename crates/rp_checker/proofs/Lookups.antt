-- Looking a name up in pairs: after a stable sort, after the first of each name is kept, and by binary search.
use Rattle.std.proofs.Common.{◌++◌, ◌≡◌, ◌⊎◌, inl, inr, refl, sym, ap, ◌∙◌, ℕ, zero, suc, ◌+◌, ◌<◌, ◌≤◌, Bool, true, false, cond, not, ◌&&◌, List, [], ◌∷◌, length, map, get_or, Option, Some, None, nat_eq, nat_cmp, is_lt, arith, Less, Equal, Greater}
use Rattle.std.specs.Option.{option_or}
use Rattle.std.specs.Map.{lookup}
use Rattle.std.specs.List.{filter, dedup, dedup_from}
use Rattle.std.specs.List.Sorted.{IsStrictlyIncreasing, IsNonDecreasingBy, IsSortedByKey, IsSorted, IsStableByKey, IsPartitionPoint}
use Rattle.std.specs.Ordering.{ordering_index}
use Rattle.std.proofs.Math.Nat.{eq-or-lt_of_le}
use Rattle.std.proofs.lemmas.Bool.{cases_lt}
use Rattle.std.proofs.lemmas.Bool.Decides.{nat_tests}
use Rattle.std.proofs.lemmas.List.{get_or-map, length-map}
use Rattle.std.proofs.lemmas.List.Elements.{filter_agree}
use Rattle.std.proofs.lemmas.List.Kept.{AllPairs-from_increasing}
use Rattle.std.proofs.lemmas.Map.Keys.{IsStrictlyIncreasing-dedup}
use Rattle.rp_base.specs.declared.value.Name.{Name}
use Rattle.rp_checker.specs.Lookup.{is_name}

-- numbers tie where they are one
tie : (m n : ℕ) → (not (is_lt (nat_cmp m n)) && not (is_lt (nat_cmp n m))) ≡ nat_eq m n
tie m n = grind (arith, nat_tests)

one_name : (a b c : ℕ) → nat_eq a b ≡ true → nat_eq b c ≡ nat_eq a c
one_name a b c e = grind (arith, nat_tests)

pub nat_eq-swap : (a b : ℕ) → nat_eq a b ≡ nat_eq b a
nat_eq-swap a b = grind (arith, nat_tests)

equal_same : (a b : ℕ) → nat_cmp b a ≡ Equal → nat_eq a b ≡ true
equal_same a b e = grind (arith, nat_tests)

less_other : (a b : ℕ) → nat_cmp b a ≡ Less → nat_eq a b ≡ false
less_other a b e = grind (arith, nat_tests)

greater_other : (a b : ℕ) → nat_cmp b a ≡ Greater → nat_eq a b ≡ false
greater_other a b e = grind (arith, nat_tests)

rises : (a b n : ℕ) → a ≤ b → ordering_index (nat_cmp a n) ≤ ordering_index (nat_cmp b n)
rises a b n low = grind (arith, nat_tests)

module _ {V : Type 0} where
  abbrev is_of : Name → Name × V → Bool
  is_of name e = is_name name e.0

  abbrev is_one : Name × V → Name × V → Bool
  is_one x y = is_name x.0 y.0

  -- the places of the names
  abbrev pub places : List (Name × V) → List ℕ
  places es = map (λ e. e.0.0) es

  -- the value of the first pair
  abbrev first_value : List (Name × V) → Option V
  first_value [] = None
  first_value (e ∷ es) = Some e.1

  lookup-filter : (t : Name → Bool) (es : List (Name × V)) → lookup t es ≡ first_value (filter (λ e. t e.0) es)
  lookup-filter t [] = refl
  lookup-filter t (e ∷ es) = by (t e.0) (lookup-filter t es)
    where
      by : (b : Bool) → lookup t es ≡ first_value (filter (λ e. t e.0) es) → cond b (Some e.1) (lookup t es) ≡ first_value (cond b (e ∷ filter (λ e. t e.0) es) (filter (λ e. t e.0) es))
      by true rest = refl
      by false rest = rest

  passes-head : (p : Name × V → Bool) (es rest : List (Name × V)) (e : Name × V) → filter p es ≡ e ∷ rest → p e ≡ true
  passes-head p [] rest e q = cc
  passes-head p (x ∷ es) rest e q = by (p x) refl (passes-head p es rest e) q
    where
      by : (b : Bool) → p x ≡ b → (filter p es ≡ e ∷ rest → p e ≡ true) → cond b (x ∷ filter p es) (filter p es) ≡ e ∷ rest → p e ≡ true
      by true here later q = let same : x ≡ e = cc in ap p (sym same) ∙ here
      by false here later q = later q

  -- where a pair of the name is there, a stable sort keeps all pairs of the name in order
  filter-alike : (es fs : List (Name × V)) (name : Name) (x : Name × V) → IsStableByKey (λ e. e.0.0) nat_cmp es fs → is_of name x ≡ true → filter (is_of name) fs ≡ filter (is_of name) es
  filter-alike es fs name x stable here =
      let agree = λ (e : Name × V). tie x.0.0 e.0.0 ∙ one_name name.0 x.0.0 e.0.0 here in
      sym (filter_agree _ (is_of name) agree fs) ∙ stable x ∙ filter_agree _ (is_of name) agree es

  -- a stable sort keeps the first value of each name
  pub lookup-stable : (es fs : List (Name × V)) (name : Name) → IsStableByKey (λ e. e.0.0) nat_cmp es fs → lookup (is_name name) fs ≡ lookup (is_name name) es
  lookup-stable es fs name stable = lookup-filter (is_name name) fs ∙ ap first_value (by _ _ refl refl) ∙ sym (lookup-filter (is_name name) es)
    where
      by : (xs ys : List (Name × V)) → filter (is_of name) es ≡ xs → filter (is_of name) fs ≡ ys → filter (is_of name) fs ≡ filter (is_of name) es
      by [] [] p q = q ∙ sym p
      by (x ∷ xs) ys p q = filter-alike es fs name x stable (passes-head (is_of name) es xs x p)
      by [] (y ∷ ys) p q = filter-alike es fs name y stable (passes-head (is_of name) fs ys y q)

  dedup_from-lookup : (name : Name) (e : Name × V) (es : List (Name × V)) → lookup (is_name name) (dedup_from is_one e es) ≡ lookup (is_name name) (e ∷ es)
  dedup_from-lookup name e [] = refl
  dedup_from-lookup name e (x ∷ es) = by (is_one x e) refl (dedup_from-lookup name e es) (dedup_from-lookup name x es)
    where
      other : (b : Bool) → is_of name e ≡ b → is_one x e ≡ true → cond b (Some e.1) (lookup (is_name name) es) ≡ cond b (Some e.1) (cond (is_of name x) (Some x.1) (lookup (is_name name) es))
      other true here same = refl
      other false here same = let apart : is_of name x ≡ false = grind (arith, nat_tests) in ap (λ b. cond b (Some x.1) (lookup (is_name name) es)) (sym apart)

      by : (b : Bool) → is_one x e ≡ b → lookup (is_name name) (dedup_from is_one e es) ≡ lookup (is_name name) (e ∷ es) → lookup (is_name name) (dedup_from is_one x es) ≡ lookup (is_name name) (x ∷ es)
          → lookup (is_name name) (cond b (dedup_from is_one e es) (e ∷ dedup_from is_one x es)) ≡ lookup (is_name name) (e ∷ x ∷ es)
      by true same over_e over_x = over_e ∙ other (is_of name e) refl same
      by false same over_e over_x = ap (λ o. cond (is_of name e) (Some e.1) o) over_x

  -- the first of the pairs of one name counts
  pub lookup-dedup : (name : Name) (es : List (Name × V)) → lookup (is_name name) (dedup is_one es) ≡ lookup (is_name name) es
  lookup-dedup name [] = refl
  lookup-dedup name (e ∷ es) = dedup_from-lookup name e es

  dedup_from-places : (e : Name × V) (es : List (Name × V)) → places (dedup_from is_one e es) ≡ dedup_from nat_eq e.0.0 (places es)
  dedup_from-places e [] = refl
  dedup_from-places e (x ∷ es) = by (is_one x e) (dedup_from-places e es) (dedup_from-places x es)
    where
      by : (b : Bool) → places (dedup_from is_one e es) ≡ dedup_from nat_eq e.0.0 (places es) → places (dedup_from is_one x es) ≡ dedup_from nat_eq x.0.0 (places es)
          → places (cond b (dedup_from is_one e es) (e ∷ dedup_from is_one x es)) ≡ cond b (dedup_from nat_eq e.0.0 (places es)) (e.0.0 ∷ dedup_from nat_eq x.0.0 (places es))
      by true over_e over_x = over_e
      by false over_e over_x = ap (λ r. e.0.0 ∷ r) over_x

  dedup-places : (es : List (Name × V)) → places (dedup is_one es) ≡ dedup nat_eq (places es)
  dedup-places [] = refl
  dedup-places (e ∷ es) = dedup_from-places e es

  place_at : (es : List (Name × V)) (i : ℕ) (d : ℕ) (e : Name × V) → i < length es → get_or (places es) i d ≡ (get_or es i e).0.0
  place_at es i d e within = get_or-map (λ e. e.0.0) es i e d within

  sorted-places : (es : List (Name × V)) → IsSortedByKey (λ e. e.0.0) nat_cmp es → IsSorted nat_cmp (places es)
  sorted-places [] sorted k d low high = absurd (omega arith)
  sorted-places (e ∷ es) sorted k d low high =
      let as_many : length (places (e ∷ es)) ≡ length (e ∷ es) = length-map (e ∷ es) (λ e. e.0.0) in
      let inside : k + 1 < length (e ∷ es) = omega arith in
      let front : k < length (e ∷ es) = omega arith in
      rw (place_at (e ∷ es) (k + 1) d e inside, place_at (e ∷ es) k d e front) (sorted k e low inside)

  -- pairs that were sorted and then left with one of each name ascend
  pub ascending-dedup : (es : List (Name × V)) → IsSortedByKey (λ e. e.0.0) nat_cmp es → IsStrictlyIncreasing (places (dedup is_one es))
  ascending-dedup es sorted = rw (dedup-places es) (IsStrictlyIncreasing-dedup (places es) (sorted-places es sorted))

  lookup-first : (t : Name → Bool) (es : List (Name × V)) (i : ℕ) (d : Name × V) → i < length es → t (get_or es i d).0 ≡ true → ((k : ℕ) → k < i → t (get_or es k d).0 ≡ false) → lookup t es ≡ Some (get_or es i d).1
  lookup-first t [] i d within here before = absurd (omega arith)
  lookup-first t (e ∷ es) zero d within here before = ap (λ b. cond b (Some e.1) (lookup t es)) here
  lookup-first t (e ∷ es) (suc i) d within here before =
      ap (λ b. cond b (Some e.1) (lookup t es)) (before 0 (omega arith)) ∙ lookup-first t es i d (omega arith) here (λ k h. before (suc k) (omega arith))

  lookup-none : (t : Name → Bool) (es : List (Name × V)) → ((k : ℕ) (d : Name × V) → k < length es → t (get_or es k d).0 ≡ false) → lookup t es ≡ None
  lookup-none t [] none = refl
  lookup-none t (e ∷ es) none = ap (λ b. cond b (Some e.1) (lookup t es)) (none 0 e (omega arith)) ∙ lookup-none t es (λ k d h. none (suc k) d (omega arith))

  -- the places rise
  rising : (es : List (Name × V)) (i j : ℕ) (d : Name × V) → IsStrictlyIncreasing (places es) → i < j → j < length es → (get_or es i d).0.0 < (get_or es j d).0.0
  rising es i j d ascending before within =
      let as_many : length (places es) ≡ length es = length-map es (λ e. e.0.0) in
      let front : i < length es = omega arith in
      rw (← place_at es i 0 d front, ← place_at es j 0 d within) (AllPairs-from_increasing (places es) ascending i j 0 before (omega arith))

  no_fall : (es : List (Name × V)) (i j : ℕ) (d : Name × V) → IsStrictlyIncreasing (places es) → i ≤ j → j < length es → (get_or es i d).0.0 ≤ (get_or es j d).0.0
  no_fall es i j d ascending before within = by (eq-or-lt_of_le before)
    where
      by : (i ≡ j) ⊎ (i < j) → (get_or es i d).0.0 ≤ (get_or es j d).0.0
      by (inl same) = rw same (omega arith)
      by (inr lower) = let less = rising es i j d ascending lower within in omega arith

  -- in pairs that ascend, the pair of a name is the only one
  pub lookup-at : (es : List (Name × V)) (i : ℕ) (d : Name × V) (name : Name) → i < length es → nat_cmp (get_or es i d).0.0 name.0 ≡ Equal → IsStrictlyIncreasing (places es) → lookup (is_name name) es ≡ Some (get_or es i d).1
  lookup-at es i d name within here ascending =
      let same = equal_same name.0 (get_or es i d).0.0 here in
      lookup-first (is_name name) es i d within same (λ k before. let lower = rising es k i d ascending before within in grind (arith, nat_tests))

  -- a binary search that finds no pair of the name has looked at them all
  pub lookup-missing : (es : List (Name × V)) (i : ℕ) (name : Name) → (IsNonDecreasingBy (λ e. ordering_index (nat_cmp e.0.0 name.0)) es → IsPartitionPoint (λ e. nat_cmp e.0.0 name.0 ≡ Less) (λ e. nat_cmp e.0.0 name.0 ≡ Greater) es i) → IsStrictlyIncreasing (places es) → lookup (is_name name) es ≡ None
  lookup-missing es i name parts ascending =
      let rise : IsNonDecreasingBy (λ e. ordering_index (nat_cmp e.0.0 name.0)) es = λ a b d before within. rises (get_or es a d).0.0 (get_or es b d).0.0 name.0 (no_fall es a b d ascending before within) in
      let apart = parts rise in
      lookup-none (is_name name) es (λ k d within. by k d within (cases_lt k i) apart)
    where
      by : (k : ℕ) (d : Name × V) → k < length es → (k < i) ⊎ (i ≤ k) → IsPartitionPoint (λ e. nat_cmp e.0.0 name.0 ≡ Less) (λ e. nat_cmp e.0.0 name.0 ≡ Greater) es i → is_name name (get_or es k d).0 ≡ false
      by k d within (inl low) apart = less_other name.0 (get_or es k d).0.0 (apart.0 k d (omega arith) low)
      by k d within (inr high) apart = greater_other name.0 (get_or es k d).0.0 (apart.1 k d high within)

-- in pairs and others behind them, those in front count first
pub lookup-append : {V : Type 0} (t : Name → Bool) (es fs : List (Name × V)) → lookup t (es ++ fs) ≡ option_or (lookup t es) (lookup t fs)
lookup-append t [] fs = refl
lookup-append {V} t (e ∷ es) fs = by (t e.0) (lookup-append t es fs)
  where
    by : (b : Bool) → lookup t (es ++ fs) ≡ option_or (lookup t es) (lookup t fs) → cond b (Some e.1) (lookup t (es ++ fs)) ≡ option_or (cond b (Some e.1) (lookup t es)) (lookup t fs)
    by true rest = refl
    by false rest = rest
