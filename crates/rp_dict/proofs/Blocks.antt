-- What the numbers of pairs before places are after each change of a table.
use Rattle.std.proofs.Common.{◌≡◌, ◌⊎◌, inl, inr, ◌++◌, ℕ, zero, suc, ◌<◌, ◌+◌, ◌*◌, ◌/◌, ◌≤◌, Bool, true, false, List, [], ◌∷◌, length, get_or, None, Some, Option, refl, sym, ap, ◌∙◌, slice_set, if◌then◌else◌, arith, true≢false, take, is_some, drop, slice_get, unwrap_or}
use Rattle.std.specs.List.{fold, sum}
use Rattle.std.specs.Option.{option_map}
use Rattle.std.proofs.lemmas.Bool.{cases_lt, cases_order}
use Rattle.std.proofs.lemmas.List.{get_or-set_other, get_or-set_same, get_or_append_left, length-append, length-set}
use Rattle.std.proofs.Math.Seq.{get_or-append_seam}
use Rattle.indexmap.specs.IndexMap.{insert_entry}
use Rattle.rp_dict.specs.declared.slot.Slot.{Slot}
use Rattle.rp_dict.specs.declared.slot.Slot.TheVariants.{Live, Dead}
use Rattle.rp_dict.specs.Slot.{slot_eq}
use Rattle.rp_dict.specs.Places.{AreKept, Fits, before, live, second_changed}
use Rattle.rp_dict.specs.Ranks.{AreBlocks, IsPlace, rank}

from_zero : (a b : ℕ) → a ≡ b → 0 + a ≡ b
from_zero a b h = omega (arith, h)

zero_added : (a : ℕ) → a ≡ 0 + a
zero_added a = omega arith

one_added : (a b c : ℕ) → a + b ≡ c → suc a + b ≡ suc c
one_added a b c h = omega (arith, h)

one_less : (a b : ℕ) → suc a + 1 ≡ suc b → a + 1 ≡ b
one_less a b h = omega (arith, h)

one_out : (a b : ℕ) → suc (a + b) ≡ suc a + b
one_out a b = omega arith

pub in_block : (p : ℕ) → (p / 1024 * 1024 ≤ p) × (p < p / 1024 * 1024 + 1024)
in_block p = (omega arith, omega arith)

pub plus_one : (a : ℕ) → a + 1 ≡ suc a
plus_one a = omega arith

fold_more : (a : ℕ) (xs : List ℕ) (i : ℕ) → i < length xs → fold ◌+◌ a (take (suc i) xs) ≡ fold ◌+◌ a (take i xs) + get_or xs i 0
fold_more a [] i below = absurd (omega (arith, below))
fold_more a (x ∷ xs) zero below = refl
fold_more a (x ∷ xs) (suc i) below = fold_more (a + x) xs i (omega (arith, below))

sum_more : (xs : List ℕ) (i : ℕ) → i < length xs → sum (take (suc i) xs) ≡ sum (take i xs) + get_or xs i 0
sum_more xs i below = fold_more 0 xs i below

module _ {K V : Type 0} where
  -- nothing is known
  pub no_blocks : (es : List (Slot K × Option V)) → AreBlocks [] es
  no_blocks es = record { within = omega arith; counted = λ m below. absurd (omega (arith, below)) }

  pub no_place : (es : List (Slot K × Option V)) → IsPlace 0 0 es
  no_place es = record { within = omega arith; ranked = refl }

  -- the entry at a place is counted behind it
  pub rank_next : (es : List (Slot K × Option V)) (i : ℕ) (e : Slot K × Option V) → slice_get es i ≡ Some e → rank es i + length (before e.0 e.1 []) ≡ rank es (suc i)
  rank_next [] i e h = absurd (true≢false (sym (ap is_some h)))
  rank_next (x ∷ xs) zero e h = from_zero _ _ (ap (λ y. length (before y.0 y.1 [])) (sym (ap (λ o. unwrap_or o x) h)))
  rank_next (x ∷ xs) (suc i) e h = by x.0 x.1 (rank_next xs i e h)
    where
      by : (s : Slot K) (v : Option V) → rank xs i + length (before e.0 e.1 []) ≡ rank xs (suc i) → length (before s v (live (take i xs))) + length (before e.0 e.1 []) ≡ length (before s v (live (take (suc i) xs)))
      by (Live k) (Some v) rest = one_added _ _ _ rest
      by (Live k) None rest = rest
      by (Dead m) v rest = rest

  pub rank_past : (es : List (Slot K × Option V)) (i : ℕ) → slice_get es i ≡ None → rank es i ≡ rank es (suc i)
  rank_past [] zero h = refl
  rank_past [] (suc i) h = refl
  rank_past (x ∷ xs) zero h = absurd (true≢false (ap is_some h))
  rank_past (x ∷ xs) (suc i) h = by x.0 x.1 (rank_past xs i h)
    where
      by : (s : Slot K) (v : Option V) → rank xs i ≡ rank xs (suc i) → length (before s v (live (take i xs))) ≡ length (before s v (live (take (suc i) xs)))
      by (Live k) (Some v) rest = ap suc rest
      by (Live k) None rest = rest
      by (Dead m) v rest = rest

  -- a pair is found from any place before it
  pub found_from : (es : List (Slot K × Option V)) (place left : ℕ) → slice_get (live (drop place es)) left ≡ slice_get (live es) (rank es place + left)
  found_from es zero left = ap (slice_get (live es)) (zero_added left)
  found_from [] (suc place) left = ap (slice_get (live {K = K} {V = V} [])) (zero_added left)
  found_from (x ∷ xs) (suc place) left = found_from xs place left ∙ by x.0 x.1
    where
      by : (s : Slot K) (v : Option V) → slice_get (live xs) (rank xs place + left) ≡ slice_get (before s v (live xs)) (length (before s v (live (take place xs))) + left)
      by (Live k) (Some v) = ap (slice_get ((k, v) ∷ live xs)) (one_out (rank xs place) left)
      by (Live k) None = refl
      by (Dead m) v = refl

  pub rank_grows : (es : List (Slot K × Option V)) (i j : ℕ) → i ≤ j → rank es i ≤ rank es j
  rank_grows es zero j below = omega arith
  rank_grows [] (suc i) zero below = absurd (omega (arith, below))
  rank_grows [] (suc i) (suc j) below = omega arith
  rank_grows (x ∷ xs) (suc i) zero below = absurd (omega (arith, below))
  rank_grows (x ∷ xs) (suc i) (suc j) below = by x.0 x.1 (rank_grows xs i j (omega (arith, below)))
    where
      by : (s : Slot K) (v : Option V) → rank xs i ≤ rank xs j → length (before s v (live (take i xs))) ≤ length (before s v (live (take j xs)))
      by (Live k) (Some v) rest = omega (arith, rest)
      by (Live k) None rest = rest
      by (Dead m) v rest = rest

  -- a mark changes no number before its place
  pub rank_before : (es : List (Slot K × Option V)) (p : ℕ) (n : ℕ) (i : ℕ) → i ≤ p → rank (slice_set es p (Dead n, None)) i ≡ rank es i
  rank_before es p n zero below = refl
  rank_before [] p n (suc i) below = refl
  rank_before (x ∷ xs) zero n (suc i) below = absurd (omega (arith, below))
  rank_before (x ∷ xs) (suc p) n (suc i) below = by x.0 x.1 (rank_before xs p n i (omega (arith, below)))
    where
      by : (s : Slot K) (v : Option V) → rank (slice_set xs p (Dead n, None)) i ≡ rank xs i → length (before s v (live (take i (slice_set xs p (Dead n, None))))) ≡ length (before s v (live (take i xs)))
      by (Live k) (Some v) rest = omega (arith, rest)
      by (Live k) None rest = rest
      by (Dead m) v rest = rest

  behind : (es : List (Slot K × Option V)) (p : ℕ) (n : ℕ) (i : ℕ) → rank es p + 1 ≡ rank es (suc p) → p < i → rank (slice_set es p (Dead n, None)) i + 1 ≡ rank es i
  behind es p n zero pair below = absurd (omega (arith, below))
  behind [] zero n (suc i) pair below = absurd (omega (arith, pair))
  behind [] (suc p) n (suc i) pair below = absurd (omega (arith, pair))
  behind (x ∷ xs) zero n (suc i) pair below = by x.0 x.1 pair
    where
      by : (s : Slot K) (v : Option V) → 0 + 1 ≡ length (before s v []) → length (live (take i xs)) + 1 ≡ length (before s v (live (take i xs)))
      by (Live k) (Some v) one = omega arith
      by (Live k) None one = absurd (omega (arith, one))
      by (Dead m) v one = absurd (omega (arith, one))
  behind (x ∷ xs) (suc p) n (suc i) pair below = by x.0 x.1 pair (λ one. behind xs p n i one (omega (arith, below)))
    where
      by : (s : Slot K) (v : Option V) → length (before s v (live (take p xs))) + 1 ≡ length (before s v (live (take (suc p) xs))) → (rank xs p + 1 ≡ rank xs (suc p) → rank (slice_set xs p (Dead n, None)) i + 1 ≡ rank xs i) → length (before s v (live (take i (slice_set xs p (Dead n, None))))) + 1 ≡ length (before s v (live (take i xs)))
      by (Live k) (Some v) one rest = one_added _ _ _ (rest (one_less _ _ one))
      by (Live k) None one rest = rest one
      by (Dead m) v one rest = rest one

  -- where a pair becomes a mark, there is one pair fewer before each place behind it
  pub rank_behind : (es : List (Slot K × Option V)) (p : ℕ) (n : ℕ) (i : ℕ) → rank es p + 1 ≡ rank es (p + 1) → p < i → rank (slice_set es p (Dead n, None)) i + 1 ≡ rank es i
  rank_behind es p n i pair below = behind es p n i (pair ∙ ap (rank es) (plus_one p)) below

  -- the sums of the counts are numbers of pairs
  pub blocks_sum : (counts : List ℕ) (es : List (Slot K × Option V)) (m : ℕ) → AreBlocks counts es → m ≤ length counts → sum (take m counts) ≡ rank es (m * 1024)
  blocks_sum counts es zero blocks below = refl
  blocks_sum counts es (suc m) blocks below =
      omega (arith, sum_more counts m (omega (arith, below)), blocks_sum counts es m blocks (omega (arith, below)), blocks.counted m (omega (arith, below)), ap (rank es) (next m))
    where
      next : (m : ℕ) → suc m * 1024 ≡ m * 1024 + 1024
      next m = omega arith

  -- one more block is counted
  pub blocks_more : (counts : List ℕ) (es : List (Slot K × Option V)) (x : ℕ) → AreBlocks counts es → length counts * 1024 + 1024 ≤ length es → rank es (length counts * 1024) + x ≡ rank es (length counts * 1024 + 1024) → AreBlocks (counts ++ x ∷ []) es
  blocks_more counts es x blocks room here = record {
    within = omega (arith, room, grown counts);
    counted = λ m below. by m below (cases_lt m (length counts));
  }
    where
      grown : (xs : List ℕ) → length (xs ++ x ∷ []) ≡ length xs + 1
      grown xs = length-append xs (x ∷ [])

      at_end : (m : ℕ) → m ≡ length counts → rank es (m * 1024) + get_or (counts ++ x ∷ []) m 0 ≡ rank es (m * 1024 + 1024)
      at_end m same = rw same (ap (λ y. rank es (length counts * 1024) + y) (get_or-append_seam counts x [] 0) ∙ here)

      by : (m : ℕ) → m < length (counts ++ x ∷ []) → (m < length counts) ⊎ (length counts ≤ m) → rank es (m * 1024) + get_or (counts ++ x ∷ []) m 0 ≡ rank es (m * 1024 + 1024)
      by m below (inl low) = ap (λ y. rank es (m * 1024) + y) (get_or_append_left counts (x ∷ []) 0 m low) ∙ blocks.counted m low
      by m below (inr high) = at_end m (omega (arith, below, high, grown counts))

  -- the same, where the numbers of pairs before the places so far are as they were
  pub blocks_like : (counts : List ℕ) (es fs : List (Slot K × Option V)) → AreBlocks counts es → length es ≤ length fs → ((i : ℕ) → i ≤ length es → rank fs i ≡ rank es i) → AreBlocks counts fs
  blocks_like counts es fs blocks longer same = record {
    within = omega (arith, blocks.within, longer);
    counted = λ m below. omega (arith, blocks.counted m below, same (m * 1024) (omega (arith, below, blocks.within)), same (m * 1024 + 1024) (omega (arith, below, blocks.within)));
  }

  pub place_like : (index place : ℕ) (es fs : List (Slot K × Option V)) → IsPlace index place es → length es ≤ length fs → ((i : ℕ) → i ≤ length es → rank fs i ≡ rank es i) → IsPlace index place fs
  place_like index place es fs stand longer same = record {
    within = omega (arith, stand.within, longer);
    ranked = same place stand.within ∙ stand.ranked;
  }

  -- a pair of a counted block becomes a mark
  pub blocks_lowered : (counts : List ℕ) (es : List (Slot K × Option V)) (p j x n : ℕ) → AreBlocks counts es → rank es p + 1 ≡ rank es (p + 1) → j * 1024 ≤ p → p < j * 1024 + 1024 → j < length counts → x + 1 ≡ get_or counts j 0 → AreBlocks (slice_set counts j x) (slice_set es p (Dead n, None))
  blocks_lowered counts es p j x n blocks pair low high inside fewer = record {
    within = omega (arith, blocks.within, length-set counts j x, length-set es p (Dead n, None));
    counted = λ m below. by m (omega (arith, below, length-set counts j x)) (cases_order m j);
  }
    where
      fs : List (Slot K × Option V)
      fs = slice_set es p (Dead n, None)

      by : (m : ℕ) → m < length counts → (m ≡ j) ⊎ ((m < j) ⊎ (j < m)) → rank fs (m * 1024) + get_or (slice_set counts j x) m 0 ≡ rank fs (m * 1024 + 1024)
      by m below (inl same) = here m same
        where
          here : (m : ℕ) → m ≡ j → rank fs (m * 1024) + get_or (slice_set counts j x) m 0 ≡ rank fs (m * 1024 + 1024)
          here m same = rw same (omega (arith, fewer, blocks.counted j inside, get_or-set_same counts j x 0 inside, rank_before es p n (j * 1024) low, rank_behind es p n (j * 1024 + 1024) pair high))
      by m below (inr (inl under)) =
          omega (arith, blocks.counted m below, get_or-set_other counts j m x 0 (λ e. omega (arith, e, under)), rank_before es p n (m * 1024) (omega (arith, under, low)), rank_before es p n (m * 1024 + 1024) (omega (arith, under, low)))
      by m below (inr (inr over)) =
          omega (arith, blocks.counted m below, get_or-set_other counts j m x 0 (λ e. omega (arith, e, over)), rank_behind es p n (m * 1024) pair (omega (arith, over, high)), rank_behind es p n (m * 1024 + 1024) pair (omega (arith, over, high)))

  -- a pair behind the counted blocks becomes a mark
  pub blocks_apart : (counts : List ℕ) (es : List (Slot K × Option V)) (p n : ℕ) → AreBlocks counts es → length counts * 1024 ≤ p → AreBlocks counts (slice_set es p (Dead n, None))
  blocks_apart counts es p n blocks past = record {
    within = omega (arith, blocks.within, length-set es p (Dead n, None));
    counted = λ m below. omega (arith, blocks.counted m below, rank_before es p n (m * 1024) (omega (arith, below, past)), rank_before es p n (m * 1024 + 1024) (omega (arith, below, past)));
  }

  -- the place that is kept, where a pair becomes a mark
  pub place_before : (index place : ℕ) (es : List (Slot K × Option V)) (p n : ℕ) → IsPlace index place es → place ≤ p → IsPlace index place (slice_set es p (Dead n, None))
  place_before index place es p n stand low = record {
    within = omega (arith, stand.within, length-set es p (Dead n, None));
    ranked = rank_before es p n place low ∙ stand.ranked;
  }

  pub place_behind : (index fewer place : ℕ) (es : List (Slot K × Option V)) (p n : ℕ) → IsPlace index place es → rank es p + 1 ≡ rank es (p + 1) → p < place → fewer + 1 ≡ index → IsPlace fewer place (slice_set es p (Dead n, None))
  place_behind index fewer place es p n stand pair high less = record {
    within = omega (arith, stand.within, length-set es p (Dead n, None));
    ranked = omega (arith, stand.ranked, less, rank_behind es p n place pair high);
  }

module _ {K V : Type 0} (eq : K → K → Bool) (k : K) (v : V) where
  -- a key that gets a value changes no number of pairs before the places so far
  pub rank_insert : (n : ℕ) (es : List (Slot K × Option V)) (i : ℕ) → AreKept n es → i ≤ length es → rank (insert_entry (slot_eq eq) es (Live k) (Some v)) i ≡ rank es i
  rank_insert n es zero kept below = refl
  rank_insert n [] (suc i) kept below = absurd (omega (arith, below))
  rank_insert n (e ∷ es) (suc i) kept below = by e.0 e.1 kept.0 (rank_insert n es i kept.1 (omega (arith, below)))
    where
      by : (s : Slot K) (w : Option V) → Fits n s w → rank (insert_entry (slot_eq eq) es (Live k) (Some v)) i ≡ rank es i → rank (insert_entry (slot_eq eq) ((s, w) ∷ es) (Live k) (Some v)) (suc i) ≡ rank ((s, w) ∷ es) (suc i)
      by (Live b) (Some w) fits rest = found (eq k b) refl
        where
          found : (t : Bool) → eq k b ≡ t → rank (insert_entry (slot_eq eq) ((Live b, Some w) ∷ es) (Live k) (Some v)) (suc i) ≡ rank ((Live b, Some w) ∷ es) (suc i)
          found true e = ap (λ t. rank (if t then (Live b, Some v) ∷ es else (Live b, Some w) ∷ insert_entry (slot_eq eq) es (Live k) (Some v)) (suc i)) e
          found false e = ap (λ t. rank (if t then (Live b, Some v) ∷ es else (Live b, Some w) ∷ insert_entry (slot_eq eq) es (Live k) (Some v)) (suc i)) e ∙ ap suc rest
      by (Live b) None fits rest = absurd fits
      by (Dead m) w fits rest = rest

module _ {X Y : Type 0} (eq : X → X → Bool) (x : X) (y : Y) where
  pub insert_entry-longer : (es : List (X × Y)) → length es ≤ length (insert_entry eq es x y)
  insert_entry-longer [] = omega arith
  insert_entry-longer (e ∷ es) = found (eq x e.0) (insert_entry-longer es)
    where
      found : (t : Bool) → length es ≤ length (insert_entry eq es x y) → suc (length es) ≤ length (if t then (e.0, y) ∷ es else e ∷ insert_entry eq es x y)
      found true rest = omega arith
      found false rest = omega (arith, rest)

module _ {K A B : Type 0} (v : B) where
  -- nor does another second part
  pub rank_second : (es : List (Slot K × Option (A × B))) (p : ℕ) (d : Slot K × Option (A × B)) (i : ℕ) → rank (slice_set es p (second_changed v (get_or es p d))) i ≡ rank es i
  rank_second es p d zero = refl
  rank_second [] p d (suc i) = refl
  rank_second (x ∷ xs) zero d (suc i) = by x.0 x.1
    where
      by : (s : Slot K) (w : Option (A × B)) → length (before s (option_map (λ pair. (pair.0, v)) w) (live (take i xs))) ≡ length (before s w (live (take i xs)))
      by (Live k) (Some w) = refl
      by (Live k) None = refl
      by (Dead m) w = refl
  rank_second (x ∷ xs) (suc p) d (suc i) = by x.0 x.1 (rank_second xs p d i)
    where
      by : (s : Slot K) (w : Option (A × B)) → rank (slice_set xs p (second_changed v (get_or xs p d))) i ≡ rank xs i → length (before s w (live (take i (slice_set xs p (second_changed v (get_or xs p d)))))) ≡ length (before s w (live (take i xs)))
      by (Live k) (Some w) rest = ap suc rest
      by (Live k) None rest = rest
      by (Dead m) w rest = rest

-- an item that is replaced leaves the length
pub set_longer : {X : Type 0} (es : List X) (i : ℕ) (x : X) → length es ≤ length (slice_set es i x)
set_longer es i x = omega (arith, length-set es i x)

-- an item within does not depend on the default
pub any_default : {X : Type 0} (xs : List X) (i : ℕ) (d e : X) → i < length xs → get_or xs i d ≡ get_or xs i e
any_default [] i d e below = absurd (omega (arith, below))
any_default (x ∷ xs) zero d e below = refl
any_default (x ∷ xs) (suc i) d e below = any_default xs i d e (omega (arith, below))
