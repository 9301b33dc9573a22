-- The places of a slice are within its elements, and the elements there are those of the slice.
use Rattle.std.proofs.Common.{◌≡◌, ℕ, zero, suc, ◌+◌, ◌-◌, ◌*◌, ◌<◌, ◌≤◌, ℤ, pos, negsuc, ◌+ℤ◌, ◌-ℤ◌, ◌<ℤ◌, neg_ℤ, Bool, true, false, List, [], ◌∷◌, ◌++◌, length, get_or, filter_map, Option, Some, None, slice_get, unsigned_abs, is_some, refl, sym, ap, subst, ◌∙◌, arith}
use Rattle.std.specs.Int.{div_ceil}
use Rattle.std.specs.List.{All, cons_option, range_with_len}
use Rattle.std.specs.Option.{IfSome}
use Rattle.std.proofs.Math.Nat.{mul-le-mul_right}
use Rattle.std.proofs.lemmas.Grind.{div_ceil_times}
use Rattle.std.proofs.lemmas.Int.{ints}
use Rattle.std.proofs.lemmas.List.Elements.{All-cons, All-nil, filter_map-append}
use Rattle.rp_ops.specs.Binary.{times}
use Rattle.rp_items.specs.Slices.{Span, bound, count, distance, first, last, place, sliced, span_of}
use Rattle.rp_items.specs.SliceView.{AreOf, AreWithin, place_at, taken}
use Rattle.rp_items.specs.declared.spans.Places.{Places}
use Rattle.rp_base.proofs.CallerLemmas.{IfSome-slice_get, range-last}

-- so many strides stay within the distance
pub strides : (d k m : ℕ) → 0 < k → m < div_ceil d k → m * k < d
strides d k m some within =
    let most = (div_ceil_times d k some).1 in
    let up : suc m * k ≤ div_ceil d k * k = mul-le-mul_right {m = suc m} {n = div_ceil d k} k within in
    omega arith

times-difference : (b c : ℕ) (z : ℤ) → z ≡ pos b -ℤ pos c → times z ≡ b - c
times-difference b c (pos n) e = omega (arith, ints)
times-difference b c (negsuc n) e = omega (arith, ints)

bound-backward : (n k : ℕ) (missing : ℤ) (part : Option ℤ) → bound n (negsuc k) missing part ≡ bound n (negsuc 0) missing part
bound-backward n k missing None = refl
bound-backward n k missing (Some z) = refl

first-backward : (n : ℕ) (from to : Option ℤ) (k : ℕ) → first n (span_of from to (negsuc k)) ≡ bound n (negsuc 0) (pos n -ℤ pos 1) from
first-backward n from to k = bound-backward n k (pos n -ℤ pos 1) from

last-backward : (n : ℕ) (from to : Option ℤ) (k : ℕ) → last n (span_of from to (negsuc k)) ≡ bound n (negsuc 0) (pos 0 -ℤ pos 1) to
last-backward n from to k = bound-backward n k (negsuc 0) to

abbrev going : Bool → ℕ → ℕ → ℕ → Places
going backward first step d = record { first = first; step = step; backward = backward; count = div_ceil d step }

within-forward : (n k f l : ℕ) → l ≤ n → AreWithin n (going false f (suc k) (l - f))
within-forward n k f l most m within =
    let near : m * suc k < l - f = strides (l - f) (suc k) m (omega arith) within in
    ((λ e. absurd (cc)), omega arith)

module _ (n : ℕ) (from to : Option ℤ) (k b c : ℕ) (first_is : pos b ≡ bound n (negsuc 0) (pos n -ℤ pos 1) from +ℤ pos 1)
    (last_is : pos c ≡ bound n (negsuc 0) (pos 0 -ℤ pos 1) to +ℤ pos 1) where
  abbrev back : Span
  back = span_of from to (negsuc k)

  begins_back : first n back +ℤ pos 1 ≡ pos b
  begins_back = ap (λ (z : ℤ). z +ℤ pos 1) (first-backward n from to k) ∙ sym first_is

  ends_back : last n back +ℤ pos 1 ≡ pos c
  ends_back = ap (λ (z : ℤ). z +ℤ pos 1) (last-backward n from to k) ∙ sym last_is

  count-backward : div_ceil (b - c) (suc k) ≡ count n back
  count-backward =
      let far : distance (last n back) (first n back) ≡ b - c = times-difference b c (first n back -ℤ last n back) (difference (first n back) (last n back) begins_back ends_back) in
      ap (λ (d : ℕ). div_ceil d (suc k)) (sym far)
    where
      difference : (x y : ℤ) → x +ℤ pos 1 ≡ pos b → y +ℤ pos 1 ≡ pos c → x -ℤ y ≡ pos b -ℤ pos c
      difference x y e g = omega (arith, ints)

  place-backward : (m : ℕ) → m * suc k < b - c → unsigned_abs (place n back m) ≡ (b - 1) - m * suc k
  place-backward m near = ap unsigned_abs (stands (first n back) (m * suc k) begins_back near)
    where
      less : (x : ℤ) (j : ℕ) → x +ℤ pos 1 ≡ pos b → j < b - c → x -ℤ pos j ≡ pos ((b - 1) - j)
      less x j e near = omega (arith, ints)

      turned : (j : ℕ) (x : ℤ) → x +ℤ neg_ℤ (pos j) ≡ x -ℤ pos j
      turned j x = refl

      stands : (x : ℤ) (j : ℕ) → x +ℤ pos 1 ≡ pos b → j < b - c → x +ℤ neg_ℤ (pos j) ≡ pos ((b - 1) - j)
      stands x j e near = turned j x ∙ less x j e near

  are_of_backward : AreOf n back (going true (b - 1) (suc k) (b - c))
  are_of_backward = (count-backward, (λ m within. place-backward m (strides (b - c) (suc k) m (omega arith) within)))

within-backward : (n k b c : ℕ) → b ≤ n → AreWithin n (going true (b - 1) (suc k) (b - c))
within-backward n k b c most m within =
    let near : m * suc k < b - c = strides (b - c) (suc k) m (omega arith) within in
    ((λ e. omega arith), omega arith)

-- the same, by the step as a number

pub forward_within : (n : ℕ) (step : ℤ) (f l s : ℕ) → pos 0 <ℤ step → s ≡ unsigned_abs step → l ≤ n → AreWithin n (going false f s (l - f))
forward_within n (pos zero) f l s on e most = absurd (omega (arith, ints))
forward_within n (pos (suc k)) f l s on e most = subst (λ (t : ℕ). AreWithin n (going false f t (l - f))) (sym e) (within-forward n k f l most)
forward_within n (negsuc k) f l s on e most = absurd (omega (arith, ints))

pub backward_places : (n : ℕ) (from to : Option ℤ) (step : ℤ) (b c s : ℕ) → step <ℤ pos 0 → s ≡ unsigned_abs step
    → pos b ≡ bound n (negsuc 0) (pos n -ℤ pos 1) from +ℤ pos 1 → pos c ≡ bound n (negsuc 0) (pos 0 -ℤ pos 1) to +ℤ pos 1
    → AreOf n (span_of from to step) (going true (b - 1) s (b - c))
backward_places n from to (pos k) b c s on e x y = absurd (omega (arith, ints))
backward_places n from to (negsuc k) b c s on e x y =
    subst (λ (t : ℕ). AreOf n (span_of from to (negsuc k)) (going true (b - 1) t (b - c))) (sym e) (are_of_backward n from to k b c x y)

pub backward_within : (n : ℕ) (step : ℤ) (b c s : ℕ) → step <ℤ pos 0 → s ≡ unsigned_abs step → b ≤ n → AreWithin n (going true (b - 1) s (b - c))
backward_within n (pos k) b c s on e most = absurd (omega (arith, ints))
backward_within n (negsuc k) b c s on e most = subst (λ (t : ℕ). AreWithin n (going true (b - 1) t (b - c))) (sym e) (within-backward n k b c most)

-- the elements at places

-- one place more
pub taken-more : {A : Type 0} (h : ℕ → Option A) (m : ℕ) (v : A) → h m ≡ Some v
    → filter_map h (range_with_len 0 (m + 1)) ≡ filter_map h (range_with_len 0 m) ++ v ∷ []
taken-more h m v e =
    let next : m + 1 ≡ suc m = omega arith in
    let place : 0 + m ≡ m = omega arith in
    ap (λ (k : ℕ). filter_map h (range_with_len 0 k)) next ∙ ap (filter_map h) (range-last 0 m)
    ∙ ap (λ (k : ℕ). filter_map h (range_with_len 0 m ++ k ∷ [])) place ∙ filter_map-append h (range_with_len 0 m) (m ∷ [])
    ∙ ap (λ x. filter_map h (range_with_len 0 m) ++ cons_option x []) e

pub taken-same : {A : Type 0} (h g : ℕ → Option A) (a c : ℕ) → ((m : ℕ) → a ≤ m → m < a + c → h m ≡ g m)
    → filter_map h (range_with_len a c) ≡ filter_map g (range_with_len a c)
taken-same h g a zero same = refl
taken-same h g a (suc c) same =
    ap (λ x. cons_option x (filter_map h (range_with_len (a + 1) c))) (same a (omega arith) (omega arith))
    ∙ ap (λ t. cons_option (g a) t) (taken-same h g (a + 1) c (λ m low high. same m (omega arith) (omega arith)))

-- the elements at the places of a slice are the slice
pub taken-sliced : {A : Type 0} (n : ℕ) (s : Span) (p : Places) (xs : List A) → length xs ≡ n → AreOf n s p → taken p xs ≡ sliced s xs
taken-sliced n s p xs e of =
    taken-same (λ m. slice_get xs (place_at p m)) (λ m. slice_get xs (unsigned_abs (place n s m))) 0 p.count
    (λ m low high. ap (slice_get xs) (sym (of.1 m (omega arith))))
    ∙ ap (λ (c : ℕ). filter_map (λ m. slice_get xs (unsigned_abs (place n s m))) (range_with_len 0 c)) of.0
    ∙ ap (λ (k : ℕ). filter_map (λ m. slice_get xs (unsigned_abs (place k s m))) (range_with_len 0 (count k s))) (sym e)

pub slice_get-is_some : {A : Type 0} (xs : List A) (i : ℕ) → i < length xs → is_some (slice_get xs i) ≡ true
slice_get-is_some [] i h = absurd (omega arith)
slice_get-is_some (x ∷ xs) zero h = refl
slice_get-is_some (x ∷ xs) (suc i) h = slice_get-is_some xs i (omega arith)

-- what is read at a place
pub slice_get-read : {A : Type 0} (xs : List A) (i : ℕ) (x : A) → i < length xs → x ≡ get_or xs i x → slice_get xs i ≡ Some x
slice_get-read [] i x h e = absurd (omega arith)
slice_get-read (y ∷ ys) zero x h e = ap Some (sym e)
slice_get-read (y ∷ ys) (suc i) x h e = slice_get-read ys i x (omega arith) e

length-cons : {A : Type 0} (x : Option A) (ys : List A) → is_some x ≡ true → length (cons_option x ys) ≡ suc (length ys)
length-cons None ys e = absurd (cc)
length-cons (Some x) ys e = refl

length-taken_by : {A : Type 0} (h : ℕ → Option A) (a c : ℕ) → ((m : ℕ) → a ≤ m → m < a + c → is_some (h m) ≡ true) → length (filter_map h (range_with_len a c)) ≡ c
length-taken_by h a zero some = refl
length-taken_by h a (suc c) some =
    length-cons (h a) (filter_map h (range_with_len (a + 1) c)) (some a (omega arith) (omega arith))
    ∙ ap suc (length-taken_by h (a + 1) c (λ m low high. some m (omega arith) (omega arith)))

-- there is one for each place
pub length-taken : {A : Type 0} (p : Places) (xs : List A) → AreWithin (length xs) p → length (taken p xs) ≡ p.count
length-taken p xs within =
    length-taken_by (λ m. slice_get xs (place_at p m)) 0 p.count (λ m low high. slice_get-is_some xs (place_at p m) (within m (omega arith)).1)

cons-each : {A : Type 0} (P : A → Type 0) (x : Option A) (ys : List A) → IfSome x P → All P ys → All P (cons_option x ys)
cons-each P None ys is h = h
cons-each P (Some x) ys is h = All-cons P x ys is h

each_by : {A : Type 0} (P : A → Type 0) (xs : List A) (at : ℕ → ℕ) (ms : List ℕ) → All P xs → All P (filter_map (λ m. slice_get xs (at m)) ms)
each_by P xs at [] h = All-nil P
each_by P xs at (m ∷ ms) h = cons-each P (slice_get xs (at m)) _ (IfSome-slice_get P xs (at m) h) (each_by P xs at ms h)

-- what holds of all elements holds of those of a slice
pub All-sliced : {A : Type 0} (P : A → Type 0) (s : Span) (xs : List A) → All P xs → All P (sliced s xs)
All-sliced P s xs h = each_by P xs (λ m. unsigned_abs (place (length xs) s m)) (range_with_len 0 (count (length xs) s)) h
