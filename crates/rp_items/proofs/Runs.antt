-- The characters at places each of which is next to the last are a part of a text.
use Rattle.std.proofs.Common.{◌≡◌, ℕ, zero, suc, ◌+◌, ◌-◌, ◌*◌, ◌<◌, ◌≤◌, Bool, true, false, List, [], ◌∷◌, length, filter_map, slice_get, drop, take, if◌then◌else◌, refl, sym, ap, ◌∙◌, arith}
use Rattle.std.specs.List.{cons_option, range_with_len, slice_range}
use Rattle.rp_items.specs.SliceView.{AreWithin, place_at, taken}
use Rattle.rp_items.specs.declared.spans.Places.{Places}
use Rattle.rp_items.proofs.SlicePlaces.{taken-same}

cut : {A : Type 0} (xs : List A) (i c : ℕ) → i < length xs → cons_option (slice_get xs i) (take c (drop (suc i) xs)) ≡ take (suc c) (drop i xs)
cut [] i c h = absurd (omega arith)
cut (x ∷ xs) zero c h = refl
cut (x ∷ xs) (suc i) c h = cut xs i c (omega arith)

run_from : {A : Type 0} (xs : List A) (f a c : ℕ) → f + a + c ≤ length xs → filter_map (λ m. slice_get xs (f + m * 1)) (range_with_len a c) ≡ take c (drop (f + a) xs)
run_from xs f a zero within = refl
run_from xs f a (suc c) within =
    let here : f + a * 1 ≡ f + a = omega arith in
    let next : f + (a + 1) ≡ suc (f + a) = omega arith in
    ap (λ t. cons_option (slice_get xs (f + a * 1)) t) (run_from xs f (a + 1) c (omega arith))
    ∙ ap (λ (i : ℕ). cons_option (slice_get xs i) (take c (drop (f + (a + 1)) xs))) here
    ∙ ap (λ (i : ℕ). cons_option (slice_get xs (f + a)) (take c (drop i xs))) next
    ∙ cut xs (f + a) c (omega arith)

next_place : (b : Bool) (f s m : ℕ) → b ≡ false → s ≡ 1 → (if b then f - m * s else f + m * s) ≡ f + m * 1
next_place true f s m on one = absurd (cc)
next_place false f s m on one = ap (λ (s : ℕ). f + m * s) one

module _ (p : Places) (n : ℕ) (on : p.backward ≡ false) (one : p.step ≡ 1) where
  fits_by : (c : ℕ) → p.first ≤ n → ((m : ℕ) → m < c → place_at p m < n) → p.first + c ≤ n
  fits_by zero front are = omega arith
  fits_by (suc c) front are =
      let last : place_at p c < n = are c (omega arith) in
      let place : place_at p c ≡ p.first + c * 1 = next_place p.backward p.first p.step c on one in
      omega (arith, last, place)

  -- they end within the text
  pub run-fits : p.first ≤ n → AreWithin n p → p.first + p.count ≤ n
  run-fits front are = fits_by p.count front (λ m few. (are m few).1)

-- and are those of that part
pub run-taken : {A : Type 0} (p : Places) (xs : List A) → p.backward ≡ false → p.step ≡ 1 → p.first + p.count ≤ length xs
    → slice_range xs p.first (p.first + p.count) ≡ taken p xs
run-taken p xs on one within =
    let many : p.first + p.count - p.first ≡ p.count = omega arith in
    let front : p.first + 0 ≡ p.first = omega arith in
    ap (λ (c : ℕ). take c (drop p.first xs)) many ∙ ap (λ (i : ℕ). take p.count (drop i xs)) (sym front) ∙ sym (run_from xs p.first 0 p.count (omega arith))
    ∙ taken-same (λ m. slice_get xs (p.first + m * 1)) (λ m. slice_get xs (place_at p m)) 0 p.count
    (λ m low high. ap (slice_get xs) (sym (next_place p.backward p.first p.step m on one)))
