-- The numbers of a range stand between its bounds.
use Rattle.std.proofs.Common.{◌≡◌, ◌≢◌, ℕ, zero, suc, ◌*◌, ◌<◌, ◌≤◌, ◌^◌, ℤ, pos, negsuc, ◌+ℤ◌, ◌-ℤ◌, ◌*ℤ◌, ◌<ℤ◌, ◌≤ℤ◌, Bool, true, false, FitsSigned, int_lt, of_z, to_z, if◌then◌else◌, unsigned_abs, refl, sym, ap, subst, ◌∙◌, arith}
use Rattle.std.specs.Int.{w64}
use Rattle.std.proofs.lemmas.Bool.{le-ltb}
use Rattle.std.proofs.lemmas.Int.{ints, to_z-of_z}
use Rattle.std.proofs.Math.IntN.{pos-*ℤ-negsuc, pos-*ℤ-pos}
use Rattle.rp_ops.specs.Binary.{times}
use Rattle.rp_items.specs.Slices.{distance}
use Rattle.rp_native.specs.RangeView.{moved, way}
use Rattle.rp_native.specs.Ranges.{count}
use Rattle.rp_native.specs.declared.ranges.Bounds.{Bounds}
use Rattle.rp_items.proofs.CallerLemmas.{strides}

pub times-below : (z : ℤ) → z <ℤ pos 0 → times z ≡ 0
times-below (pos n) h = absurd (omega (arith, ints))
times-below (negsuc n) h = refl

pub times-above : (z : ℤ) → pos 0 ≤ℤ z → unsigned_abs z ≡ times z
times-above (pos n) h = refl
times-above (negsuc n) h = absurd (omega (arith, ints))

times-less : (z : ℤ) (a : ℕ) → a < times z → pos a <ℤ z
times-less (pos n) a h = omega (arith, ints)
times-less (negsuc n) a h = absurd (omega arith)

pub distance-below : (from to : ℤ) → to <ℤ from → distance from to ≡ 0
distance-below from to h = times-below (to -ℤ from) (omega (arith, ints))

pub distance-above : (from to : ℤ) → from ≤ℤ to → unsigned_abs (to -ℤ from) ≡ distance from to
distance-above from to h = times-above (to -ℤ from) (omega (arith, ints))

pub abs-pos : (z : ℤ) → z ≢ pos 0 → 0 < unsigned_abs z
abs-pos (pos zero) h = absurd (h refl)
abs-pos (pos (suc n)) h = omega arith
abs-pos (negsuc n) h = omega arith

away-less : (b : Bounds) (m : ℕ) → b.step ≢ pos 0 → m < count b → m * unsigned_abs b.step < way b
away-less b m h within = strides (way b) (unsigned_abs b.step) m (abs-pos b.step h) within

-- what stands between two numbers that fit
bounded : (from to : ℤ) (a : ℕ) → FitsSigned w64 from → FitsSigned w64 to → pos a <ℤ (to -ℤ from) → a < 2 ^ 64
bounded (pos m) (pos n) a f t h = let x : m < 2 ^ 63 = f.sfits in let y : n < 2 ^ 63 = t.sfits in omega (arith, ints)
bounded (pos m) (negsuc n) a f t h = let x : m < 2 ^ 63 = f.sfits in let y : n < 2 ^ 63 = t.sfits in omega (arith, ints)
bounded (negsuc m) (pos n) a f t h = let x : m < 2 ^ 63 = f.sfits in let y : n < 2 ^ 63 = t.sfits in omega (arith, ints)
bounded (negsuc m) (negsuc n) a f t h = let x : m < 2 ^ 63 = f.sfits in let y : n < 2 ^ 63 = t.sfits in omega (arith, ints)

distance-fits : (from to : ℤ) (a : ℕ) → FitsSigned w64 from → FitsSigned w64 to → a < distance from to → a < 2 ^ 64
distance-fits from to a f t h = bounded from to a f t (times-less (to -ℤ from) a h)

above-fits : (z from to : ℤ) → from ≤ℤ z → z ≤ℤ to → FitsSigned w64 from → FitsSigned w64 to → FitsSigned w64 z
above-fits (pos k) from (pos n) h g f t = let y : n < 2 ^ 63 = t.sfits in let most : k < 2 ^ 63 = omega (arith, ints) in record { sfits = most }
above-fits (pos k) from (negsuc n) h g f t = absurd (omega (arith, ints))
above-fits (negsuc k) (pos m) to h g f t = absurd (omega (arith, ints))
above-fits (negsuc k) (negsuc m) to h g f t = let x : m < 2 ^ 63 = f.sfits in let most : k < 2 ^ 63 = omega (arith, ints) in record { sfits = most }

-- its numbers fit 64 bits
pub record AreFitted (b : Bounds) : Type 0 where
  pub from : FitsSigned w64 b.from
  pub to : FitsSigned w64 b.to
  pub step : FitsSigned w64 b.step

-- the way fits 64 bits
pub away-fits : (b : Bounds) (m : ℕ) → AreFitted b → b.step ≢ pos 0 → m < count b → m * unsigned_abs b.step < 2 ^ 64
away-fits b m fit h within = by (int_lt b.step (pos 0)) (away-less b m h within) where
  by : (down : Bool) → m * unsigned_abs b.step < (if down then distance b.to b.from else distance b.from b.to) → m * unsigned_abs b.step < 2 ^ 64
  by true less = distance-fits b.to b.from (m * unsigned_abs b.step) fit.to fit.from less
  by false less = distance-fits b.from b.to (m * unsigned_abs b.step) fit.from fit.to less

-- the number that is so far away fits
pub moved-fits : (b : Bounds) (m away : ℕ) → AreFitted b → b.step ≢ pos 0 → m < count b → away ≡ m * unsigned_abs b.step
    → FitsSigned w64 (moved b.from b.step away)
moved-fits b m away fit h within is = by (int_lt b.step (pos 0)) (subst (λ (n : ℕ). n < way b) (sym is) (away-less b m h within)) where
  by : (down : Bool) → away < (if down then distance b.to b.from else distance b.from b.to)
      → FitsSigned w64 (if down then b.from -ℤ pos away else b.from +ℤ pos away)
  by true less =
      let near : pos away <ℤ (b.from -ℤ b.to) = times-less (b.from -ℤ b.to) away less in
      above-fits (b.from -ℤ pos away) b.to b.from (omega (arith, ints)) (omega (arith, ints)) fit.to fit.from
  by false less =
      let near : pos away <ℤ (b.to -ℤ b.from) = times-less (b.to -ℤ b.from) away less in
      above-fits (b.from +ℤ pos away) b.from b.to (omega (arith, ints)) (omega (arith, ints)) fit.from fit.to

-- it is the first one and m times the step
pub moved-is : (from step : ℤ) (m : ℕ) → moved from step (m * unsigned_abs step) ≡ from +ℤ pos m *ℤ step
moved-is from (pos k) m =
    ap (λ (b : Bool). if b then from -ℤ pos (m * k) else from +ℤ pos (m * k)) (le-ltb k 0 (omega arith)) ∙ ap (λ (z : ℤ). from +ℤ z) (sym (pos-*ℤ-pos m k))
moved-is from (negsuc k) m = ap (λ (z : ℤ). from +ℤ z) (sym (pos-*ℤ-negsuc m k))

-- the absolute value, as the code reads it from the bits
pub abs-is : (z : ℤ) (n : ℕ) → FitsSigned w64 z → n ≡ unsigned_abs (to_z w64 (of_z w64 z)) → n ≡ unsigned_abs z
abs-is z n f e = e ∙ ap unsigned_abs (to_z-of_z w64 z f)
