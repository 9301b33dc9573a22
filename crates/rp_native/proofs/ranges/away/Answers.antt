use Rattle.std.proofs.Common.{rules, ◌≡◌, ℕ, ◌*◌, ◌<◌, ◌^◌, FitsSigned, arith, unsigned_abs, subst, sym}
use Rattle.std.specs.Int.{w64}
use Rattle.std.proofs.lemmas.Grind.{common_steps}
use Rattle.rp_native.proofs.RangeNumbers.{AreFitted, away-fits}
use Rattle.rp_native.proofs.ranges.away.Goals as goal

pub overflow_mul-result : goal.overflow_mul-result
overflow_mul-result c =
    let b = c.args.bounds in
    let same : c.unsigned_abs.result ≡ unsigned_abs b.step = first_of (search rules, grind (arith, common_steps)) in
    let from : FitsSigned w64 b.from = first_of (search rules, grind (arith, common_steps)) in
    let to : FitsSigned w64 b.to = first_of (search rules, grind (arith, common_steps)) in
    let step : FitsSigned w64 b.step = first_of (search rules, grind (arith, common_steps)) in
    let fit : AreFitted b = record { from = from; to = to; step = step } in
    let near : c.args.m * c.unsigned_abs.result < 2 ^ 64 =
    subst (λ (k : ℕ). c.args.m * k < 2 ^ 64) (sym same) (away-fits b c.args.m fit c.requires.step c.requires.within) in
    record { fits = near }
