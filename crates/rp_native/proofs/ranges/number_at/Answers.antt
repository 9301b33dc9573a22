use Rattle.std.proofs.Common.{rules, ℤ, FitsSigned, arith, of_z, to_z, subst, sym}
use Rattle.std.specs.Int.{w64}
use Rattle.std.proofs.lemmas.Grind.{common_steps}
use Rattle.std.proofs.lemmas.Int.{to_z-of_z}
use Rattle.rp_native.specs.RangeView.{moved}
use Rattle.rp_native.proofs.RangeNumbers.{AreFitted, moved-fits}
use Rattle.rp_native.proofs.ranges.number_at.Goals as goal

pub unreachable-requires : goal.unreachable-requires
unreachable-requires c =
    let b = c.args.bounds in
    let away = c.away-away.result in
    let from : FitsSigned w64 b.from = first_of (search rules, grind (arith, common_steps)) in
    let to : FitsSigned w64 b.to = first_of (search rules, grind (arith, common_steps)) in
    let step : FitsSigned w64 b.step = first_of (search rules, grind (arith, common_steps)) in
    let fit : AreFitted b = record { from = from; to = to; step = step } in
    c.in-None.ensures
    (subst (λ (z : ℤ). FitsSigned w64 (moved z (to_z w64 (of_z w64 b.step)) away)) (sym (to_z-of_z w64 b.from from))
    (subst (λ (z : ℤ). FitsSigned w64 (moved b.from z away)) (sym (to_z-of_z w64 b.step step))
    (moved-fits b c.args.m away fit c.requires.step c.requires.within c.away-away.ensures)))
