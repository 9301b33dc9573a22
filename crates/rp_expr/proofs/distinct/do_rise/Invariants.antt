use Rattle.std.proofs.Common.{ℕ, ◌+◌, ◌<◌}
use Rattle.std.specs.Prelude.{slice_index}
use Rattle.rp_expr.proofs.distinct.do_rise.Given as goal

-- the numbers before this place rise
abbrev pub invariant-numbers : goal.invariant-numbers
invariant-numbers l = (k : ℕ) → k + 1 < l.place → slice_index l.numbers k < slice_index l.numbers (k + 1)
