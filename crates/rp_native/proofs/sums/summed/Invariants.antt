use Rattle.std.proofs.Common.{◌≡◌, drop, filter_map, pos}
use Rattle.rp_ops.specs.Keys.{index_number}
use Rattle.rp_native.specs.Walked.{summed}
use Rattle.rp_native.proofs.sums.summed.Given as goal

-- what is left is added to the sum so far
abbrev pub invariant-loop-value : goal.invariant-loop-value
invariant-loop-value l = summed (pos 0) (filter_map index_number l.values) ≡ summed l.total (filter_map index_number (drop l.value-index l.values))
