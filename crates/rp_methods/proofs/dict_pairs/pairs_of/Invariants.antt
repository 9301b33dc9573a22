use Rattle.std.proofs.Common.{◌≡◌, ◌++◌, length}
use Rattle.rp_ops.specs.View.{handed}
use Rattle.rp_methods.specs.Dicts.{pairs}
use Rattle.rp_methods.proofs.dict_pairs.pairs_of.Given as goal

-- the entries so far, and then those that the walk still gives
abbrev pub invariant-loop-rock : goal.invariant-loop-rock
invariant-loop-rock l = l.all.items ++ pairs (handed l.lent) l.walk ≡ pairs (handed l.lent) l.entries

abbrev pub decreases-loop-rock : goal.decreases-loop-rock
decreases-loop-rock l = length l.walk
