use Rattle.std.proofs.Common.{◌≡◌, ◌++◌, length}
use Rattle.rp_methods.proofs.dict_views.copied.Given as goal

-- the entries so far, and then those that the walk still gives
abbrev pub invariant-loop-key : goal.invariant-loop-key
invariant-loop-key l = l.all ++ l.walk ≡ l.entries

abbrev pub decreases-loop-key : goal.decreases-loop-key
decreases-loop-key l = length l.walk
