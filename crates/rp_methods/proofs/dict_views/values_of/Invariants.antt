use Rattle.std.proofs.Common.{◌≡◌, ◌++◌, length, map}
use Rattle.rp_methods.proofs.dict_views.values_of.Given as goal

-- the values so far, and then those that the walk still gives
abbrev pub invariant-loop-value : goal.invariant-loop-value
invariant-loop-value l = l.values.items ++ map (λ e. e.1.1) l.walk ≡ map (λ e. e.1.1) l.entries

abbrev pub decreases-loop-value : goal.decreases-loop-value
decreases-loop-value l = length l.walk
