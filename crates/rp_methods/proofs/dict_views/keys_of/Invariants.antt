use Rattle.std.proofs.Common.{◌≡◌, ◌++◌, length, map}
use Rattle.rp_ops.specs.View.{key_rock}
use Rattle.rp_methods.proofs.dict_views.keys_of.Given as goal

-- the keys so far, and then those that the walk still gives
abbrev pub invariant-loop-rock : goal.invariant-loop-rock
invariant-loop-rock l = l.keys.items ++ map key_rock l.walk ≡ map key_rock l.entries

abbrev pub decreases-loop-rock : goal.decreases-loop-rock
decreases-loop-rock l = length l.walk
