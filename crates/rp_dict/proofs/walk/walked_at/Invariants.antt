use Rattle.std.proofs.Common.{◌≡◌, slice_get}
use Rattle.rp_dict.proofs.walk.walked_at.Given as goal

abbrev pub invariant-loop-pair : goal.invariant-loop-pair
invariant-loop-pair g l = slice_get l.rest l.left ≡ slice_get l.fn.walk l.fn.i

abbrev pub decreases-loop-pair : goal.decreases-loop-pair
decreases-loop-pair g l = l.left
