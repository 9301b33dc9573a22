use Rattle.std.proofs.Common.{◌≡◌, length}
use Rattle.rp_meaning.specs.Classes.{are_functions}
use Rattle.rp_access.proofs.standing.are_functions.Given as goal

-- those that the walk still gives decide
abbrev pub invariant-loop-at : goal.invariant-loop-at
invariant-loop-at l = are_functions l.store.heap l.walk ≡ are_functions l.store.heap l.methods

abbrev pub decreases-loop-at : goal.decreases-loop-at
decreases-loop-at l = length l.walk
