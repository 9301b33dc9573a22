use Rattle.std.proofs.Common.{◌≡◌, length}
use Rattle.rp_tests_values.proofs.outside_tests.log_piece.Given as goal

-- no call has failed
abbrev pub invariant-loop-left : goal.invariant-loop-left
invariant-loop-left g l = g.S.Sink.faults l.sink ≡ 0

abbrev pub decreases-loop-left : goal.decreases-loop-left
decreases-loop-left g l = length l.left
