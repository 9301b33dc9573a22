use Rattle.rp_ops.specs.Walk.{IsWalkHeld}
use Rattle.rp_tests_values.proofs.live.rest.Given as goal

abbrev pub invariant-loop : goal.invariant-loop
invariant-loop l = IsWalkHeld l.store.heap l.cursor
