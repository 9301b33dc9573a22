use Rattle.rp_ops.proofs.CallerLemmas.{IsWalkHeld-kept}
use Rattle.rp_tests_values.proofs.live.walk_while.Goals as goal

pub rest-requires : goal.rest-requires
rest-requires c = IsWalkHeld-kept _ _ _ c.in_ok-grow.ensures c.next.ensures.held
