use Rattle.std.proofs.Common.{◌<◌, ℕ, List, Option}
use Rattle.rp_decl.specs.RingSteps.{AreLeft, IsSettled}
use Rattle.rp_decl.proofs.ring.take_all.Given as goal

abbrev pub invariant-loop-place : goal.invariant-loop-place
invariant-loop-place l = record {
  left : (likes : List (Option ℕ)) → AreLeft likes l.initial.links l.initial.waits → AreLeft likes l.links l.waits;
  settled : (other : ℕ) → other < l.place → IsSettled l.links l.waits other;
}
