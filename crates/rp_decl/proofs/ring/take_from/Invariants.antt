use Rattle.std.proofs.Common.{◌≡◌, ℕ, false, List, Option, Some}
use Rattle.rp_decl.specs.Ring.{is_place}
use Rattle.rp_decl.specs.RingSteps.{AreLeft, IsSettled}
use Rattle.rp_decl.proofs.RingLinks.{work}
use Rattle.rp_decl.proofs.ring.take_from.Given as goal

-- each place is settled but the next one
abbrev pub invariant-loop-place : goal.invariant-loop-place
invariant-loop-place l = record {
  left : (likes : List (Option ℕ)) → AreLeft likes l.initial.links l.initial.waits → AreLeft likes l.links l.waits;
  settled : (other : ℕ) → (is_place other (Some l.from) ≡ false → IsSettled l.initial.links l.initial.waits other)
      → is_place other l.place ≡ false → IsSettled l.links l.waits other;
}

abbrev pub decreases-loop-place : goal.decreases-loop-place
decreases-loop-place l = work l.links l.place
