use Rattle.std.proofs.Common.{◌<◌, arith}
use Rattle.rp_decl.proofs.RingLinks.{below-but}
use Rattle.rp_decl.proofs.ring.take_all.Goals as goal

pub loop-place-init : goal.loop-place-init
loop-place-init c = record {
  left = λ likes left. left;
  settled = λ other low. absurd (omega (arith, low));
}

pub loop-place-preserved : goal.loop-place-preserved
loop-place-preserved c =
    let at = c.loop-place in
    record {
      left = λ likes left. c.take_from.ensures.left likes (at.invariant.left likes left);
      settled = λ other low.
          c.take_from.ensures.settled other (λ apart. at.invariant.settled other (below-but other at.place low apart));
    }

pub returns-clause-left : goal.returns-clause-left
returns-clause-left c = c.loop-place.invariant.left

pub returns-clause-settled : goal.returns-clause-settled
returns-clause-settled c = λ place inside.
    c.loop-place.invariant.settled place (let low : place < c.loop-place.place = omega arith in low)
