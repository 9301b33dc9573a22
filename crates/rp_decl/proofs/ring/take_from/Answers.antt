use Rattle.std.proofs.Common.{◌<◌, ◌∙◌, ℕ, Option, ap, subst, sym}
use Rattle.rp_decl.specs.Ring.{is_place}
use Rattle.rp_decl.proofs.RingLinks.{left-step, settled-step, work, work-less}
use Rattle.rp_decl.proofs.ring.take_from.Goals as goal

pub loop-place-init : goal.loop-place-init
loop-place-init c = record {
  left = λ likes left. left;
  settled = λ other settled apart. settled apart;
}

pub loop-place-preserved : goal.loop-place-preserved
loop-place-preserved c =
    let at = c.loop-place in
    let step = c.take_link-place in
    record {
      left = λ likes left.
          left-step likes at.links at.waits c.in-Some.here step.new.links step.new.waits step.result step.ensures.taken
          step.ensures.links step.ensures.waits (at.invariant.left likes left);
      settled = λ other settled apart.
          settled-step at.links at.waits c.in-Some.here step.new.links step.new.waits step.result other step.ensures.taken
          step.ensures.links step.ensures.waits
          (λ other_place. at.invariant.settled other settled (ap (is_place other) c.in-Some.is ∙ other_place)) apart;
    }

pub loop-place-smaller : goal.loop-place-smaller
loop-place-smaller c =
    let at = c.loop-place in
    let step = c.take_link-place in
    subst (λ (place : Option ℕ). work step.new.links step.result < work at.links place) (sym c.in-Some.is)
    (work-less at.links at.waits c.in-Some.here step.new.links step.result step.ensures.taken step.ensures.links)

pub returns-clause-left : goal.returns-clause-left
returns-clause-left c = c.loop-place.invariant.left

pub returns-clause-settled : goal.returns-clause-settled
returns-clause-settled c = λ other settled.
    c.loop-place.invariant.settled other settled (ap (is_place other) c.in_default.is)
