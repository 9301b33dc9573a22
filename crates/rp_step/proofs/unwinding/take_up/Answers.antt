use Rattle.std.proofs.Common.{ap}
use Rattle.rp_frame.specs.Top.{below, top}
use Rattle.rp_meaning.specs.State.{next}
use Rattle.rp_ops.specs.Outcome.{gives}
use Rattle.rp_engine.proofs.Doings.{held_as}
use Rattle.rp_engine.specs.Law.{frame_in}
use Rattle.rp_access.specs.Moment.{state_of}
use Rattle.rp_engine.specs.Rest.{after, begun, did, gave}
use Rattle.rp_step.proofs.unwinding.take_up.Goals as goal

pub returns-in-Value-clause-law : goal.returns-in-Value-clause-law
returns-in-Value-clause-law c =
    let m = c.args.machine.now in
    let w = c.args.world.now in
    held_as m c.with_value.new.machine c.with_value.new.world c.with_value.result (λ base. after c.args.task (begun (frame_in base m) m.control m.values m.end (state_of w)))
    (λ base. after c.args.task (gave (frame_in base m) (below m.values) (gives (top m.values) (state_of w))))
    (λ base. ap (λ z. after c.args.task (begun (frame_in base m) z m.values m.end (state_of w))) c.in-Value.is) c.with_value.ensures.law

pub returns-in-Next-clause-law : goal.returns-in-Next-clause-law
returns-in-Next-clause-law c =
    let m = c.args.machine.now in
    let w = c.args.world.now in
    held_as m c.with_next.new.machine c.with_next.new.world c.with_next.result (λ base. after c.args.task (begun (frame_in base m) m.control m.values m.end (state_of w)))
    (λ base. after c.args.task (did (frame_in base m) m.values (gives next (state_of w))))
    (λ base. ap (λ z. after c.args.task (begun (frame_in base m) z m.values m.end (state_of w))) c.in-Next.is) c.with_next.ensures.law
