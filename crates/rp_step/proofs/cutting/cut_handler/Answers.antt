use Rattle.std.proofs.Common.{sym, ap, ◌∙◌}
use Rattle.rp_frame.specs.Top.{below, top}
use Rattle.rp_meaning.specs.Exceptions as exception
use Rattle.rp_meaning.specs.State.{Flow, Outcome}
use Rattle.rp_ops.specs.Outcome.{ends}
use Rattle.rp_engine.proofs.Doings.{held_by}
use Rattle.rp_statements.proofs.Handlings.{after_raised, after_stop}
use Rattle.rp_engine.specs.Ends.{end_of}
use Rattle.rp_engine.specs.Handling as steps
use Rattle.rp_engine.specs.Law.{frame_in}
use Rattle.rp_access.specs.Moment.{state_of}
use Rattle.rp_engine.specs.Rest.{did}
use Rattle.rp_step.proofs.cutting.cut_handler.Goals as goal

pub returns-then-is_raised-clause-law : goal.returns-then-is_raised-clause-law
returns-then-is_raised-clause-law c =
    let m = c.args.machine.now in
    let w = c.args.world.now in
    held_by m c.behind_handler.new.machine c.behind_handler.new.world c.behind_handler.result
    (λ base. did (steps.handling (steps.thrown_of (top m.values)) (frame_in base m)) (below m.values)
    (exception.after (ends (end_of m.end) (state_of w)) (steps.without_as c.args.name (frame_in base m))))
    (λ base. did (steps.handling (steps.thrown_of (top m.values)) (frame_in base m)) (below m.values)
    (ends (end_of m.end) (steps.without_as c.args.name (frame_in base m) (state_of w))))
    (λ base. ap (λ (o : Outcome Flow). did (steps.handling (steps.thrown_of (top m.values)) (frame_in base m)) (below m.values) o)
    (after_raised (end_of m.end) (state_of w) (steps.without_as c.args.name (frame_in base m)) (sym c.is_raised.ensures ∙ c.if-is_raised.true)))
    c.behind_handler.ensures.law

pub returns-clause-law : goal.returns-clause-law
returns-clause-law c =
    let m = c.args.machine.now in
    let w = c.args.world.now in
    let b = c.behind_handler-2 in
    held_by m b.new.machine b.new.world b.result
    (λ base. did (steps.handling (steps.thrown_of (top m.values)) (frame_in base m)) (below m.values)
    (exception.after (ends (end_of m.end) (state_of w)) (steps.without_as c.args.name (frame_in base m))))
    (λ base. did (steps.handling (steps.thrown_of (top m.values)) (frame_in base m)) (below m.values) (ends (end_of m.end) (state_of w)))
    (λ base. ap (λ (o : Outcome Flow). did (steps.handling (steps.thrown_of (top m.values)) (frame_in base m)) (below m.values) o)
    (after_stop (end_of m.end) (state_of w) (steps.without_as c.args.name (frame_in base m)) (sym c.is_raised.ensures ∙ c.if-is_raised.false)))
    b.ensures.law
