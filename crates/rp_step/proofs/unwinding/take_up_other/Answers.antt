use Rattle.std.proofs.Common.{◌≡◌, sym, ap, ◌∙◌}
use Rattle.rp_frame.specs.Top.{below, top}
use Rattle.rp_meaning.specs.Frame.{Run}
use Rattle.rp_meaning.specs.State.{State, broke, continued, returned}
use Rattle.rp_ops.specs.Outcome.{ends, gives}
use Rattle.rp_engine.proofs.Doings.{held_as}
use Rattle.rp_engine.proofs.Moves.{on_ok}
use Rattle.rp_engine.specs.Ends.{end_of}
use Rattle.rp_engine.specs.Law.{Takes, frame_in, rest_of}
use Rattle.rp_access.specs.Moment.{state_of}
use Rattle.rp_engine.specs.Rest.{after, begun, did, gave, rest}
use Rattle.rp_step.proofs.unwinding.take_up_other.Goals as goal

pub returns-in-Continued-clause-law : goal.returns-in-Continued-clause-law
returns-in-Continued-clause-law c =
    let m = c.args.machine.now in
    let w = c.args.world.now in
    held_as m c.with_continue.new.machine c.with_continue.new.world c.with_continue.result (λ base. after c.args.task (begun (frame_in base m) m.control m.values m.end (state_of w)))
    (λ base. after c.args.task (did (frame_in base m) m.values (gives continued (state_of w))))
    (λ base. ap (λ z. after c.args.task (begun (frame_in base m) z m.values m.end (state_of w))) c.in-Continued.is) c.with_continue.ensures.law

pub returns-in-Broke-clause-law : goal.returns-in-Broke-clause-law
returns-in-Broke-clause-law c =
    let m = c.args.machine.now in
    let w = c.args.world.now in
    held_as m c.with_break.new.machine c.with_break.new.world c.with_break.result (λ base. after c.args.task (begun (frame_in base m) m.control m.values m.end (state_of w)))
    (λ base. after c.args.task (did (frame_in base m) m.values (gives broke (state_of w))))
    (λ base. ap (λ z. after c.args.task (begun (frame_in base m) z m.values m.end (state_of w))) c.in-Broke.is) c.with_break.ensures.law

pub returns-in-NoValue-clause-law : goal.returns-in-NoValue-clause-law
returns-in-NoValue-clause-law c =
    let m = c.args.machine.now in
    let n = c.without_value.new.machine in
    let w = c.args.world.now in
    on_ok c.without_value.result ((base : Run) (s : State) → rest_of base n s ≡ rest m.tasks (after c.args.task (gave (frame_in base m) m.values (ends (end_of m.end) s)))) (Takes c.args.task m w n w)
    (λ law base. law base (state_of w) ∙ ap (λ z. rest m.tasks (after c.args.task (begun (frame_in base m) z m.values m.end (state_of w)))) (sym c.in-NoValue.is)) c.without_value.ensures.law

pub returns-in-CutOff-clause-law : goal.returns-in-CutOff-clause-law
returns-in-CutOff-clause-law c =
    let m = c.args.machine.now in
    let w = c.args.world.now in
    held_as m c.with_cut.new.machine c.with_cut.new.world c.with_cut.result (λ base. after c.args.task (begun (frame_in base m) m.control m.values m.end (state_of w)))
    (λ base. after c.args.task (did (frame_in base m) m.values (ends (end_of m.end) (state_of w))))
    (λ base. ap (λ z. after c.args.task (begun (frame_in base m) z m.values m.end (state_of w))) c.in-CutOff.is) c.with_cut.ensures.law

pub returns-in-Returned-clause-law : goal.returns-in-Returned-clause-law
returns-in-Returned-clause-law c =
    let m = c.args.machine.now in
    let w = c.args.world.now in
    held_as m c.with_return.new.machine c.with_return.new.world c.with_return.result (λ base. after c.args.task (begun (frame_in base m) m.control m.values m.end (state_of w)))
    (λ base. after c.args.task (did (frame_in base m) (below m.values) (gives (returned (top m.values)) (state_of w))))
    (λ base. ap (λ z. after c.args.task (begun (frame_in base m) z m.values m.end (state_of w))) c.in-Returned.is) c.with_return.ensures.law
