use Rattle.std.proofs.Common.{ap, ◌∙◌}
use Rattle.rp_frame.specs.Top.{below, top}
use Rattle.rp_meaning.specs.State.{State}
use Rattle.rp_access.specs.Moment.{state_of}
use Rattle.rp_engine.proofs.Worlds.{IsReady-goes}
use Rattle.rp_engine.specs.Handling as steps
use Rattle.rp_engine.specs.Law.{frame_in}
use Rattle.rp_engine.specs.Rest.{begun, rest}
use Rattle.rp_statements.proofs.handling.behind_handler.Goals as goal

pub returns-clause-law : goal.returns-clause-law
returns-clause-law c = λ base.
    let m = c.args.machine.now in
    c.end_handler.ensures.law base (state_of c.unbind_as.new.world)
    ∙ ap (λ (s : State). rest m.tasks (begun (steps.handling (steps.thrown_of (top m.values)) (frame_in base m)) c.args.control (below m.values) m.end s)) (c.unbind_as.ensures.law base)

pub returns-clause-ready : goal.returns-clause-ready
returns-clause-ready c =
    c.end_handler.ensures.ready c.unbind_as.new.world (IsReady-goes _ _ _ c.args.world.now c.unbind_as.new.world c.requires.ready c.unbind_as.ensures.shape c.unbind_as.ensures.faithful)
