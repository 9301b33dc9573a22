use Rattle.std.proofs.Common.{refl, ap}
use Rattle.rp_frame.specs.declared.control.Control.TheVariants as control
use Rattle.rp_meaning.specs.Exceptions as exception
use Rattle.rp_meaning.specs.Frame.{Doing}
use Rattle.rp_ops.specs.Outcome.{End, ends}
use Rattle.rp_engine.proofs.Doings.{does_as, does_moves}
use Rattle.rp_statements.proofs.Handlings.{caught_stop, cut_ready, executes_cut, kept_is, moves_kept}
use Rattle.rp_engine.proofs.Moves.{on_ok}
use Rattle.rp_engine.specs.Does as does
use Rattle.rp_engine.specs.Ends.{end_of}
use Rattle.rp_engine.specs.Handling as steps
use Rattle.rp_engine.specs.Law.{Executes, frame_in}
use Rattle.rp_access.specs.Moment.{state_of}
use Rattle.rp_step.proofs.cutting.catch.Goals as goal

pub handle-requires : goal.handle-requires
handle-requires c = record { ready = cut_ready c.args.machine.now c.take_raised.new.machine c.take_raised.new.machine c.take_raised.ensures.same c.args.world.now c.requires.ready }

pub returns-in-Some-clause-law : goal.returns-in-Some-clause-law
returns-in-Some-clause-law c =
    let m = c.args.machine.now in
    let p = c.take_raised.new.machine in
    let n = c.handle.new.machine in
    let w = c.args.world.now in
    let v = c.handle.new.world in
    let hs = does.handlers c.args.handlers.now in
    let r = c.in-Some.raised in
    does_as m n w v c.handle.result (steps.caught hs (end_of m.end)) (exception.handle hs r) w
    (λ base. ap (λ (e : End). steps.caught hs e (frame_in base m) (state_of w)) c.in-Some.ensures.raised)
    (on_ok c.handle.result (Executes (exception.handle hs r) p w n v) (Executes (exception.handle hs r) m w n v)
    (executes_cut m p n c.in-Some.ensures.same (exception.handle hs r) w v) c.handle.ensures.law)

pub returns-in-None-clause-law : goal.returns-in-None-clause-law
returns-in-None-clause-law c =
    let m = c.args.machine.now in
    let p = c.take_raised.new.machine in
    let n = c.go.new.self in
    let w = c.args.world.now in
    let hs = does.handlers c.args.handlers.now in
    let stop : Doing = λ f s. ends (end_of m.end) s in
    does_moves m n w w c.go.result (steps.caught hs (end_of m.end)) stop
    (λ base. caught_stop hs (end_of m.end) (frame_in base m) (state_of w) (c.in-None.ensures.stop refl))
    (moves_kept m p n control.CutOff (kept_is m p n c.in-None.ensures.same (c.in-None.ensures.kept refl)) c.go.ensures.law)

pub returns-in-None-clause-ready : goal.returns-in-None-clause-ready
returns-in-None-clause-ready c =
    c.go.ensures.ready c.args.world.now (cut_ready c.args.machine.now c.take_raised.new.machine c.take_raised.new.machine c.take_raised.ensures.same c.args.world.now c.requires.ready)
