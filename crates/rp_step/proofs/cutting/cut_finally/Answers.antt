use Rattle.std.proofs.Common.{refl, sym, ap, ◌∙◌}
use Rattle.rp_base.specs.declared.value.Value.{Value}
use Rattle.rp_frame.specs.declared.control.Control.TheVariants as control
use Rattle.rp_frame.specs.declared.leaving.Leaving.TheVariants as leaving
use Rattle.rp_meaning.specs.Frame.{Doing}
use Rattle.rp_ops.specs.Outcome.{End, ends}
use Rattle.rp_engine.proofs.Doings.{always}
use Rattle.rp_statements.proofs.Handlings.{cut_ready, finished_stop, kept_is, moves_as, moves_cut, moves_kept, thrown_fit}
use Rattle.rp_engine.proofs.Moves.{on_ok}
use Rattle.rp_engine.specs.Does as does
use Rattle.rp_engine.specs.Ends.{end_of}
use Rattle.rp_engine.specs.Handling as steps
use Rattle.rp_engine.specs.Law.{Moves, frame_in}
use Rattle.rp_step.proofs.cutting.cut_finally.Goals as goal

pub returns-in-Some-clause-law : goal.returns-in-Some-clause-law
returns-in-Some-clause-law c =
    let m = c.args.machine.now in
    let p = c.take_raised.new.machine in
    let n = c.finish.new.machine in
    let last = does.block c.args.last.now in
    let done : Doing = steps.finished_by last leaving.Raised c.thrown.result in
    moves_as m n c.finish.result (steps.finished last (end_of m.end)) done
    (λ base s. ap (λ (e : End). steps.finished last e (frame_in base m) s) c.in-Some.ensures.raised
    ∙ ap (λ (v : Value). steps.finished_by last leaving.Raised v (frame_in base m) s) (sym c.thrown.ensures))
    (on_ok c.finish.result (Moves done p n) (Moves done m n) (moves_cut m p n c.in-Some.ensures.same done) c.finish.ensures.law)

pub returns-in-None-clause-law : goal.returns-in-None-clause-law
returns-in-None-clause-law c =
    let m = c.args.machine.now in
    let p = c.take_raised.new.machine in
    let n = c.go.new.self in
    let last = does.block c.args.last.now in
    let stop : Doing = λ f s. ends (end_of m.end) s in
    moves_as m n c.go.result (steps.finished last (end_of m.end)) stop
    (λ base s. finished_stop last (end_of m.end) (frame_in base m) s (c.in-None.ensures.stop refl))
    (always c.go.result (Moves stop m n) (moves_kept m p n control.CutOff (kept_is m p n c.in-None.ensures.same (c.in-None.ensures.kept refl)) c.go.ensures.law))

pub returns-in-Some-clause-ready : goal.returns-in-Some-clause-ready
returns-in-Some-clause-ready c = λ w h.
    let m = c.args.machine.now in
    let p = c.take_raised.new.machine in
    c.finish.ensures.ready w (cut_ready m p p c.take_raised.ensures.same w h) (thrown_fit w.store.heap p.frame.side c.thrown.result c.in-Some.raised c.thrown.ensures)

pub returns-in-None-clause-ready : goal.returns-in-None-clause-ready
returns-in-None-clause-ready c = λ w h.
    let m = c.args.machine.now in
    let p = c.take_raised.new.machine in
    c.go.ensures.ready w (cut_ready m p p c.take_raised.ensures.same w h)
