use Rattle.std.proofs.Common.{ap, ◌∙◌}
use Rattle.rp_meaning.specs.Exceptions as exception
use Rattle.rp_meaning.specs.State.{choose}
use Rattle.rp_access.proofs.Going.{IsEnd-then, gives-then}
use Rattle.rp_access.specs.Moment.{state_of}
use Rattle.rp_engine.proofs.Doings.{does_as, does_end}
use Rattle.rp_engine.specs.Does as does
use Rattle.rp_engine.specs.Handling as steps
use Rattle.rp_engine.specs.Law.{frame_in}
use Rattle.rp_statements.proofs.handling.if_takes.Goals as goal

pub returns-in-Ok-true-clause-law : goal.returns-in-Ok-true-clause-law
returns-in-Ok-true-clause-law c =
    let m = c.args.machine.now in
    let w = c.args.world.now in
    let h = does.handler c.args.handler.now in
    let hs = does.handlers c.args.behind.now in
    let r = c.args.raised in
    does_as m c.begin_handler.new.machine w c.begin_handler.new.world c.begin_handler.result (steps.if_takes h hs r c.args.value) (exception.handled h.name h.body r) w
    (λ base. gives-then c.in-Ok-true.field-0 (state_of w) _ (λ b s. choose b (exception.handled h.name h.body r (frame_in base m)) (exception.handle hs r (frame_in base m)) s)
    c.in-Ok-true.ensures
    ∙ ap (λ b. choose b (exception.handled h.name h.body r (frame_in base m)) (exception.handle hs r (frame_in base m)) (state_of w)) c.in-Ok-true.field-0-test) c.begin_handler.ensures.law

pub returns-in-Ok-false-clause-law : goal.returns-in-Ok-false-clause-law
returns-in-Ok-false-clause-law c =
    let m = c.args.machine.now in
    let w = c.args.world.now in
    let h = does.handler c.args.handler.now in
    let hs = does.handlers c.args.behind.now in
    let r = c.args.raised in
    does_as m c.handle.new.machine w c.handle.new.world c.handle.result (steps.if_takes h hs r c.args.value) (exception.handle hs r) w
    (λ base. gives-then c.in-Ok-false.field-0 (state_of w) _ (λ b s. choose b (exception.handled h.name h.body r (frame_in base m)) (exception.handle hs r (frame_in base m)) s)
    c.in-Ok-false.ensures
    ∙ ap (λ b. choose b (exception.handled h.name h.body r (frame_in base m)) (exception.handle hs r (frame_in base m)) (state_of w)) c.in-Ok-false.field-0-test) c.handle.ensures.law

pub returns-clause-law : goal.returns-clause-law
returns-clause-law c =
    let m = c.args.machine.now in
    let w = c.args.world.now in
    let h = does.handler c.args.handler.now in
    let hs = does.handlers c.args.behind.now in
    let r = c.args.raised in
    does_end m c.cut_off.new.self w w c.cut_off.result (steps.if_takes h hs r c.args.value) c.in-Err.end
    (λ base. IsEnd-then c.in-Err.end (state_of w) _ (λ b s. choose b (exception.handled h.name h.body r (frame_in base m)) (exception.handle hs r (frame_in base m)) s)
    c.in-Err.ensures) c.cut_off.ensures.law
