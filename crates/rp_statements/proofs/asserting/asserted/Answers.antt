use Rattle.std.proofs.Common.{ap, ◌∙◌}
use Rattle.rp_meaning.specs.State.{choose, next}
use Rattle.rp_meaning.specs.Statements as forms
use Rattle.rp_engine.proofs.Doings.{does_any, does_end, does_moves}
use Rattle.rp_targets.proofs.Steps.{truth_ends, truth_gives}
use Rattle.rp_engine.proofs.Worlds.{IsReady-goes}
use Rattle.rp_engine.specs.Does as does
use Rattle.rp_engine.specs.Law.{frame_in}
use Rattle.rp_access.specs.Moment.{state_of}
use Rattle.rp_engine.specs.Rest.{asserted}
use Rattle.rp_statements.proofs.asserting.asserted.Goals as goal

pub returns-in-Ok-true-clause-law : goal.returns-in-Ok-true-clause-law
returns-in-Ok-true-clause-law c =
    let m = c.args.machine.now in
    let w = c.args.world.now in
    let u = c.truth.new.world in
    let message = does.maybe c.args.message.now in
    does_moves m c.go.new.self w u c.go.result (asserted c.args.value message) (forms.leave next)
    (λ base. truth_gives m w u c.args.value (forms.leave next) (forms.failed message) c.in-Ok-true.field-0 c.in-Ok-true.ensures.law base
    ∙ ap (λ z. choose z (forms.leave next (frame_in base m)) (forms.failed message (frame_in base m)) (state_of u)) c.in-Ok-true.field-0-test) c.go.ensures.law

pub returns-in-Ok-false-clause-law : goal.returns-in-Ok-false-clause-law
returns-in-Ok-false-clause-law c =
    let m = c.args.machine.now in
    let w = c.args.world.now in
    let u = c.truth.new.world in
    let message = does.maybe c.args.message.now in
    does_any m c.fail.new.machine w u c.fail.result (asserted c.args.value message) (forms.failed message)
    (λ base. truth_gives m w u c.args.value (forms.leave next) (forms.failed message) c.in-Ok-false.field-0 c.in-Ok-false.ensures.law base
    ∙ ap (λ z. choose z (forms.leave next (frame_in base m)) (forms.failed message (frame_in base m)) (state_of u)) c.in-Ok-false.field-0-test) c.fail.ensures.law

pub returns-clause-law : goal.returns-clause-law
returns-clause-law c =
    let m = c.args.machine.now in
    let w = c.args.world.now in
    let u = c.truth.new.world in
    let message = does.maybe c.args.message.now in
    does_end m c.cut_off.new.self w u c.cut_off.result (asserted c.args.value message) c.in-Err.end
    (truth_ends m w u c.args.value (forms.leave next) (forms.failed message) c.in-Err.end c.in-Err.ensures.law) c.cut_off.ensures.law

pub returns-in-Ok-true-clause-ready : goal.returns-in-Ok-true-clause-ready
returns-in-Ok-true-clause-ready c =
    c.go.ensures.ready c.truth.new.world (IsReady-goes _ _ _ c.args.world.now c.truth.new.world c.requires.ready c.truth.ensures.shape c.truth.ensures.faithful)

pub returns-in-Ok-false-clause-ready : goal.returns-in-Ok-false-clause-ready
returns-in-Ok-false-clause-ready c =
    c.fail.ensures.ready c.truth.new.world (IsReady-goes _ _ _ c.args.world.now c.truth.new.world c.requires.ready c.truth.ensures.shape c.truth.ensures.faithful)

pub returns-clause-ready : goal.returns-clause-ready
returns-clause-ready c =
    c.cut_off.ensures.ready c.truth.new.world (IsReady-goes _ _ _ c.args.world.now c.truth.new.world c.requires.ready c.truth.ensures.shape c.truth.ensures.faithful)
