use Rattle.std.proofs.Common.{◌∙◌}
use Rattle.rp_base.specs.declared.kind.Kind.TheVariants.{AssertionError}
use Rattle.rp_base.specs.declared.value.OpEnd.TheVariants as end
use Rattle.rp_ops.specs.Outcome.{raises}
use Rattle.rp_statements.proofs.Assertions.{failed_shown}
use Rattle.rp_engine.proofs.Doings.{does_end}
use Rattle.rp_access.proofs.Going.{IsEnd-same, IsEnd-then, gives-then}
use Rattle.rp_access.specs.Moment.{state_of}
use Rattle.rp_engine.specs.Rest.{failed_with}
use Rattle.rp_engine.proofs.Worlds.{IsReady-goes}
use Rattle.rp_statements.proofs.asserting.fail_with.Goals as goal

pub returns-in-Ok-clause-law : goal.returns-in-Ok-clause-law
returns-in-Ok-clause-law c =
    let m = c.args.machine.now in
    let w = c.args.world.now in
    let u = c.text_of.new.world in
    does_end m c.cut_off.new.self w u c.cut_off.result (failed_with c.args.message) (end.Raised (record { kind = AssertionError; text = c.in-Ok.text }))
    (λ base. failed_shown base m.units.now m.frame c.args.message (state_of w)
    ∙ gives-then c.in-Ok.text (state_of u) _ (λ t s. raises AssertionError t s) c.in-Ok.ensures.law) c.cut_off.ensures.law

pub returns-clause-law : goal.returns-clause-law
returns-clause-law c =
    let m = c.args.machine.now in
    let w = c.args.world.now in
    let u = c.text_of.new.world in
    does_end m c.cut_off-in-Err.new.self w u c.cut_off-in-Err.result (failed_with c.args.message) c.in-Err.end
    (λ base. IsEnd-same c.in-Err.end (state_of u) _ _ (failed_shown base m.units.now m.frame c.args.message (state_of w))
    (IsEnd-then c.in-Err.end (state_of u) _ (λ t s. raises AssertionError t s) c.in-Err.ensures.law)) c.cut_off-in-Err.ensures.law

pub returns-in-Ok-clause-ready : goal.returns-in-Ok-clause-ready
returns-in-Ok-clause-ready c =
    c.cut_off.ensures.ready c.text_of.new.world (IsReady-goes _ _ _ c.args.world.now c.text_of.new.world c.requires.ready c.text_of.ensures.shape c.text_of.ensures.faithful)

pub returns-clause-ready : goal.returns-clause-ready
returns-clause-ready c =
    c.cut_off-in-Err.ensures.ready c.text_of.new.world (IsReady-goes _ _ _ c.args.world.now c.text_of.new.world c.requires.ready c.text_of.ensures.shape c.text_of.ensures.faithful)
