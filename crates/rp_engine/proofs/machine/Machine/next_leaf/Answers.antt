use Rattle.std.proofs.Common.{◌≡◌, Err, rules, ◌∙◌, ap, sym}
use Rattle.rp_ops.specs.Outcome.{gives}
use Rattle.rp_access.proofs.Known.{ComesIfAny-same}
use Rattle.rp_access.proofs.Going.{gives-then, IsEnd-then}
use Rattle.rp_engine.proofs.Worlds.{IsReady-stored}
use Rattle.rp_engine.specs.Does as does
use Rattle.rp_engine.specs.Law.{frame_in}
use Rattle.rp_access.specs.Moment.{state_of}
use Rattle.rp_access.specs.Parts.{step_end}
use Rattle.rp_engine.proofs.machine.Machine.next_leaf.Goals as goal

pub returns-in_err-take_step-clause-law : goal.returns-in_err-take_step-clause-law
returns-in_err-take_step-clause-law c =
    let e : c.from_residual.result ≡ Err c.in_err-take_step.field-0.0 = search rules in
    λ base. rw e (IsEnd-then c.in_err-take_step.field-0.0 (state_of c.take_step.new.world) (step_end (state_of c.args.world.now)) (λ _ s. does.expr c.args.x.now (frame_in base c.args.self.now) s) c.in_err-take_step.ensures.law)

pub returns-in_err-take_step-clause-ready : goal.returns-in_err-take_step-clause-ready
returns-in_err-take_step-clause-ready c = IsReady-stored _ _ _ c.args.world.now c.take_step.new.world c.requires.ready c.take_step.ensures.store (c.take_step.ensures.faithful c.requires.ready.faithful)

pub returns-clause-law : goal.returns-clause-law
returns-clause-law c = λ base.
    ComesIfAny-same c.leaf.result (state_of c.leaf.new.world) _ _
    (gives-then (tt {0}) (state_of c.take_step.new.world) _ (λ _ s. does.expr c.args.x.now (frame_in base c.args.self.now) s) c.in_ok-take_step.ensures.law) (c.leaf.ensures.law base)

pub returns-clause-none : goal.returns-clause-none
returns-clause-none c = λ is. c.in_ok-take_step.ensures.law ∙ ap (λ w. gives (tt {0}) (state_of w)) (sym (c.leaf.ensures.none is))

pub returns-clause-ready : goal.returns-clause-ready
returns-clause-ready c = c.leaf.ensures.ready
