use Rattle.std.proofs.Common.{◌≡◌, Err, rules, ◌∙◌}
use Rattle.rp_access.proofs.Going.{IsEnd-same, IsEnd-then, gives-then}
use Rattle.rp_access.specs.Moment.{state_of}
use Rattle.rp_access.specs.Parts.{step_end}
use Rattle.rp_meaning.specs.State.{stepped}
use Rattle.rp_ops.specs.Outcome.{gives}
use Rattle.rp_engine.proofs.numbers.behind_steps.Goals as goal

pub returns-in_err-take_step-clause-law : goal.returns-in_err-take_step-clause-law
returns-in_err-take_step-clause-law c =
    let e : c.from_residual.result ≡ Err c.in_err-take_step.field-0.0 = search rules in
    rw e (IsEnd-then c.in_err-take_step.field-0.0 (state_of c.take_step.new.world) (step_end (state_of c.args.world.now)) (λ _ s. stepped s (λ s. stepped s (gives c.args.value)))
    c.in_err-take_step.ensures.law)

pub returns-in_err-take_step-2-clause-law : goal.returns-in_err-take_step-2-clause-law
returns-in_err-take_step-2-clause-law c =
    let e : c.from_residual-in_err-take_step-2.result ≡ Err c.in_err-take_step-2.field-0.0 = search rules in
    rw e (IsEnd-same c.in_err-take_step-2.field-0.0 (state_of c.take_step-2.new.world) _ _
    (gives-then (tt {0}) (state_of c.take_step.new.world) (step_end (state_of c.args.world.now)) (λ _ s. stepped s (λ s. stepped s (gives c.args.value))) c.in_ok-take_step.ensures.law)
    (IsEnd-then c.in_err-take_step-2.field-0.0 (state_of c.take_step-2.new.world) (step_end (state_of c.take_step.new.world)) (λ _ s. stepped s (gives c.args.value))
    c.in_err-take_step-2.ensures.law))

pub returns-in_err-take_step-3-clause-law : goal.returns-in_err-take_step-3-clause-law
returns-in_err-take_step-3-clause-law c =
    let e : c.from_residual-in_err-take_step-3.result ≡ Err c.in_err-take_step-3.field-0.0 = search rules in
    rw e (IsEnd-same c.in_err-take_step-3.field-0.0 (state_of c.take_step-3.new.world) _ _
    (gives-then (tt {0}) (state_of c.take_step.new.world) (step_end (state_of c.args.world.now)) (λ _ s. stepped s (λ s. stepped s (gives c.args.value))) c.in_ok-take_step.ensures.law
    ∙ gives-then (tt {0}) (state_of c.take_step-2.new.world) (step_end (state_of c.take_step.new.world)) (λ _ s. stepped s (gives c.args.value)) c.in_ok-take_step-2.ensures.law)
    (IsEnd-then c.in_err-take_step-3.field-0.0 (state_of c.take_step-3.new.world) (step_end (state_of c.take_step-2.new.world)) (λ _ s. gives c.args.value s)
    c.in_err-take_step-3.ensures.law))

pub returns-clause-law : goal.returns-clause-law
returns-clause-law c =
    gives-then (tt {0}) (state_of c.take_step.new.world) (step_end (state_of c.args.world.now)) (λ _ s. stepped s (λ s. stepped s (gives c.args.value))) c.in_ok-take_step.ensures.law
    ∙ gives-then (tt {0}) (state_of c.take_step-2.new.world) (step_end (state_of c.take_step.new.world)) (λ _ s. stepped s (gives c.args.value)) c.in_ok-take_step-2.ensures.law
    ∙ gives-then (tt {0}) (state_of c.take_step-3.new.world) (step_end (state_of c.take_step-2.new.world)) (λ _ s. gives c.args.value s) c.in_ok-take_step-3.ensures.law
