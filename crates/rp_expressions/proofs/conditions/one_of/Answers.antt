use Rattle.std.proofs.Common.{Bool, ap, sym, ◌∙◌}
use Rattle.rp_access.specs.Moment.{state_of}
use Rattle.rp_engine.specs.Does as does
use Rattle.rp_engine.specs.ExpressionSteps.{one_of}
use Rattle.rp_engine.specs.Law.{frame_in}
use Rattle.rp_engine.specs.Rest.{gave, rest}
use Rattle.rp_expressions.proofs.conditions.one_of.Goals as goal

pub returns-then-truth-clause-law : goal.returns-then-truth-clause-law
returns-then-truth-clause-law c = λ w base.
    let m = c.args.machine.now in
    c.go.ensures.law base (state_of w)
    ∙ ap (λ (b : Bool). rest m.tasks (gave (frame_in base m) m.values (one_of b (does.expr c.args.this.now) (does.expr c.args.other.now) (frame_in base m) (state_of w)))) (sym c.if-truth.true)

pub returns-else-truth-clause-law : goal.returns-else-truth-clause-law
returns-else-truth-clause-law c = λ w base.
    let m = c.args.machine.now in
    c.go-else-truth.ensures.law base (state_of w)
    ∙ ap (λ (b : Bool). rest m.tasks (gave (frame_in base m) m.values (one_of b (does.expr c.args.this.now) (does.expr c.args.other.now) (frame_in base m) (state_of w)))) (sym c.if-truth.false)
