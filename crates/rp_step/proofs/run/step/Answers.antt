use Rattle.std.proofs.Common.{refl, sym, ap, ◌∙◌}
use Rattle.rp_engine.specs.Law.{frame_in}
use Rattle.rp_access.specs.Moment.{state_of}
use Rattle.rp_engine.specs.Rest.{begun, rest}
use Rattle.rp_step.proofs.run.step.Goals as goal

pub returns-in_ok-expression-in-Expression-clause-law : goal.returns-in_ok-expression-in-Expression-clause-law
returns-in_ok-expression-in-Expression-clause-law c = λ base.
    let m = c.args.machine.now in
    c.in_ok-expression-in-Expression.ensures.law base ∙ ap (λ z. rest m.tasks (begun (frame_in base m) z m.values m.end (state_of c.args.world.now))) (sym c.in-Expression.is)

pub returns-in_ok-statement-in-Statement-clause-law : goal.returns-in_ok-statement-in-Statement-clause-law
returns-in_ok-statement-in-Statement-clause-law c = λ base.
    let m = c.args.machine.now in
    c.in_ok-statement-in-Statement.ensures.law base ∙ ap (λ z. rest m.tasks (begun (frame_in base m) z m.values m.end (state_of c.args.world.now))) (sym c.in-Statement.is)

pub returns-in_ok-block-in-Block-clause-law : goal.returns-in_ok-block-in-Block-clause-law
returns-in_ok-block-in-Block-clause-law c = λ base.
    let m = c.args.machine.now in
    c.in_ok-block-in-Block.ensures.law c.args.world.now base ∙ ap (λ z. rest m.tasks (begun (frame_in base m) z m.values m.end (state_of c.args.world.now))) (sym c.in-Block.is)

pub returns-in-Call-clause-law : goal.returns-in-Call-clause-law
returns-in-Call-clause-law c = λ base. refl

pub returns-in-Special-clause-law : goal.returns-in-Special-clause-law
returns-in-Special-clause-law c = λ base. refl

pub returns-in-Comprehension-clause-law : goal.returns-in-Comprehension-clause-law
returns-in-Comprehension-clause-law c = λ base. refl
