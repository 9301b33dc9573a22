use Rattle.rp_engine.specs.ComparisonSteps.{with_test}
use Rattle.rp_engine.specs.Does as does
use Rattle.rp_expressions.proofs.Resumings.{resumes_with}
use Rattle.rp_expressions.proofs.comparisons.after_test.Goals as goal

pub returns-clause-law : goal.returns-clause-law
returns-clause-law c =
    resumes_with c.args.machine.now c.at_hand-a.new.self c.compared.new.machine c.args.world.now c.compared.new.world c.compared.result
    (λ x. with_test c.args.test x (does.tests c.args.rest.now) c.args.b) c.at_hand-a.result c.at_hand-a.ensures.left c.at_hand-a.ensures.value c.compared.ensures.law
