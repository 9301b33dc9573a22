use Rattle.rp_engine.specs.Does as does
use Rattle.rp_engine.specs.TrailerSteps.{with_item}
use Rattle.rp_expressions.proofs.Resumings.{resumes_with}
use Rattle.rp_expressions.proofs.primaries.after_key.Goals as goal

pub returns-clause-law : goal.returns-clause-law
returns-clause-law c =
    resumes_with c.args.machine.now c.at_hand-value.new.self c.item_at.new.machine c.args.world.now c.item_at.new.world c.item_at.result
    (λ x. with_item x (does.trailers c.args.rest.now) c.args.key) c.at_hand-value.result c.at_hand-value.ensures.left c.at_hand-value.ensures.value c.item_at.ensures.law
