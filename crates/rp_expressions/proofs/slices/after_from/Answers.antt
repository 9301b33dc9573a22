use Rattle.rp_engine.specs.Does as does
use Rattle.rp_engine.specs.SliceSteps.{from_upper}
use Rattle.rp_expressions.proofs.Resumings.{resumes_with}
use Rattle.rp_expressions.proofs.slices.after_from.Goals as goal

pub returns-clause-law : goal.returns-clause-law
returns-clause-law c =
    resumes_with c.args.machine.now c.at_hand-value.new.self c.upper.new.machine c.args.world.now c.upper.new.world c.upper.result
    (λ x. from_upper x (does.maybe c.args.to.now) (does.maybe c.args.stride.now) (does.trailers c.args.rest.now) c.args.from) c.at_hand-value.result c.at_hand-value.ensures.left c.at_hand-value.ensures.value c.upper.ensures.law
