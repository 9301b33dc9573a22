use Rattle.rp_engine.specs.Does as does
use Rattle.rp_engine.specs.Rest.{with_operands}
use Rattle.rp_expressions.proofs.Resumings.{resumes_with}
use Rattle.rp_expressions.proofs.chains.after_operand.Goals as goal

pub returns-clause-law : goal.returns-clause-law
returns-clause-law c =
    resumes_with c.args.machine.now c.at_hand-a.new.self c.operated.new.machine c.args.world.now c.operated.new.world c.operated.result
    (λ x. with_operands c.args.op x c.args.b (does.ops c.args.rest.now)) c.at_hand-a.result c.at_hand-a.ensures.left c.at_hand-a.ensures.value c.operated.ensures.law
