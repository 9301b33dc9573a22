use Rattle.rp_base.specs.declared.operator.BinOp.TheVariants.{Pow}
use Rattle.rp_meaning.specs.Operators.{operate}
use Rattle.rp_expressions.proofs.Resumings.{resumes_with}
use Rattle.rp_expressions.proofs.numbers.after_exponent.Goals as goal

pub returns-clause-law : goal.returns-clause-law
returns-clause-law c =
    resumes_with c.args.machine.now c.at_hand-a.new.self c.power_of.new.machine c.args.world.now c.power_of.new.world c.power_of.result
    (λ x. operate Pow x c.args.b) c.at_hand-a.result c.at_hand-a.ensures.left c.at_hand-a.ensures.value c.power_of.ensures.law
