use Rattle.rp_step.proofs.SpecialCalls.{enters_behind}
use Rattle.rp_step.proofs.runner.Runner.call_behind.Goals as goal

pub returns-clause-law : goal.returns-clause-law
returns-clause-law c =
    enters_behind c.args.self.now c.args.world.now c.call_function.new.world c.call_function.new.self c.call_function.result c.args.hand c.args.function c.args.at c.args.lent c.args.made
    c.callable_with-callable.result c.callable_with-callable.ensures c.call_function.ensures.law

pub call_function-requires-clause-function : goal.call_function-requires-clause-function
call_function-requires-clause-function c = c.callable_with-callable.ensures.function

pub call_function-requires-clause-receiver : goal.call_function-requires-clause-receiver
call_function-requires-clause-receiver c = c.callable_with-callable.ensures.sound
