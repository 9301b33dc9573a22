use Rattle.rp_step.proofs.CalledObjects.{function_there}
use Rattle.rp_step.proofs.callables.function_at.Goals as goal

pub returns-clause-function : goal.returns-clause-function
returns-clause-function c =
    function_there c.args.store.now.heap c.object.result.now _ _ _ c.object.ensures.content c.in-Function.is c.object.ensures.holds
