use Rattle.rp_engine.specs.Does as does
use Rattle.rp_expressions.proofs.Asks.{asks_plain}
use Rattle.rp_expressions.proofs.arguments.ask_call.Goals as goal

pub returns-clause-law : goal.returns-clause-law
returns-clause-law c =
    asks_plain c.args.machine.now c.wait.new.self c.args.count (does.trailers c.args.trailers.now) c.wait.result c.wait.ensures.law
