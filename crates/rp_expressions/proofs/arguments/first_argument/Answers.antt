use Rattle.rp_expressions.proofs.Callings.{begins}
use Rattle.rp_expressions.proofs.Spreads.{plain_calls}
use Rattle.rp_engine.specs.Does as does
use Rattle.rp_expressions.proofs.arguments.first_argument.Goals as goal

pub returns-clause-law : goal.returns-clause-law
returns-clause-law c =
    begins c.args.machine.now c.arguments.new.machine c.args.world.now c.arguments.new.world c.arguments.result (does.args c.args.args.now) (does.trailers c.args.rest.now)
    c.hold.new.self c.args.f c.in_ok-hold.ensures.held
    (plain_calls c.hold.new.self c.arguments.new.machine c.args.world.now c.arguments.new.world c.arguments.result (does.args c.args.args.now) (does.trailers c.args.rest.now) 0 c.arguments.ensures.law)
