use Rattle.rp_expressions.proofs.Callings.{argument_held}
use Rattle.rp_expressions.proofs.Spreads.{plain_calls}
use Rattle.rp_engine.specs.Does as does
use Rattle.rp_expressions.proofs.arguments.after_argument.Goals as goal

pub returns-clause-law : goal.returns-clause-law
returns-clause-law c =
    argument_held c.args.machine.now c.arguments.new.machine c.args.world.now c.arguments.new.world c.arguments.result (does.args c.args.args.now) (does.trailers c.args.rest.now)
    c.hold.new.self c.args.count c.in_ok-plain.plain c.args.value c.in_ok-hold.ensures.held c.in_ok-plain.ensures
    (plain_calls c.hold.new.self c.arguments.new.machine c.args.world.now c.arguments.new.world c.arguments.result (does.args c.args.args.now) (does.trailers c.args.rest.now) c.in_ok-plain.plain c.arguments.ensures.law)
