use Rattle.rp_expressions.proofs.LaterArguments.{later_held}
use Rattle.rp_engine.specs.Does as does
use Rattle.rp_expressions.proofs.later_arguments.plain_over.Goals as goal

pub arguments-requires : goal.arguments-requires
arguments-requires c = record { ready = c.hold_plain.ensures.ready c.args.world.now c.requires.ready c.requires.fit }

pub returns-clause-law : goal.returns-clause-law
returns-clause-law c =
    later_held c.args.machine.now c.arguments.new.machine c.args.world.now c.arguments.new.world c.arguments.result (does.args c.args.args.now) (does.trailers c.args.trailers.now)
    c.args.hand c.args.values.items c.in_ok-all.all c.hold_plain.new.machine c.in_ok-all.ensures.plain c.in_ok-all.ensures.named c.in_ok-all.ensures.held c.arguments.ensures.law
