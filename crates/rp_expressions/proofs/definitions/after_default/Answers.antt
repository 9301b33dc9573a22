use Rattle.rp_expressions.proofs.Definings.{defines_next}
use Rattle.rp_engine.specs.Does as does
use Rattle.rp_expressions.proofs.definitions.after_default.Goals as goal

pub returns-clause-law : goal.returns-clause-law
returns-clause-law c =
    defines_next c.args.machine.now c.defaults.new.machine c.args.world.now c.defaults.new.world c.defaults.result c.args.name c.args.block c.args.count (does.defaults c.args.rest.now) c.args.value
    c.hold.new.self c.in_ok-count.count c.in_ok-hold.ensures.held c.in_ok-count.ensures c.defaults.ensures.law
