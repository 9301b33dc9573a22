use Rattle.rp_expressions.proofs.Definings.{function_faithful}
use Rattle.rp_engine.proofs.Gatherings.{object_made}
use Rattle.rp_engine.proofs.Namings.{new_fit}
use Rattle.rp_engine.specs.DefinitionSteps.{function_of}
use Rattle.rp_expressions.proofs.definitions.new_function.Goals as goal

pub returns-clause-law : goal.returns-clause-law
returns-clause-law c =
    let w = c.args.world.now in
    object_made w c.new_object.new.store c.new_object.result c.args.side (function_of c.args.name c.args.side c.args.block c.args.scope c.args.defaults.items)
    (c.new_object.ensures.plain w.running.meter.left)

pub returns-clause-faithful : goal.returns-clause-faithful
returns-clause-faithful c =
    function_faithful c.args.world.now c.new_object.new.store c.new_object.result c.args.side c.args.name c.args.block c.args.scope c.args.defaults.items
    c.new_object.ensures.made c.new_object.ensures.same c.requires.faithful

pub returns-clause-fit : goal.returns-clause-fit
returns-clause-fit c =
    new_fit c.new_object.result c.args.side _ c.args.world.now.store c.new_object.new.store (c.new_object.ensures.plain 0) c.new_object.ensures.made c.new_object.ensures.sound
