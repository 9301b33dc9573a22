use Rattle.std.proofs.Common.{◌∷◌, Ok, ap}
use Rattle.rp_frame.specs.declared.display.Display.TheVariants.{Dict}
use Rattle.rp_engine.proofs.Gatherings.{gathers_end, gathers_value, gathers_waits}
use Rattle.rp_engine.specs.DisplaySteps.{parts}
use Rattle.rp_engine.specs.Does as does
use Rattle.rp_expressions.proofs.Found.{found_fit}
use Rattle.rp_expressions.proofs.dict_displays.dict_key.Goals as goal

pub returns-in-Ok-Some-clause-law : goal.returns-in-Ok-Some-clause-law
returns-in-Ok-Some-clause-law c =
    let found = rw c.in-Ok-Some.field-0-is at c.in-Ok-Some.ensures.law in
    gathers_value c.args.machine.now c.wait_with.new.self c.args.world.now c.leaf.new.world c.wait_with.result Dict c.args.count (does.expr c.args.key.now) (does.expr c.args.value.now ∷ parts (does.pairs c.args.rest.now))
    c.in-Ok-Some.k found c.wait_with.ensures.law

pub returns-in-Ok-None-clause-law : goal.returns-in-Ok-None-clause-law
returns-in-Ok-None-clause-law c =
    gathers_waits c.args.machine.now c.wait.new.self c.args.world.now c.leaf.new.world c.wait.result Dict c.args.count (does.expr c.args.key.now) (does.expr c.args.value.now ∷ parts (does.pairs c.args.rest.now))
    (c.in-Ok-None.ensures.none (ap Ok c.in-Ok-None.field-0-is)) c.wait.ensures.law

pub returns-in-Err-clause-law : goal.returns-in-Err-clause-law
returns-in-Err-clause-law c =
    gathers_end c.args.machine.now c.no_element.new.machine c.args.world.now c.leaf.new.world c.no_element.result Dict c.args.count (does.expr c.args.key.now) (does.expr c.args.value.now ∷ parts (does.pairs c.args.rest.now))
    c.in-Err.end c.in-Err.ensures.law c.no_element.ensures.law

pub returns-in-Ok-Some-clause-ready : goal.returns-in-Ok-Some-clause-ready
returns-in-Ok-Some-clause-ready c = c.wait_with.ensures.ready c.leaf.new.world c.leaf.ensures.ready (found_fit c.in-Ok-Some.field-0 c.in-Ok-Some.k c.in-Ok-Some.field-0-is c.leaf.new.world.store.heap c.args.machine.now.frame.side c.in-Ok-Some.ensures.fit)

pub returns-in-Ok-Some-clause-shape : goal.returns-in-Ok-Some-clause-shape
returns-in-Ok-Some-clause-shape c = c.leaf.ensures.shape

pub returns-in-Ok-None-clause-ready : goal.returns-in-Ok-None-clause-ready
returns-in-Ok-None-clause-ready c = c.wait.ensures.ready c.leaf.new.world c.leaf.ensures.ready

pub returns-in-Ok-None-clause-shape : goal.returns-in-Ok-None-clause-shape
returns-in-Ok-None-clause-shape c = c.leaf.ensures.shape

pub returns-in-Err-clause-ready : goal.returns-in-Err-clause-ready
returns-in-Err-clause-ready c = c.no_element.ensures.ready c.leaf.new.world c.leaf.ensures.ready

pub returns-in-Err-clause-shape : goal.returns-in-Err-clause-shape
returns-in-Err-clause-shape c = c.leaf.ensures.shape
