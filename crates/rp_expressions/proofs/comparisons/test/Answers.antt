use Rattle.std.proofs.Common.{Ok, ap}
use Rattle.rp_engine.proofs.Answering.{step_put, step_ends, step_waits}
use Rattle.rp_engine.specs.Does as does
use Rattle.rp_engine.specs.ComparisonSteps.{with_test}
use Rattle.rp_expressions.proofs.Found.{found_fit}
use Rattle.rp_store.proofs.CallerLemmas.{KeepsShape-trans}
use Rattle.rp_expressions.proofs.comparisons.test.Goals as goal

pub returns-in-Ok-Some-clause-law : goal.returns-in-Ok-Some-clause-law
returns-in-Ok-Some-clause-law c =
    let found = rw c.in-Ok-Some.field-0-is at c.in-Ok-Some.ensures.law in
    step_put c.args.machine.now c.compared.new.machine c.args.world.now c.next_leaf.new.world c.compared.new.world c.compared.result (does.expr c.args.x.now)
    (with_test c.args.test c.args.a (does.tests c.args.rest.now)) c.in-Ok-Some.b found c.compared.ensures.law

pub returns-in-Ok-None-clause-law : goal.returns-in-Ok-None-clause-law
returns-in-Ok-None-clause-law c =
    step_waits c.args.machine.now c.wait_with.new.self c.args.world.now c.next_leaf.new.world c.wait_with.result (does.expr c.args.x.now)
    (with_test c.args.test c.args.a (does.tests c.args.rest.now)) (c.in-Ok-None.ensures.none (ap Ok c.in-Ok-None.field-0-is)) c.wait_with.ensures.law

pub returns-in-Err-clause-law : goal.returns-in-Err-clause-law
returns-in-Err-clause-law c =
    step_ends c.args.machine.now c.no_value.new.self c.args.world.now c.next_leaf.new.world c.no_value.result (does.expr c.args.x.now)
    (with_test c.args.test c.args.a (does.tests c.args.rest.now)) c.in-Err.end c.in-Err.ensures.law c.no_value.ensures.law

pub compared-requires-clause-ready : goal.compared-requires-clause-ready
compared-requires-clause-ready c = c.next_leaf.ensures.ready

pub compared-requires-clause-a : goal.compared-requires-clause-a
compared-requires-clause-a c = c.next_leaf.ensures.shape.fit c.args.machine.now.frame.side c.args.a c.requires.a

pub compared-requires-clause-b : goal.compared-requires-clause-b
compared-requires-clause-b c = found_fit c.in-Ok-Some.field-0 c.in-Ok-Some.b c.in-Ok-Some.field-0-is c.next_leaf.new.world.store.heap c.args.machine.now.frame.side c.in-Ok-Some.ensures.fit

pub returns-in-Ok-Some-clause-ready : goal.returns-in-Ok-Some-clause-ready
returns-in-Ok-Some-clause-ready c = c.compared.ensures.ready

pub returns-in-Ok-Some-clause-shape : goal.returns-in-Ok-Some-clause-shape
returns-in-Ok-Some-clause-shape c = KeepsShape-trans _ _ _ c.next_leaf.ensures.shape c.compared.ensures.shape

pub returns-in-Ok-None-clause-ready : goal.returns-in-Ok-None-clause-ready
returns-in-Ok-None-clause-ready c = c.wait_with.ensures.ready c.next_leaf.new.world c.next_leaf.ensures.ready (c.next_leaf.ensures.shape.fit c.args.machine.now.frame.side c.args.a c.requires.a)

pub returns-in-Ok-None-clause-shape : goal.returns-in-Ok-None-clause-shape
returns-in-Ok-None-clause-shape c = c.next_leaf.ensures.shape

pub returns-in-Err-clause-ready : goal.returns-in-Err-clause-ready
returns-in-Err-clause-ready c = c.no_value.ensures.ready c.next_leaf.new.world c.next_leaf.ensures.ready

pub returns-in-Err-clause-shape : goal.returns-in-Err-clause-shape
returns-in-Err-clause-shape c = c.next_leaf.ensures.shape
