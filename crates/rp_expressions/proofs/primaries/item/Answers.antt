use Rattle.std.proofs.Common.{Ok, ap}
use Rattle.rp_engine.proofs.Answering.{step_ends, step_waits}
use Rattle.rp_engine.specs.Does as does
use Rattle.rp_engine.specs.TrailerSteps.{with_item}
use Rattle.rp_store.proofs.CallerLemmas.{KeepsShape-trans}
use Rattle.rp_expressions.proofs.Found.{found_fit, step_found}
use Rattle.rp_expressions.proofs.primaries.item.Goals as goal

pub returns-in-Ok-Some-clause-law : goal.returns-in-Ok-Some-clause-law
returns-in-Ok-Some-clause-law c =
    step_found c.in-Ok-Some.field-0 c.in-Ok-Some.key c.in-Ok-Some.field-0-is c.args.machine.now c.item_at.new.machine c.args.world.now c.next_leaf.new.world c.item_at.new.world c.item_at.result
    (does.expr c.args.key.now) (with_item c.args.value (does.trailers c.args.rest.now)) c.in-Ok-Some.ensures.law c.item_at.ensures.law

pub returns-in-Ok-None-clause-law : goal.returns-in-Ok-None-clause-law
returns-in-Ok-None-clause-law c =
    step_waits c.args.machine.now c.wait_with.new.self c.args.world.now c.next_leaf.new.world c.wait_with.result (does.expr c.args.key.now)
    (with_item c.args.value (does.trailers c.args.rest.now)) (c.in-Ok-None.ensures.none (ap Ok c.in-Ok-None.field-0-is)) c.wait_with.ensures.law

pub returns-in-Err-clause-law : goal.returns-in-Err-clause-law
returns-in-Err-clause-law c =
    step_ends c.args.machine.now c.no_value.new.self c.args.world.now c.next_leaf.new.world c.no_value.result (does.expr c.args.key.now)
    (with_item c.args.value (does.trailers c.args.rest.now)) c.in-Err.end c.in-Err.ensures.law c.no_value.ensures.law

pub item_at-requires-clause-key : goal.item_at-requires-clause-key
item_at-requires-clause-key c = found_fit c.in-Ok-Some.field-0 c.in-Ok-Some.key c.in-Ok-Some.field-0-is c.next_leaf.new.world.store.heap c.args.machine.now.frame.side c.in-Ok-Some.ensures.fit

pub returns-in-Ok-Some-clause-shape : goal.returns-in-Ok-Some-clause-shape
returns-in-Ok-Some-clause-shape c = KeepsShape-trans _ _ _ c.next_leaf.ensures.shape c.item_at.ensures.shape

pub item_at-requires-clause-ready : goal.item_at-requires-clause-ready
item_at-requires-clause-ready c = c.next_leaf.ensures.ready

pub item_at-requires-clause-value : goal.item_at-requires-clause-value
item_at-requires-clause-value c = c.next_leaf.ensures.shape.fit c.args.machine.now.frame.side c.args.value c.requires.value

pub returns-in-Ok-Some-clause-ready : goal.returns-in-Ok-Some-clause-ready
returns-in-Ok-Some-clause-ready c = c.item_at.ensures.ready

pub returns-in-Ok-None-clause-ready : goal.returns-in-Ok-None-clause-ready
returns-in-Ok-None-clause-ready c = c.wait_with.ensures.ready c.next_leaf.new.world c.next_leaf.ensures.ready (c.next_leaf.ensures.shape.fit c.args.machine.now.frame.side c.args.value c.requires.value)

pub returns-in-Ok-None-clause-shape : goal.returns-in-Ok-None-clause-shape
returns-in-Ok-None-clause-shape c = c.next_leaf.ensures.shape

pub returns-in-Err-clause-ready : goal.returns-in-Err-clause-ready
returns-in-Err-clause-ready c = c.no_value.ensures.ready c.next_leaf.new.world c.next_leaf.ensures.ready

pub returns-in-Err-clause-shape : goal.returns-in-Err-clause-shape
returns-in-Err-clause-shape c = c.next_leaf.ensures.shape
