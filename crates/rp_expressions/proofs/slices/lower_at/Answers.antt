use Rattle.std.proofs.Common.{Ok, ap}
use Rattle.rp_engine.proofs.Answering.{put_ends, put_waits}
use Rattle.rp_engine.specs.Does as does
use Rattle.rp_engine.specs.SliceSteps.{from_upper}
use Rattle.rp_store.proofs.CallerLemmas.{KeepsShape-trans}
use Rattle.rp_expressions.proofs.Found.{found_fit, put_found}
use Rattle.rp_expressions.proofs.slices.lower_at.Goals as goal

pub returns-in-Ok-Some-clause-law : goal.returns-in-Ok-Some-clause-law
returns-in-Ok-Some-clause-law c =
    put_found c.in-Ok-Some.field-0 c.in-Ok-Some.bound c.in-Ok-Some.field-0-is c.args.machine.now c.upper.new.machine c.args.world.now c.leaf.new.world c.upper.new.world c.upper.result
    (does.expr c.args.x.now) (from_upper c.args.value (does.maybe c.args.to.now) (does.maybe c.args.stride.now) (does.trailers c.args.rest.now)) c.in-Ok-Some.ensures.law c.upper.ensures.law

pub returns-in-Ok-None-clause-law : goal.returns-in-Ok-None-clause-law
returns-in-Ok-None-clause-law c =
    put_waits c.args.machine.now c.wait_with.new.self c.args.world.now c.leaf.new.world c.wait_with.result (does.expr c.args.x.now)
    (from_upper c.args.value (does.maybe c.args.to.now) (does.maybe c.args.stride.now) (does.trailers c.args.rest.now)) (c.in-Ok-None.ensures.none (ap Ok c.in-Ok-None.field-0-is)) c.wait_with.ensures.law

pub returns-in-Err-clause-law : goal.returns-in-Err-clause-law
returns-in-Err-clause-law c =
    put_ends c.args.machine.now c.no_value.new.self c.args.world.now c.leaf.new.world c.no_value.result (does.expr c.args.x.now)
    (from_upper c.args.value (does.maybe c.args.to.now) (does.maybe c.args.stride.now) (does.trailers c.args.rest.now)) c.in-Err.end c.in-Err.ensures.law c.no_value.ensures.law

pub upper-requires-clause-from : goal.upper-requires-clause-from
upper-requires-clause-from c = found_fit c.in-Ok-Some.field-0 c.in-Ok-Some.bound c.in-Ok-Some.field-0-is c.leaf.new.world.store.heap c.args.machine.now.frame.side c.in-Ok-Some.ensures.fit

pub returns-in-Ok-Some-clause-shape : goal.returns-in-Ok-Some-clause-shape
returns-in-Ok-Some-clause-shape c = KeepsShape-trans _ _ _ c.leaf.ensures.shape c.upper.ensures.shape

pub upper-requires-clause-ready : goal.upper-requires-clause-ready
upper-requires-clause-ready c = c.leaf.ensures.ready

pub upper-requires-clause-value : goal.upper-requires-clause-value
upper-requires-clause-value c = c.leaf.ensures.shape.fit c.args.machine.now.frame.side c.args.value c.requires.value

pub returns-in-Ok-Some-clause-ready : goal.returns-in-Ok-Some-clause-ready
returns-in-Ok-Some-clause-ready c = c.upper.ensures.ready

pub returns-in-Ok-None-clause-ready : goal.returns-in-Ok-None-clause-ready
returns-in-Ok-None-clause-ready c = c.wait_with.ensures.ready c.leaf.new.world c.leaf.ensures.ready (c.leaf.ensures.shape.fit c.args.machine.now.frame.side c.args.value c.requires.value)

pub returns-in-Ok-None-clause-shape : goal.returns-in-Ok-None-clause-shape
returns-in-Ok-None-clause-shape c = c.leaf.ensures.shape

pub returns-in-Err-clause-ready : goal.returns-in-Err-clause-ready
returns-in-Err-clause-ready c = c.no_value.ensures.ready c.leaf.new.world c.leaf.ensures.ready

pub returns-in-Err-clause-shape : goal.returns-in-Err-clause-shape
returns-in-Err-clause-shape c = c.leaf.ensures.shape
