use Rattle.std.proofs.Common.{Ok, ap}
use Rattle.rp_engine.proofs.Answering.{put_ends, put_waits}
use Rattle.rp_engine.specs.Does as does
use Rattle.rp_engine.specs.SliceSteps.{from_stride}
use Rattle.rp_store.proofs.CallerLemmas.{KeepsShape-trans}
use Rattle.rp_expressions.proofs.Found.{found_fit, put_found}
use Rattle.rp_expressions.proofs.slices.upper_at.Goals as goal

pub returns-in-Ok-Some-clause-law : goal.returns-in-Ok-Some-clause-law
returns-in-Ok-Some-clause-law c =
    put_found c.in-Ok-Some.field-0 c.in-Ok-Some.bound c.in-Ok-Some.field-0-is c.args.machine.now c.stride.new.machine c.args.world.now c.leaf.new.world c.stride.new.world c.stride.result
    (does.expr c.args.x.now) (from_stride c.args.value c.args.from (does.maybe c.args.stride.now) (does.trailers c.args.rest.now)) c.in-Ok-Some.ensures.law c.stride.ensures.law

pub returns-in-Ok-None-clause-law : goal.returns-in-Ok-None-clause-law
returns-in-Ok-None-clause-law c =
    put_waits c.args.machine.now c.wait_with_two.new.self c.args.world.now c.leaf.new.world c.wait_with_two.result (does.expr c.args.x.now)
    (from_stride c.args.value c.args.from (does.maybe c.args.stride.now) (does.trailers c.args.rest.now)) (c.in-Ok-None.ensures.none (ap Ok c.in-Ok-None.field-0-is)) c.wait_with_two.ensures.law

pub returns-in-Err-clause-law : goal.returns-in-Err-clause-law
returns-in-Err-clause-law c =
    put_ends c.args.machine.now c.no_value.new.self c.args.world.now c.leaf.new.world c.no_value.result (does.expr c.args.x.now)
    (from_stride c.args.value c.args.from (does.maybe c.args.stride.now) (does.trailers c.args.rest.now)) c.in-Err.end c.in-Err.ensures.law c.no_value.ensures.law

pub stride-requires-clause-to : goal.stride-requires-clause-to
stride-requires-clause-to c = found_fit c.in-Ok-Some.field-0 c.in-Ok-Some.bound c.in-Ok-Some.field-0-is c.leaf.new.world.store.heap c.args.machine.now.frame.side c.in-Ok-Some.ensures.fit

pub returns-in-Ok-Some-clause-shape : goal.returns-in-Ok-Some-clause-shape
returns-in-Ok-Some-clause-shape c = KeepsShape-trans _ _ _ c.leaf.ensures.shape c.stride.ensures.shape

pub stride-requires-clause-ready : goal.stride-requires-clause-ready
stride-requires-clause-ready c = c.leaf.ensures.ready

pub stride-requires-clause-value : goal.stride-requires-clause-value
stride-requires-clause-value c = c.leaf.ensures.shape.fit c.args.machine.now.frame.side c.args.value c.requires.value

pub stride-requires-clause-from : goal.stride-requires-clause-from
stride-requires-clause-from c = c.leaf.ensures.shape.fit c.args.machine.now.frame.side c.args.from c.requires.from

pub returns-in-Ok-Some-clause-ready : goal.returns-in-Ok-Some-clause-ready
returns-in-Ok-Some-clause-ready c = c.stride.ensures.ready

pub returns-in-Ok-None-clause-ready : goal.returns-in-Ok-None-clause-ready
returns-in-Ok-None-clause-ready c = c.wait_with_two.ensures.ready c.leaf.new.world c.leaf.ensures.ready (c.leaf.ensures.shape.fit c.args.machine.now.frame.side c.args.value c.requires.value) (c.leaf.ensures.shape.fit c.args.machine.now.frame.side c.args.from c.requires.from)

pub returns-in-Ok-None-clause-shape : goal.returns-in-Ok-None-clause-shape
returns-in-Ok-None-clause-shape c = c.leaf.ensures.shape

pub returns-in-Err-clause-ready : goal.returns-in-Err-clause-ready
returns-in-Err-clause-ready c = c.no_value.ensures.ready c.leaf.new.world c.leaf.ensures.ready

pub returns-in-Err-clause-shape : goal.returns-in-Err-clause-shape
returns-in-Err-clause-shape c = c.leaf.ensures.shape
