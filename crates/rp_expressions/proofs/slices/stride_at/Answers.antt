use Rattle.std.proofs.Common.{Ok, ap}
use Rattle.rp_engine.proofs.Answering.{put_ends, put_waits}
use Rattle.rp_engine.specs.Does as does
use Rattle.rp_engine.specs.SliceSteps.{with_slice}
use Rattle.rp_store.proofs.CallerLemmas.{KeepsShape-trans}
use Rattle.rp_expressions.proofs.Found.{put_found}
use Rattle.rp_expressions.proofs.slices.stride_at.Goals as goal

pub returns-in-Ok-Some-clause-law : goal.returns-in-Ok-Some-clause-law
returns-in-Ok-Some-clause-law c =
    put_found c.in-Ok-Some.field-0 c.in-Ok-Some.stride c.in-Ok-Some.field-0-is c.args.machine.now c.slice_of.new.machine c.args.world.now c.leaf.new.world c.slice_of.new.world c.slice_of.result
    (does.expr c.args.x.now) (with_slice c.args.value c.args.from c.args.to (does.trailers c.args.rest.now)) c.in-Ok-Some.ensures.law c.slice_of.ensures.law

pub returns-in-Ok-None-clause-law : goal.returns-in-Ok-None-clause-law
returns-in-Ok-None-clause-law c =
    put_waits c.args.machine.now c.wait_with_three.new.self c.args.world.now c.leaf.new.world c.wait_with_three.result (does.expr c.args.x.now)
    (with_slice c.args.value c.args.from c.args.to (does.trailers c.args.rest.now)) (c.in-Ok-None.ensures.none (ap Ok c.in-Ok-None.field-0-is)) c.wait_with_three.ensures.law

pub returns-in-Err-clause-law : goal.returns-in-Err-clause-law
returns-in-Err-clause-law c =
    put_ends c.args.machine.now c.no_value.new.self c.args.world.now c.leaf.new.world c.no_value.result (does.expr c.args.x.now)
    (with_slice c.args.value c.args.from c.args.to (does.trailers c.args.rest.now)) c.in-Err.end c.in-Err.ensures.law c.no_value.ensures.law

pub returns-in-Ok-Some-clause-shape : goal.returns-in-Ok-Some-clause-shape
returns-in-Ok-Some-clause-shape c = KeepsShape-trans _ _ _ c.leaf.ensures.shape c.slice_of.ensures.shape

pub slice_of-requires-clause-ready : goal.slice_of-requires-clause-ready
slice_of-requires-clause-ready c = c.leaf.ensures.ready

pub slice_of-requires-clause-value : goal.slice_of-requires-clause-value
slice_of-requires-clause-value c = c.leaf.ensures.shape.fit c.args.machine.now.frame.side c.args.value c.requires.value

pub returns-in-Ok-Some-clause-ready : goal.returns-in-Ok-Some-clause-ready
returns-in-Ok-Some-clause-ready c = c.slice_of.ensures.ready

pub returns-in-Ok-None-clause-ready : goal.returns-in-Ok-None-clause-ready
returns-in-Ok-None-clause-ready c = c.wait_with_three.ensures.ready c.leaf.new.world c.leaf.ensures.ready (c.leaf.ensures.shape.fit c.args.machine.now.frame.side c.args.value c.requires.value) (c.leaf.ensures.shape.fit c.args.machine.now.frame.side c.args.from c.requires.from) (c.leaf.ensures.shape.fit c.args.machine.now.frame.side c.args.to c.requires.to)

pub returns-in-Ok-None-clause-shape : goal.returns-in-Ok-None-clause-shape
returns-in-Ok-None-clause-shape c = c.leaf.ensures.shape

pub returns-in-Err-clause-ready : goal.returns-in-Err-clause-ready
returns-in-Err-clause-ready c = c.no_value.ensures.ready c.leaf.new.world c.leaf.ensures.ready

pub returns-in-Err-clause-shape : goal.returns-in-Err-clause-shape
returns-in-Err-clause-shape c = c.leaf.ensures.shape
