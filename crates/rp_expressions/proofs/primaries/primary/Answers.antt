use Rattle.std.proofs.Common.{Ok, ap}
use Rattle.rp_engine.proofs.Answering.{put_ends, put_waits}
use Rattle.rp_engine.specs.Does as does
use Rattle.rp_meaning.specs.Expressions as forms
use Rattle.rp_store.proofs.CallerLemmas.{KeepsShape-trans}
use Rattle.rp_expressions.proofs.Found.{found_fit, put_found}
use Rattle.rp_expressions.proofs.primaries.primary.Goals as goal

pub returns-in-Ok-Some-clause-law : goal.returns-in-Ok-Some-clause-law
returns-in-Ok-Some-clause-law c =
    put_found c.in-Ok-Some.field-0 c.in-Ok-Some.value c.in-Ok-Some.field-0-is c.args.machine.now c.trailers.new.machine c.args.world.now c.leaf.new.world c.trailers.new.world c.trailers.result
    (does.expr c.args.first.now) (forms.trailers (does.trailers c.args.rest.now)) c.in-Ok-Some.ensures.law c.trailers.ensures.law

pub returns-in-Ok-None-clause-law : goal.returns-in-Ok-None-clause-law
returns-in-Ok-None-clause-law c =
    put_waits c.args.machine.now c.wait.new.self c.args.world.now c.leaf.new.world c.wait.result (does.expr c.args.first.now)
    (forms.trailers (does.trailers c.args.rest.now)) (c.in-Ok-None.ensures.none (ap Ok c.in-Ok-None.field-0-is)) c.wait.ensures.law

pub returns-in-Err-clause-law : goal.returns-in-Err-clause-law
returns-in-Err-clause-law c =
    put_ends c.args.machine.now c.no_value.new.self c.args.world.now c.leaf.new.world c.no_value.result (does.expr c.args.first.now)
    (forms.trailers (does.trailers c.args.rest.now)) c.in-Err.end c.in-Err.ensures.law c.no_value.ensures.law

pub trailers-requires-clause-value : goal.trailers-requires-clause-value
trailers-requires-clause-value c = found_fit c.in-Ok-Some.field-0 c.in-Ok-Some.value c.in-Ok-Some.field-0-is c.leaf.new.world.store.heap c.args.machine.now.frame.side c.in-Ok-Some.ensures.fit

pub returns-in-Ok-Some-clause-shape : goal.returns-in-Ok-Some-clause-shape
returns-in-Ok-Some-clause-shape c = KeepsShape-trans _ _ _ c.leaf.ensures.shape c.trailers.ensures.shape

pub trailers-requires-clause-ready : goal.trailers-requires-clause-ready
trailers-requires-clause-ready c = c.leaf.ensures.ready

pub returns-in-Ok-Some-clause-ready : goal.returns-in-Ok-Some-clause-ready
returns-in-Ok-Some-clause-ready c = c.trailers.ensures.ready

pub returns-in-Ok-None-clause-ready : goal.returns-in-Ok-None-clause-ready
returns-in-Ok-None-clause-ready c = c.wait.ensures.ready c.leaf.new.world c.leaf.ensures.ready

pub returns-in-Ok-None-clause-shape : goal.returns-in-Ok-None-clause-shape
returns-in-Ok-None-clause-shape c = c.leaf.ensures.shape

pub returns-in-Err-clause-ready : goal.returns-in-Err-clause-ready
returns-in-Err-clause-ready c = c.no_value.ensures.ready c.leaf.new.world c.leaf.ensures.ready

pub returns-in-Err-clause-shape : goal.returns-in-Err-clause-shape
returns-in-Err-clause-shape c = c.leaf.ensures.shape
