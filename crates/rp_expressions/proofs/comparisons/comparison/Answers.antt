use Rattle.std.proofs.Common.{Ok, ap}
use Rattle.rp_engine.proofs.Answering.{put, put_ends, put_waits}
use Rattle.rp_engine.specs.Does as does
use Rattle.rp_meaning.specs.Expressions as forms
use Rattle.rp_expressions.proofs.Found.{found_fit}
use Rattle.rp_store.proofs.CallerLemmas.{KeepsShape-trans}
use Rattle.rp_expressions.proofs.comparisons.comparison.Goals as goal

pub returns-in-Ok-Some-clause-law : goal.returns-in-Ok-Some-clause-law
returns-in-Ok-Some-clause-law c =
    let found = rw c.in-Ok-Some.field-0-is at c.in-Ok-Some.ensures.law in
    put c.args.machine.now c.tests.new.machine c.args.world.now c.leaf.new.world c.tests.new.world c.tests.result (does.expr c.args.first.now)
    (forms.tests (does.tests c.args.rest.now)) c.in-Ok-Some.a found c.tests.ensures.law

pub returns-in-Ok-None-clause-law : goal.returns-in-Ok-None-clause-law
returns-in-Ok-None-clause-law c =
    put_waits c.args.machine.now c.wait.new.self c.args.world.now c.leaf.new.world c.wait.result (does.expr c.args.first.now)
    (forms.tests (does.tests c.args.rest.now)) (c.in-Ok-None.ensures.none (ap Ok c.in-Ok-None.field-0-is)) c.wait.ensures.law

pub returns-in-Err-clause-law : goal.returns-in-Err-clause-law
returns-in-Err-clause-law c =
    put_ends c.args.machine.now c.no_value.new.self c.args.world.now c.leaf.new.world c.no_value.result (does.expr c.args.first.now)
    (forms.tests (does.tests c.args.rest.now)) c.in-Err.end c.in-Err.ensures.law c.no_value.ensures.law

pub tests-requires-clause-ready : goal.tests-requires-clause-ready
tests-requires-clause-ready c = c.leaf.ensures.ready

pub tests-requires-clause-a : goal.tests-requires-clause-a
tests-requires-clause-a c = found_fit c.in-Ok-Some.field-0 c.in-Ok-Some.a c.in-Ok-Some.field-0-is c.leaf.new.world.store.heap c.args.machine.now.frame.side c.in-Ok-Some.ensures.fit

pub returns-in-Ok-Some-clause-ready : goal.returns-in-Ok-Some-clause-ready
returns-in-Ok-Some-clause-ready c = c.tests.ensures.ready

pub returns-in-Ok-Some-clause-shape : goal.returns-in-Ok-Some-clause-shape
returns-in-Ok-Some-clause-shape c = KeepsShape-trans _ _ _ c.leaf.ensures.shape c.tests.ensures.shape

pub returns-in-Ok-None-clause-ready : goal.returns-in-Ok-None-clause-ready
returns-in-Ok-None-clause-ready c = c.wait.ensures.ready c.leaf.new.world c.leaf.ensures.ready

pub returns-in-Ok-None-clause-shape : goal.returns-in-Ok-None-clause-shape
returns-in-Ok-None-clause-shape c = c.leaf.ensures.shape

pub returns-in-Err-clause-ready : goal.returns-in-Err-clause-ready
returns-in-Err-clause-ready c = c.no_value.ensures.ready c.leaf.new.world c.leaf.ensures.ready

pub returns-in-Err-clause-shape : goal.returns-in-Err-clause-shape
returns-in-Err-clause-shape c = c.leaf.ensures.shape
