use Rattle.std.proofs.Common.{Ok, ap}
use Rattle.rp_proxy.specs.declared.world.World.{World}
use Rattle.rp_engine.proofs.Answering.{step_put, step_ends, step_waits}
use Rattle.rp_engine.proofs.Moves.{on_ok}
use Rattle.rp_engine.specs.Does as does
use Rattle.rp_engine.specs.JoinSteps.{later}
use Rattle.rp_engine.specs.Law.{Evaluates}
use Rattle.rp_expressions.proofs.joining.next_joined.Goals as goal

pub returns-in-Ok-Some-clause-law : goal.returns-in-Ok-Some-clause-law
returns-in-Ok-Some-clause-law c =
    let m = c.args.machine.now in
    let n = c.more_joined.new.machine in
    let u = c.next_leaf.new.world in
    let more = later c.args.all (does.exprs c.args.rest.now) in
    let a = c.in-Ok-Some.value in
    let found = rw c.in-Ok-Some.field-0-is at c.in-Ok-Some.ensures.law in
    step_put m n c.args.world.now u u c.more_joined.result (does.expr c.args.x.now) more a found
    (on_ok c.more_joined.result ((w : World) → Evaluates (more a) m w n w) (Evaluates (more a) m u n u) (λ law. law u) c.more_joined.ensures.law)

pub returns-in-Ok-None-clause-law : goal.returns-in-Ok-None-clause-law
returns-in-Ok-None-clause-law c =
    step_waits c.args.machine.now c.wait.new.self c.args.world.now c.next_leaf.new.world c.wait.result (does.expr c.args.x.now)
    (later c.args.all (does.exprs c.args.rest.now)) (c.in-Ok-None.ensures.none (ap Ok c.in-Ok-None.field-0-is)) c.wait.ensures.law

pub returns-in-Err-clause-law : goal.returns-in-Err-clause-law
returns-in-Err-clause-law c =
    step_ends c.args.machine.now c.no_value.new.self c.args.world.now c.next_leaf.new.world c.no_value.result (does.expr c.args.x.now)
    (later c.args.all (does.exprs c.args.rest.now)) c.in-Err.end c.in-Err.ensures.law c.no_value.ensures.law

pub returns-in-Ok-None-clause-ready : goal.returns-in-Ok-None-clause-ready
returns-in-Ok-None-clause-ready c = c.wait.ensures.ready c.next_leaf.new.world c.next_leaf.ensures.ready

pub returns-in-Ok-None-clause-shape : goal.returns-in-Ok-None-clause-shape
returns-in-Ok-None-clause-shape c = c.next_leaf.ensures.shape

pub returns-in-Err-clause-ready : goal.returns-in-Err-clause-ready
returns-in-Err-clause-ready c = c.no_value.ensures.ready c.next_leaf.new.world c.next_leaf.ensures.ready

pub returns-in-Err-clause-shape : goal.returns-in-Err-clause-shape
returns-in-Err-clause-shape c = c.next_leaf.ensures.shape
