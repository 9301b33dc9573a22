use Rattle.std.proofs.Common.{ap}
use Rattle.rp_meaning.specs.Frame.{Doing}
use Rattle.rp_meaning.specs.State.{returned}
use Rattle.rp_ops.specs.Outcome.{gives}
use Rattle.rp_access.specs.Moment.{state_of}
use Rattle.rp_engine.proofs.Doings.{held_as}
use Rattle.rp_statements.proofs.GivenBack.{fit_off, taken_up}
use Rattle.rp_statements.proofs.Handlings.{moves_executes}
use Rattle.rp_engine.specs.Law.{frame_in}
use Rattle.rp_engine.specs.Rest.{after, after_flow, did}
use Rattle.rp_statements.proofs.returning.with_return.Goals as goal

pub returns-in-Flow-clause-law : goal.returns-in-Flow-clause-law
returns-in-Flow-clause-law c =
    let m = c.args.machine.now in
    let p = c.at_hand-value.new.self in
    let v = c.at_hand-value.result in
    let w = c.args.world.now in
    let n = c.flow_return.new.machine in
    let u = c.flow_return.new.world in
    let r = c.flow_return.result in
    taken_up m p c.at_hand-value.ensures.left n w u r c.args.task v c.at_hand-value.ensures.value
    (held_as p n u r (λ base. after c.args.task (did (frame_in base p) p.values (gives (returned v) (state_of w))))
    (λ base. after_flow c.in-Flow.task (frame_in base p) p.values (gives (returned v) (state_of w)))
    (λ base. ap (λ t. after t (did (frame_in base p) p.values (gives (returned v) (state_of w)))) c.in-Flow.is) c.flow_return.ensures.law)

pub flow_return-requires-clause-ready : goal.flow_return-requires-clause-ready
flow_return-requires-clause-ready c = c.at_hand-value.ensures.ready c.args.world.now c.requires.ready

pub flow_return-requires-clause-value : goal.flow_return-requires-clause-value
flow_return-requires-clause-value c =
    fit_off c.args.machine.now c.at_hand-value.new.self c.at_hand-value.ensures.left c.args.world.now c.at_hand-value.result (c.at_hand-value.ensures.fit c.args.world.now c.requires.ready)

pub returns-in-Expr-clause-law : goal.returns-in-Expr-clause-law
returns-in-Expr-clause-law c =
    let m = c.args.machine.now in
    let p = c.at_hand-value.new.self in
    let v = c.at_hand-value.result in
    let w = c.args.world.now in
    let n = c.returns.new.machine in
    let r = c.returns.result in
    let back : Doing = λ f s. gives (returned v) s in
    taken_up m p c.at_hand-value.ensures.left n w w r c.args.task v c.at_hand-value.ensures.value
    (held_as p n w r (λ base. after c.args.task (did (frame_in base p) p.values (gives (returned v) (state_of w))))
    (λ base. did (frame_in base p) p.values (back (frame_in base p) (state_of w)))
    (λ base. ap (λ t. after t (did (frame_in base p) p.values (gives (returned v) (state_of w)))) c.in-Expr.is) (moves_executes p n r back w c.returns.ensures.law))

pub returns-in-Expr-clause-ready : goal.returns-in-Expr-clause-ready
returns-in-Expr-clause-ready c =
    let w = c.args.world.now in
    c.returns.ensures.ready w (c.at_hand-value.ensures.ready w c.requires.ready)
    (fit_off c.args.machine.now c.at_hand-value.new.self c.at_hand-value.ensures.left w c.at_hand-value.result (c.at_hand-value.ensures.fit w c.requires.ready))

pub returns-in-Stmt-clause-law : goal.returns-in-Stmt-clause-law
returns-in-Stmt-clause-law c =
    let m = c.args.machine.now in
    let p = c.at_hand-value.new.self in
    let v = c.at_hand-value.result in
    let w = c.args.world.now in
    let n = c.returns-in-Stmt.new.machine in
    let r = c.returns-in-Stmt.result in
    let back : Doing = λ f s. gives (returned v) s in
    taken_up m p c.at_hand-value.ensures.left n w w r c.args.task v c.at_hand-value.ensures.value
    (held_as p n w r (λ base. after c.args.task (did (frame_in base p) p.values (gives (returned v) (state_of w))))
    (λ base. did (frame_in base p) p.values (back (frame_in base p) (state_of w)))
    (λ base. ap (λ t. after t (did (frame_in base p) p.values (gives (returned v) (state_of w)))) c.in-Stmt.is) (moves_executes p n r back w c.returns-in-Stmt.ensures.law))

pub returns-in-Stmt-clause-ready : goal.returns-in-Stmt-clause-ready
returns-in-Stmt-clause-ready c =
    let w = c.args.world.now in
    c.returns-in-Stmt.ensures.ready w (c.at_hand-value.ensures.ready w c.requires.ready)
    (fit_off c.args.machine.now c.at_hand-value.new.self c.at_hand-value.ensures.left w c.at_hand-value.result (c.at_hand-value.ensures.fit w c.requires.ready))
