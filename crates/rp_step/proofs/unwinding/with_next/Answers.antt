use Rattle.std.proofs.Common.{ap}
use Rattle.rp_meaning.specs.State.{next}
use Rattle.rp_ops.specs.Outcome.{gives}
use Rattle.rp_engine.proofs.Doings.{held_as, held_by}
use Rattle.rp_engine.specs.Law.{frame_in}
use Rattle.rp_access.specs.Moment.{state_of}
use Rattle.rp_engine.specs.Rest.{after, after_flow, did}
use Rattle.rp_step.proofs.unwinding.with_next.Goals as goal

pub returns-in-Flow-clause-law : goal.returns-in-Flow-clause-law
returns-in-Flow-clause-law c =
    let m = c.args.machine.now in
    let s = state_of c.args.world.now in
    held_as m c.flow_next.new.machine c.flow_next.new.world c.flow_next.result (λ base. after c.args.task (did (frame_in base m) m.values (gives next s)))
    (λ base. after_flow c.in-Flow.task (frame_in base m) m.values (gives next s))
    (λ base. ap (λ t. after t (did (frame_in base m) m.values (gives next s))) c.in-Flow.is) c.flow_next.ensures.law

pub returns-in-Expr-clause-law : goal.returns-in-Expr-clause-law
returns-in-Expr-clause-law c =
    let m = c.args.machine.now in
    let w = c.args.world.now in
    held_by m c.go.new.self w c.go.result (λ base. after c.args.task (did (frame_in base m) m.values (gives next (state_of w))))
    (λ base. did (frame_in base m) m.values (gives next (state_of w)))
    (λ base. ap (λ t. after t (did (frame_in base m) m.values (gives next (state_of w)))) c.in-Expr.is) (λ base. c.go.ensures.law base (state_of w))

pub returns-in-Stmt-clause-law : goal.returns-in-Stmt-clause-law
returns-in-Stmt-clause-law c =
    let m = c.args.machine.now in
    let w = c.args.world.now in
    held_by m c.go-in-Stmt.new.self w c.go-in-Stmt.result (λ base. after c.args.task (did (frame_in base m) m.values (gives next (state_of w))))
    (λ base. did (frame_in base m) m.values (gives next (state_of w)))
    (λ base. ap (λ t. after t (did (frame_in base m) m.values (gives next (state_of w)))) c.in-Stmt.is) (λ base. c.go-in-Stmt.ensures.law base (state_of w))
