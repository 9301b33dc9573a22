use Rattle.std.proofs.Common.{sym, ap, subst, ◌∙◌}
use Rattle.rp_frame.specs.Top.{below, top}
use Rattle.rp_ops.specs.Outcome.{gives}
use Rattle.rp_store.specs.Kept.{IsFit}
use Rattle.rp_engine.proofs.AtHand.{top_fit}
use Rattle.rp_engine.proofs.Doings.{held_as, held_by}
use Rattle.rp_engine.proofs.Passing.{ready_less}
use Rattle.rp_engine.specs.Law.{frame_in}
use Rattle.rp_access.specs.Moment.{state_of}
use Rattle.rp_engine.specs.Rest.{after, after_expr, after_stmt, gave}
use Rattle.rp_step.proofs.unwinding.with_value.Goals as goal

pub returns-in-Expr-clause-law : goal.returns-in-Expr-clause-law
returns-in-Expr-clause-law c =
    let m = c.args.machine.now in
    let s = state_of c.args.world.now in
    let t = c.in-Expr.task in
    held_as m c.after_expr.new.machine c.after_expr.new.world c.after_expr.result
    (λ base. after c.args.task (gave (frame_in base m) (below m.values) (gives (top m.values) s)))
    (λ base. after_expr t (frame_in base m) c.pop-value.new.self (gives c.pop-value.result s))
    (λ base. ap (λ z. after z (gave (frame_in base m) (below m.values) (gives (top m.values) s))) c.in-Expr.is
    ∙ ap (λ vs. after_expr t (frame_in base m) vs (gives (top m.values) s)) (sym c.pop-value.ensures.left)
    ∙ ap (λ v. after_expr t (frame_in base m) c.pop-value.new.self (gives v s)) (sym c.pop-value.ensures.value)) c.after_expr.ensures.law

pub returns-in-Stmt-clause-law : goal.returns-in-Stmt-clause-law
returns-in-Stmt-clause-law c =
    let m = c.args.machine.now in
    let s = state_of c.args.world.now in
    let t = c.in-Stmt.task in
    held_as m c.after_stmt.new.machine c.after_stmt.new.world c.after_stmt.result
    (λ base. after c.args.task (gave (frame_in base m) (below m.values) (gives (top m.values) s)))
    (λ base. after_stmt t (frame_in base m) c.pop-value-in-Stmt.new.self (gives c.pop-value-in-Stmt.result s))
    (λ base. ap (λ z. after z (gave (frame_in base m) (below m.values) (gives (top m.values) s))) c.in-Stmt.is
    ∙ ap (λ vs. after_stmt t (frame_in base m) vs (gives (top m.values) s)) (sym c.pop-value-in-Stmt.ensures.left)
    ∙ ap (λ v. after_stmt t (frame_in base m) c.pop-value-in-Stmt.new.self (gives v s)) (sym c.pop-value-in-Stmt.ensures.value)) c.after_stmt.ensures.law

pub returns-in-Flow-clause-law : goal.returns-in-Flow-clause-law
returns-in-Flow-clause-law c =
    let m = c.args.machine.now in
    let w = c.args.world.now in
    held_by m c.go.new.self w c.go.result
    (λ base. after c.args.task (gave (frame_in base m) (below m.values) (gives (top m.values) (state_of w))))
    (λ base. gave (frame_in base m) (below m.values) (gives (top m.values) (state_of w)))
    (λ base. ap (λ z. after z (gave (frame_in base m) (below m.values) (gives (top m.values) (state_of w)))) c.in-Flow.is)
    (λ base. c.go.ensures.law base (state_of w))

pub after_expr-requires-clause-ready : goal.after_expr-requires-clause-ready
after_expr-requires-clause-ready c = ready_less c.args.machine.now c.pop-value.new.self c.pop-value.ensures.left c.args.world.now c.requires.ready

pub after_stmt-requires-clause-ready : goal.after_stmt-requires-clause-ready
after_stmt-requires-clause-ready c = ready_less c.args.machine.now c.pop-value-in-Stmt.new.self c.pop-value-in-Stmt.ensures.left c.args.world.now c.requires.ready

pub after_expr-requires-clause-value : goal.after_expr-requires-clause-value
after_expr-requires-clause-value c =
    let m = c.args.machine.now in
    let w = c.args.world.now in
    subst (IsFit w.store.heap m.frame.side) (sym c.pop-value.ensures.value)
    (top_fit m.units.now m.frame m.values w c.requires.ready)

pub after_stmt-requires-clause-value : goal.after_stmt-requires-clause-value
after_stmt-requires-clause-value c =
    let m = c.args.machine.now in
    let w = c.args.world.now in
    subst (IsFit w.store.heap m.frame.side) (sym c.pop-value-in-Stmt.ensures.value)
    (top_fit m.units.now m.frame m.values w c.requires.ready)
