use Rattle.std.proofs.Common.{drop, sym, ap, ◌∙◌}
use Rattle.rp_frame.specs.declared.control.Control.TheVariants as control
use Rattle.rp_ops.specs.Outcome.{ends}
use Rattle.rp_engine.proofs.Doings.{held_any}
use Rattle.rp_engine.proofs.Passing.{expr_cut, forgot, ready_forgot, stmt_cut}
use Rattle.rp_engine.specs.Ends.{end_of}
use Rattle.rp_engine.specs.Law.{frame_in}
use Rattle.rp_engine.specs.Rest.{after, did, gave}
use Rattle.rp_step.proofs.unwinding.without_value.Goals as goal

pub returns-in-Expr-clause-law : goal.returns-in-Expr-clause-law
returns-in-Expr-clause-law c =
    let m = c.args.machine.now in
    let k = c.held_with.result in
    held_any m c.go.new.self c.go.result
    (λ base s. after c.args.task (gave (frame_in base m) m.values (ends (end_of m.end) s)))
    (λ base s. gave (frame_in base m) (drop k m.values) (ends (end_of m.end) s))
    (λ base s. ap (λ t. after t (gave (frame_in base m) m.values (ends (end_of m.end) s))) c.in-Expr.is
    ∙ expr_cut (frame_in base m) m.values c.in-Expr.task (end_of m.end) s
    ∙ ap (λ k. gave (frame_in base m) (drop k m.values) (ends (end_of m.end) s)) (sym c.held_with.ensures))
    (forgot m c.forget.new.self k c.forget.ensures c.go.new.self control.NoValue c.go.ensures.law)

pub returns-in-Expr-clause-ready : goal.returns-in-Expr-clause-ready
returns-in-Expr-clause-ready c = λ w h. c.go.ensures.ready w (ready_forgot c.args.machine.now c.forget.new.self c.held_with.result c.forget.ensures w h)

pub returns-in-Stmt-clause-law : goal.returns-in-Stmt-clause-law
returns-in-Stmt-clause-law c =
    let m = c.args.machine.now in
    let k = c.stmt_with.result in
    held_any m c.go-in-Stmt.new.self c.go-in-Stmt.result
    (λ base s. after c.args.task (gave (frame_in base m) m.values (ends (end_of m.end) s)))
    (λ base s. did (frame_in base m) (drop k m.values) (ends (end_of m.end) s))
    (λ base s. ap (λ t. after t (gave (frame_in base m) m.values (ends (end_of m.end) s))) c.in-Stmt.is
    ∙ stmt_cut (frame_in base m) m.values c.in-Stmt.task (end_of m.end) s
    ∙ ap (λ k. did (frame_in base m) (drop k m.values) (ends (end_of m.end) s)) (sym c.stmt_with.ensures))
    (forgot m c.forget-in-Stmt.new.self k c.forget-in-Stmt.ensures c.go-in-Stmt.new.self control.CutOff c.go-in-Stmt.ensures.law)

pub returns-in-Stmt-clause-ready : goal.returns-in-Stmt-clause-ready
returns-in-Stmt-clause-ready c = λ w h. c.go-in-Stmt.ensures.ready w (ready_forgot c.args.machine.now c.forget-in-Stmt.new.self c.stmt_with.result c.forget-in-Stmt.ensures w h)

pub returns-in-Flow-clause-law : goal.returns-in-Flow-clause-law
returns-in-Flow-clause-law c =
    let m = c.args.machine.now in
    held_any m c.go-in-Flow.new.self c.go-in-Flow.result
    (λ base s. after c.args.task (gave (frame_in base m) m.values (ends (end_of m.end) s)))
    (λ base s. gave (frame_in base m) m.values (ends (end_of m.end) s))
    (λ base s. ap (λ t. after t (gave (frame_in base m) m.values (ends (end_of m.end) s))) c.in-Flow.is) c.go-in-Flow.ensures.law
