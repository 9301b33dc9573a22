use Rattle.std.proofs.Common.{subst, sym}
use Rattle.rp_frame.specs.declared.task.ExprTask.TheVariants as expr
use Rattle.rp_frame.specs.declared.task.Task.TheVariants as task
use Rattle.rp_store.specs.Kept.{IsFit}
use Rattle.rp_engine.proofs.Passing.{ready_forgot}
use Rattle.rp_engine.specs.declared.machine.Machine.{Machine}
use Rattle.rp_expressions.proofs.SpecialMoves.{length_waits}
use Rattle.rp_expressions.proofs.special_methods.length_by_method.Goals as goal

pub returns-clause-law : goal.returns-clause-law
returns-clause-law c =
    length_waits c.args.machine.now c.at_hand-o.new.self c.forget.new.self c.wait_with.new.self c.wait_with.result c.at_hand-o.result c.args.count (task.Expr (expr.Length c.args.trailers))
    c.at_hand-o.ensures.left c.forget.ensures c.at_hand-o.ensures.value c.wait_with.ensures.law

pub returns-clause-ready : goal.returns-clause-ready
returns-clause-ready c = λ w ready.
    c.wait_with.ensures.ready w
    (ready_forgot c.at_hand-o.new.self c.forget.new.self c.args.count c.forget.ensures w (c.at_hand-o.ensures.ready w ready))
    (subst (λ (z : Machine). IsFit w.store.heap z.frame.side c.at_hand-o.result) (sym c.forget.ensures)
    (subst (λ (z : Machine). IsFit w.store.heap z.frame.side c.at_hand-o.result) (sym c.at_hand-o.ensures.left) (c.at_hand-o.ensures.fit w ready)))
