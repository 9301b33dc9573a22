use Rattle.rp_base.specs.declared.word.TheConstants.{CONTAINS}
use Rattle.rp_frame.specs.declared.control.Control.TheVariants as control
use Rattle.rp_frame.specs.declared.task.ExprTask.TheVariants as expr
use Rattle.rp_frame.specs.declared.task.Task.TheVariants as task
use Rattle.rp_engine.proofs.SpecialMoves.{fit_held, waits_held}
use Rattle.rp_expressions.proofs.special_methods.test_by_method.Goals as goal

pub returns-clause-law : goal.returns-clause-law
returns-clause-law c =
    waits_held c.args.machine.now c.hold_copy.new.self c.wait_with_two.new.self c.wait_with_two.result (task.Expr (expr.Contained c.args.test c.args.tests)) (control.Special CONTAINS 1)
    c.args.b c.args.b c.args.a c.in_ok-hold_copy.ensures.held c.wait_with_two.ensures.law

pub returns-in_err-hold_copy-clause-ready : goal.returns-in_err-hold_copy-clause-ready
returns-in_err-hold_copy-clause-ready c = λ w ready a b. c.hold_copy.ensures.ready w ready b

pub returns-clause-ready : goal.returns-clause-ready
returns-clause-ready c = λ w ready a b.
    let held = c.in_ok-hold_copy.ensures.held in
    c.wait_with_two.ensures.ready w (c.hold_copy.ensures.ready w ready b)
    (fit_held c.args.machine.now c.hold_copy.new.self c.args.b c.args.b w held b) (fit_held c.args.machine.now c.hold_copy.new.self c.args.b c.args.a w held a)
