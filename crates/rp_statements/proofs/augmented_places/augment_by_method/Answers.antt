use Rattle.rp_base.specs.declared.word.TheConstants.{GET_ITEM}
use Rattle.rp_frame.specs.declared.control.Control.TheVariants as control
use Rattle.rp_frame.specs.declared.task.StmtTask.TheVariants as stmt
use Rattle.rp_frame.specs.declared.task.Task.TheVariants as task
use Rattle.rp_engine.proofs.SpecialMoves.{fit_held, waits_held_two}
use Rattle.rp_statements.proofs.augmented_places.augment_by_method.Goals as goal

pub returns-clause-law : goal.returns-clause-law
returns-clause-law c =
    waits_held_two c.args.machine.now c.hold_copy.new.self c.hold_copy-2.new.self c.wait_with_two.new.self c.wait_with_two.result (task.Stmt (stmt.AugmentGot c.args.op c.args.value))
    (control.Special GET_ITEM 1) c.args.o c.args.i c.args.o c.args.i c.in_ok-hold_copy.ensures.held c.in_ok-hold_copy-2.ensures.held c.wait_with_two.ensures.law

pub returns-in_err-hold_copy-clause-ready : goal.returns-in_err-hold_copy-clause-ready
returns-in_err-hold_copy-clause-ready c = λ w ready o i. c.hold_copy.ensures.ready w ready o

pub returns-in_err-hold_copy-2-clause-ready : goal.returns-in_err-hold_copy-2-clause-ready
returns-in_err-hold_copy-2-clause-ready c = λ w ready o i.
    c.hold_copy-2.ensures.ready w (c.hold_copy.ensures.ready w ready o)
    (fit_held c.args.machine.now c.hold_copy.new.self c.args.o c.args.i w c.in_ok-hold_copy.ensures.held i)

pub returns-clause-ready : goal.returns-clause-ready
returns-clause-ready c = λ w ready o i.
    let m = c.args.machine.now in
    let h = c.hold_copy.new.self in
    let k = c.hold_copy-2.new.self in
    let first = c.in_ok-hold_copy.ensures.held in
    let second = c.in_ok-hold_copy-2.ensures.held in
    c.wait_with_two.ensures.ready w (c.hold_copy-2.ensures.ready w (c.hold_copy.ensures.ready w ready o) (fit_held m h c.args.o c.args.i w first i))
    (fit_held h k c.args.i c.args.o w second (fit_held m h c.args.o c.args.o w first o)) (fit_held h k c.args.i c.args.i w second (fit_held m h c.args.o c.args.i w first i))
