use Rattle.rp_frame.specs.declared.task.ExprTask.TheVariants as expr
use Rattle.rp_proxy.specs.declared.world.World.{World}
use Rattle.rp_engine.proofs.Moves.{on_ok}
use Rattle.rp_engine.specs.Law.{Resumes}
use Rattle.rp_step.proofs.Others.{parts_left}
use Rattle.rp_step.proofs.expressions.after_expr.Goals as goal

pub returns-in-Operands-clause-law : goal.returns-in-Operands-clause-law
returns-in-Operands-clause-law c = rw (c.in-Operands.is) c.operands.ensures.law

pub returns-in-Operand-clause-law : goal.returns-in-Operand-clause-law
returns-in-Operand-clause-law c = rw (c.in-Operand.is) c.after_operand.ensures.law

pub returns-in-Not-clause-law : goal.returns-in-Not-clause-law
returns-in-Not-clause-law c = rw (c.in-Not.is) c.not_of.ensures.law

pub returns-in-Cond-clause-law : goal.returns-in-Cond-clause-law
returns-in-Cond-clause-law c = rw (c.in-Cond.is) c.either.ensures.law

pub returns-in-Unary-clause-law : goal.returns-in-Unary-clause-law
returns-in-Unary-clause-law c = rw (c.in-Unary.is) c.unary_of.ensures.law

pub returns-in-Power-clause-law : goal.returns-in-Power-clause-law
returns-in-Power-clause-law c = rw (c.in-Power.is) c.to_power.ensures.law

pub returns-in-Exponent-clause-law : goal.returns-in-Exponent-clause-law
returns-in-Exponent-clause-law c = rw (c.in-Exponent.is) c.after_exponent.ensures.law

pub returns-in-Tests-clause-law : goal.returns-in-Tests-clause-law
returns-in-Tests-clause-law c = rw (c.in-Tests.is) c.tests.ensures.law

pub returns-in-Test-clause-law : goal.returns-in-Test-clause-law
returns-in-Test-clause-law c = rw (c.in-Test.is) c.after_test.ensures.law

pub returns-in-Contained-clause-law : goal.returns-in-Contained-clause-law
returns-in-Contained-clause-law c = rw (c.in-Contained.is) c.after_contained.ensures.law

pub returns-in-Joined-clause-law : goal.returns-in-Joined-clause-law
returns-in-Joined-clause-law c = rw (c.in-Joined.is) c.later.ensures.law

pub returns-in-Trailers-clause-law : goal.returns-in-Trailers-clause-law
returns-in-Trailers-clause-law c = rw (c.in-Trailers.is) c.trailers.ensures.law

pub returns-in-Key-clause-law : goal.returns-in-Key-clause-law
returns-in-Key-clause-law c = rw (c.in-Key.is) c.after_key.ensures.law

pub returns-in-SliceFrom-clause-law : goal.returns-in-SliceFrom-clause-law
returns-in-SliceFrom-clause-law c = rw (c.in-SliceFrom.is) c.after_from.ensures.law

pub returns-in-SliceTo-clause-law : goal.returns-in-SliceTo-clause-law
returns-in-SliceTo-clause-law c = rw (c.in-SliceTo.is) c.after_to.ensures.law

pub returns-in-SliceStep-clause-law : goal.returns-in-SliceStep-clause-law
returns-in-SliceStep-clause-law c = rw (c.in-SliceStep.is) c.after_stride.ensures.law

pub returns-in-Length-clause-law : goal.returns-in-Length-clause-law
returns-in-Length-clause-law c =
    let m = c.args.machine.now in
    let n = c.after_length.new.machine in
    let w = c.args.world.now in
    rw (c.in-Length.is) (on_ok c.after_length.result ((w : World) → Resumes (expr.Length c.in-Length.rest) c.args.value m w n w)
    (Resumes (expr.Length c.in-Length.rest) c.args.value m w n w) (λ law. law w) c.after_length.ensures.law)

pub after_part-requires-clause-task : goal.after_part-requires-clause-task
after_part-requires-clause-task c =
    let o = c.in_default in
    parts_left c.args.task o.not-Operands o.not-Operand o.not-Not o.not-Cond o.not-Unary o.not-Power o.not-Exponent
    o.not-Tests o.not-Test o.not-Joined o.not-Trailers o.not-Key o.not-SliceFrom o.not-SliceTo o.not-SliceStep
    o.not-Contained o.not-Length
