use Rattle.std.proofs.Common.{sym, refl}
use Rattle.rp_meaning.specs.Exceptions as exception
use Rattle.rp_statements.proofs.DefinitionEquations.{stmt_def, stmt_return}
use Rattle.rp_meaning.specs.State.{broke, continued, next}
use Rattle.rp_meaning.specs.Statements as forms
use Rattle.rp_engine.proofs.Doings.{does_any, does_goes, does_moves}
use Rattle.rp_engine.proofs.Equations.{stmt_assert, stmt_assign, stmt_break, stmt_continue, stmt_del, stmt_expr, stmt_global, stmt_if, stmt_pass, stmt_raise, stmt_while}
use Rattle.rp_targets.proofs.PlaceEquations.{stmt_aug, stmt_for, stmt_unpack}
use Rattle.rp_statements.proofs.TryEquations.{stmt_try}
use Rattle.rp_engine.specs.Does as does
use Rattle.rp_statements.proofs.ClassEquations.{stmt_class}
use Rattle.rp_step.proofs.statements.form.Goals as goal

pub returns-in-Expr-clause-law : goal.returns-in-Expr-clause-law
returns-in-Expr-clause-law c =
    let m = c.args.machine.now in
    let w = c.args.world.now in
    does_goes m c.evaluate.new.machine w w c.evaluate.result (does.stmt_form c.args.form.now) (forms.evaluate (does.expr c.in-Expr.value))
    (λ base. rw (c.in-Expr.is, stmt_expr c.in-Expr.value) refl) c.evaluate.ensures.law

pub returns-in-Assign-clause-law : goal.returns-in-Assign-clause-law
returns-in-Assign-clause-law c = rw (c.in-Assign.is, stmt_assign c.in-Assign.places c.in-Assign.value, sym c.deref.ensures.value) c.assign.ensures.law

pub returns-in-Pass-clause-law : goal.returns-in-Pass-clause-law
returns-in-Pass-clause-law c =
    let m = c.args.machine.now in
    let w = c.args.world.now in
    does_moves m c.go.new.self w w c.go.result (does.stmt_form c.args.form.now) (forms.leave next)
    (λ base. rw (c.in-Pass.is, stmt_pass) refl) c.go.ensures.law

pub returns-in-Global-clause-law : goal.returns-in-Global-clause-law
returns-in-Global-clause-law c =
    let m = c.args.machine.now in
    let w = c.args.world.now in
    does_moves m c.go-in-Global.new.self w w c.go-in-Global.result (does.stmt_form c.args.form.now) (forms.leave next)
    (λ base. rw (c.in-Global.is, stmt_global c.in-Global.field-0) refl) c.go-in-Global.ensures.law

pub returns-in-Break-clause-law : goal.returns-in-Break-clause-law
returns-in-Break-clause-law c =
    let m = c.args.machine.now in
    let w = c.args.world.now in
    does_moves m c.go-in-Break.new.self w w c.go-in-Break.result (does.stmt_form c.args.form.now) (forms.leave broke)
    (λ base. rw (c.in-Break.is, stmt_break) refl) c.go-in-Break.ensures.law

pub returns-in-Continue-clause-law : goal.returns-in-Continue-clause-law
returns-in-Continue-clause-law c =
    let m = c.args.machine.now in
    let w = c.args.world.now in
    does_moves m c.go-in-Continue.new.self w w c.go-in-Continue.result (does.stmt_form c.args.form.now) (forms.leave continued)
    (λ base. rw (c.in-Continue.is, stmt_continue) refl) c.go-in-Continue.ensures.law

pub returns-in-If-clause-law : goal.returns-in-If-clause-law
returns-in-If-clause-law c =
    rw (c.in-If.is, stmt_if c.in-If.branches c.in-If.other, sym c.deref-in-If.ensures.value, sym c.stmts_of.ensures) c.choice.ensures.law

pub returns-in-While-clause-law : goal.returns-in-While-clause-law
returns-in-While-clause-law c = rw (c.in-While.is, stmt_while c.in-While.test c.in-While.body, sym c.deref-in-While.ensures.value) c.begin_loop.ensures.law

pub returns-in-Del-clause-law : goal.returns-in-Del-clause-law
returns-in-Del-clause-law c = rw (c.in-Del.is, stmt_del c.in-Del.places, sym c.deref-in-Del.ensures.value) c.delete_all.ensures.law

pub returns-in-Assert-clause-law : goal.returns-in-Assert-clause-law
returns-in-Assert-clause-law c =
    let m = c.args.machine.now in
    let w = c.args.world.now in
    does_goes m c.assertion.new.machine w w c.assertion.result (does.stmt_form c.args.form.now)
    (forms.assert (does.expr c.in-Assert.test) (does.maybe c.in-Assert.message))
    (λ base. rw (c.in-Assert.is, stmt_assert c.in-Assert.test c.in-Assert.message) refl) c.assertion.ensures.law

pub returns-in-Aug-clause-law : goal.returns-in-Aug-clause-law
returns-in-Aug-clause-law c = rw (c.in-Aug.is, stmt_aug) c.augmented.ensures.law

pub returns-in-For-clause-law : goal.returns-in-For-clause-law
returns-in-For-clause-law c = rw (c.in-For.is, stmt_for, sym c.deref-in-For.ensures.value) c.iterate.ensures.law

pub returns-in-Raise-clause-law : goal.returns-in-Raise-clause-law
returns-in-Raise-clause-law c = rw (c.in-Raise.is, stmt_raise) c.raise.ensures.law

pub returns-in-Unpack-clause-law : goal.returns-in-Unpack-clause-law
returns-in-Unpack-clause-law c = rw (c.in-Unpack.is, stmt_unpack) c.assign_target.ensures.law

pub returns-in-Try-clause-law : goal.returns-in-Try-clause-law
returns-in-Try-clause-law c =
    let m = c.args.machine.now in
    let w = c.args.world.now in
    does_any m c.begin_try.new.machine w w c.begin_try.result (does.stmt_form c.args.form.now)
    (exception.try (does.block c.deref-in-Try.result.now) (does.handlers c.deref-in-Try-2.result.now) (does.block c.stmts_of-in-Try.result.now) (does.block c.stmts_of-in-Try-2.result.now))
    (λ base. rw (
      c.in-Try.is,
      stmt_try c.in-Try.body c.in-Try.handlers c.in-Try.other c.in-Try.last,
      sym c.deref-in-Try.ensures.value,
      sym c.deref-in-Try-2.ensures.value,
      sym c.stmts_of-in-Try.ensures,
      sym c.stmts_of-in-Try-2.ensures,
    ) refl) c.begin_try.ensures.law

pub returns-in-Return-clause-law : goal.returns-in-Return-clause-law
returns-in-Return-clause-law c = rw (c.in-Return.is, stmt_return) c.give_back.ensures.law

pub returns-in-Def-clause-law : goal.returns-in-Def-clause-law
returns-in-Def-clause-law c = rw (c.in-Def.is, stmt_def) c.definition.ensures.law

pub returns-in-Class-clause-law : goal.returns-in-Class-clause-law
returns-in-Class-clause-law c = rw (c.in-Class.is, stmt_class, sym c.deref-in-Class.ensures.value) c.class.ensures.law
