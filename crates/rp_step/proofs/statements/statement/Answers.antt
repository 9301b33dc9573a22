use Rattle.std.proofs.Common.{sym, ap, ◌∙◌}
use Rattle.rp_meaning.specs.State.{stepped}
use Rattle.rp_engine.proofs.Doings.{does_as, does_end}
use Rattle.rp_engine.proofs.Equations.{stmt_out}
use Rattle.rp_access.proofs.Going.{IsEnd-same}
use Rattle.rp_targets.proofs.Steps.{stepped_ends, stepped_gives}
use Rattle.rp_engine.specs.Does as does
use Rattle.rp_engine.specs.Law.{frame_in}
use Rattle.rp_access.specs.Moment.{state_of}
use Rattle.rp_tree.specs.declared.stmt.StmtForm.{StmtForm}
use Rattle.rp_tree.specs.declared.stmt.StmtForm.TheViews.{out-Stmt}
use Rattle.rp_step.proofs.statements.statement.Goals as goal

pub returns-in-Err-clause-law : goal.returns-in-Err-clause-law
returns-in-Err-clause-law c =
    let m = c.args.machine.now in
    let w = c.args.world.now in
    let u = c.take_step.new.world in
    let x = c.args.x.now in
    let form = (out-Stmt x).form.value in
    does_end m c.cut_off.new.self w u c.cut_off.result (does.stmt x) c.in-Err.end
    (λ base. IsEnd-same c.in-Err.end (state_of u) _ _ (ap (λ D. D (frame_in base m) (state_of w)) (stmt_out x))
    (stepped_ends m w u (does.stmt_form form) c.in-Err.end c.in-Err.ensures.law base)) c.cut_off.ensures.law

pub returns-clause-law : goal.returns-clause-law
returns-clause-law c =
    let m = c.args.machine.now in
    let w = c.args.world.now in
    let u = c.take_step.new.world in
    let x = c.args.x.now in
    let form = c.deref.result.now in
    does_as m c.form.new.machine w c.form.new.world c.form.result (does.stmt x) (does.stmt_form form) u
    (λ base. ap (λ D. D (frame_in base m) (state_of w)) (stmt_out x ∙ ap (λ (z : StmtForm). λ f s. stepped s (does.stmt_form z f)) (sym c.deref.ensures))
    ∙ stepped_gives m w u (does.stmt_form form) c.in_default.ensures.law base) c.form.ensures.law
