use Rattle.std.proofs.Common.{ap, ◌∙◌, refl, arith}
use Rattle.rp_tree.specs.StatementViews as stmt_views
use Rattle.rp_tree.specs.Maps as maps
use Rattle.rp_tree.specs.Marks.{table}
use Rattle.rp_guard.proofs.Lists.{all_marked, mark_branch, stmts_of_map, branches_of_map, excepts_of_map}
use Rattle.std.proofs.lemmas.Grind.{common_steps}
use Rattle.rp_tree.proofs.StatementEquations.{stmt_if, stmt_while, stmt_for, stmt_try, stmt_def, stmt_class}
use Rattle.rp_guard.proofs.StatementForms.{if_some, try_some}
use Rattle.rp_guard.proofs.block_marks.+mark_stmt.Goals as goal

pub mark_block-returns : goal.mark_block-returns
mark_block-returns t c =
    ap stmt_views.stmts_of (all_marked stmt_views.view_stmt (maps.map_stmt table) c.args.stmts.now c.stmts.stmts (omega arith) (λ k d lt. c.stmts.invariant.marked k d (omega arith))) ∙ stmts_of_map _

pub mark_handlers-returns : goal.mark_handlers-returns
mark_handlers-returns t c =
    ap stmt_views.excepts_of (all_marked stmt_views.view_except (maps.map_except table) c.args.handlers.now c.handlers.handlers (omega arith) (λ k d lt. c.handlers.invariant.marked k d (omega arith))) ∙ excepts_of_map _

pub mark_branches-returns : goal.mark_branches-returns
mark_branches-returns t c =
    ap stmt_views.branches_of (all_marked stmt_views.view_branch mark_branch c.args.branches.now c.branches.branches (omega arith) (λ k d lt. let both = c.branches.invariant.marked k d (omega arith) in rw (both.0, both.1) refl)) ∙ branches_of_map _

pub mark_stmt_form-returns-in-Some : goal.mark_stmt_form-returns-in-Some
mark_stmt_form-returns-in-Some t c = grind (arith, common_steps, stmt_if, if_some)

pub mark_stmt_form-returns-in_default : goal.mark_stmt_form-returns-in_default
mark_stmt_form-returns-in_default t c = grind (arith, common_steps, stmt_if)

pub mark_stmt_form-returns-in-While : goal.mark_stmt_form-returns-in-While
mark_stmt_form-returns-in-While t c = grind (arith, common_steps, stmt_while)

pub mark_stmt_form-returns-in-For : goal.mark_stmt_form-returns-in-For
mark_stmt_form-returns-in-For t c = grind (arith, common_steps, stmt_for)

pub mark_stmt_form-returns-in-Def : goal.mark_stmt_form-returns-in-Def
mark_stmt_form-returns-in-Def t c = grind (arith, common_steps, stmt_def)

pub mark_stmt_form-returns-in-Class : goal.mark_stmt_form-returns-in-Class
mark_stmt_form-returns-in-Class t c = grind (arith, common_steps, stmt_class)

pub mark_stmt_form-returns-in-Some-last : goal.mark_stmt_form-returns-in-Some-last
mark_stmt_form-returns-in-Some-last t c = grind (arith, common_steps, stmt_try, try_some)

pub mark_stmt_form-returns-in_default-last : goal.mark_stmt_form-returns-in_default-last
mark_stmt_form-returns-in_default-last t c = grind (arith, common_steps, stmt_try)
