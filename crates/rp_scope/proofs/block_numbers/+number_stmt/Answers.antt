use Rattle.std.proofs.Common.{◌≡◌, Some, get_or, map, ap, sym, ◌∙◌, refl, arith, rules}
use Rattle.std.specs.Vec.{with_items}
use Rattle.rp_tree.specs.declared.stmt.StmtForm.TheViews.{out-Branch, out-Except}
use Rattle.rp_tree.specs.ExpressionViews as views
use Rattle.rp_tree.specs.StatementViews as stmt_views
use Rattle.rp_tree.specs.Maps as maps
use Rattle.rp_tree.specs.Maps.{no_blocks}
use Rattle.rp_tree.proofs.StatementEquations.{stmt_assign, stmt_del, stmt_while, stmt_for, stmt_def, stmt_class}
use Rattle.std.proofs.lemmas.Grind.{common_steps}
use Rattle.rp_scope.specs.Numbers as numbering
use Rattle.rp_scope.specs.NumberSteps.{past, renumbered, start, branch_numbers}
use Rattle.rp_scope.proofs.Runs.{append_runs, all_numbers-map, renumbered_all, start_all, all_kept}
use Rattle.rp_scope.proofs.Lists.{shape_branch, stmts_shape, stmts_numbers, branches_shape, branches_numbers, excepts_shape, excepts_numbers}
use Rattle.rp_scope.proofs.Forms as forms
use Rattle.rp_scope.proofs.BlockForms as blocks
use Rattle.rp_scope.proofs.Elements.{more, unvisited_more, begins_more}
use Rattle.rp_scope.proofs.block_numbers.+number_stmt.Goals as goal

pub number_block-returns : goal.number_block-returns
number_block-returns t c = record {
  kept = sym (stmts_shape _) ∙ (ap stmt_views.stmts_of (all_kept stmt_views.view_stmt (maps.map_stmt no_blocks) c.args.stmts.now c.stmts.stmts (omega arith) (λ k d lt. (c.stmts.invariant.numbered k d (omega arith)).0)) ∙ stmts_shape _);
  numbers = stmts_numbers (map stmt_views.view_stmt c.stmts.stmts) ∙ (all_numbers-map stmt_views.view_stmt numbering.stmt_numbers c.stmts.stmts ∙ (renumbered_all (λ x. numbering.stmt_numbers (stmt_views.view_stmt x)) c.args.first c.args.stmts.now c.stmts.stmts (omega arith) (λ k d lt. (c.stmts.invariant.numbered k d (omega arith)).1) ∙ ap (renumbered c.args.first) (sym (stmts_numbers (map stmt_views.view_stmt c.args.stmts.now) ∙ all_numbers-map stmt_views.view_stmt numbering.stmt_numbers c.args.stmts.now))));
  next = c.stmts.invariant.begins ∙ (ap (start (λ x. numbering.stmt_numbers (stmt_views.view_stmt x)) c.args.first c.args.stmts.now) (omega arith) ∙ (start_all (λ x. numbering.stmt_numbers (stmt_views.view_stmt x)) c.args.first c.args.stmts.now ∙ ap (λ zs. past zs c.args.first) (sym (stmts_numbers (map stmt_views.view_stmt c.args.stmts.now) ∙ all_numbers-map stmt_views.view_stmt numbering.stmt_numbers c.args.stmts.now))));
}

pub number_branches-returns : goal.number_branches-returns
number_branches-returns t c = record {
  kept = sym (branches_shape _) ∙ (ap stmt_views.branches_of (all_kept stmt_views.view_branch shape_branch c.args.branches.now c.branches.branches (omega arith) (λ k d lt. let parts = c.branches.invariant.numbered k d (omega arith) in rw (parts.0, parts.1) refl)) ∙ branches_shape _);
  numbers = branches_numbers (map stmt_views.view_branch c.branches.branches) ∙ (all_numbers-map stmt_views.view_branch branch_numbers c.branches.branches ∙ (renumbered_all (λ x. branch_numbers (stmt_views.view_branch x)) c.args.first c.args.branches.now c.branches.branches (omega arith) (λ k d lt. (c.branches.invariant.numbered k d (omega arith)).2) ∙ ap (renumbered c.args.first) (sym (branches_numbers (map stmt_views.view_branch c.args.branches.now) ∙ all_numbers-map stmt_views.view_branch branch_numbers c.args.branches.now))));
  next = c.branches.invariant.begins ∙ (ap (start (λ x. branch_numbers (stmt_views.view_branch x)) c.args.first c.args.branches.now) (omega arith) ∙ (start_all (λ x. branch_numbers (stmt_views.view_branch x)) c.args.first c.args.branches.now ∙ ap (λ zs. past zs c.args.first) (sym (branches_numbers (map stmt_views.view_branch c.args.branches.now) ∙ all_numbers-map stmt_views.view_branch branch_numbers c.args.branches.now))));
}

pub number_handlers-returns : goal.number_handlers-returns
number_handlers-returns t c = record {
  kept = sym (excepts_shape _) ∙ (ap stmt_views.excepts_of (all_kept stmt_views.view_except (maps.map_except no_blocks) c.args.handlers.now c.handlers.handlers (omega arith) (λ k d lt. (c.handlers.invariant.numbered k d (omega arith)).0)) ∙ excepts_shape _);
  numbers = excepts_numbers (map stmt_views.view_except c.handlers.handlers) ∙ (all_numbers-map stmt_views.view_except numbering.except_numbers c.handlers.handlers ∙ (renumbered_all (λ x. numbering.except_numbers (stmt_views.view_except x)) c.args.first c.args.handlers.now c.handlers.handlers (omega arith) (λ k d lt. (c.handlers.invariant.numbered k d (omega arith)).1) ∙ ap (renumbered c.args.first) (sym (excepts_numbers (map stmt_views.view_except c.args.handlers.now) ∙ all_numbers-map stmt_views.view_except numbering.except_numbers c.args.handlers.now))));
  next = c.handlers.invariant.begins ∙ (ap (start (λ x. numbering.except_numbers (stmt_views.view_except x)) c.args.first c.args.handlers.now) (omega arith) ∙ (start_all (λ x. numbering.except_numbers (stmt_views.view_except x)) c.args.first c.args.handlers.now ∙ ap (λ zs. past zs c.args.first) (sym (excepts_numbers (map stmt_views.view_except c.args.handlers.now) ∙ all_numbers-map stmt_views.view_except numbering.except_numbers c.args.handlers.now))));
}

-- variants

pub number_stmt_form-returns-in-Assign-clause-numbers : goal.number_stmt_form-returns-in-Assign-clause-numbers
number_stmt_form-returns-in-Assign-clause-numbers t c = first_of (grind (arith, common_steps, stmt_assign, append_runs), grind (arith, stmt_assign, append_runs), search (rules, stmt_assign, append_runs))

pub number_stmt_form-returns-in-Del-clause-kept : goal.number_stmt_form-returns-in-Del-clause-kept
number_stmt_form-returns-in-Del-clause-kept t c = grind (arith, common_steps, stmt_del)

pub number_stmt_form-returns-in-Del-clause-numbers : goal.number_stmt_form-returns-in-Del-clause-numbers
number_stmt_form-returns-in-Del-clause-numbers t c = first_of (grind (arith, common_steps, stmt_del, append_runs), grind (arith, stmt_del, append_runs), search (rules, stmt_del, append_runs))

pub number_stmt_form-returns-in-While-clause-kept : goal.number_stmt_form-returns-in-While-clause-kept
number_stmt_form-returns-in-While-clause-kept t c = grind (arith, common_steps, stmt_while)

pub number_stmt_form-returns-in-While-clause-numbers : goal.number_stmt_form-returns-in-While-clause-numbers
number_stmt_form-returns-in-While-clause-numbers t c = first_of (grind (arith, common_steps, stmt_while, append_runs), grind (arith, stmt_while, append_runs), search (rules, stmt_while, append_runs))

pub number_stmt_form-returns-in-For-clause-kept : goal.number_stmt_form-returns-in-For-clause-kept
number_stmt_form-returns-in-For-clause-kept t c = grind (arith, common_steps, stmt_for)

pub number_stmt_form-returns-in-For-clause-numbers : goal.number_stmt_form-returns-in-For-clause-numbers
number_stmt_form-returns-in-For-clause-numbers t c = first_of (grind (arith, common_steps, stmt_for, append_runs), grind (arith, stmt_for, append_runs), search (rules, stmt_for, append_runs))

pub number_stmt_form-returns-in-Def-clause-kept : goal.number_stmt_form-returns-in-Def-clause-kept
number_stmt_form-returns-in-Def-clause-kept t c = let read : c.deref_mut-in-Def.result.now ≡ c.in-Def.body.items = first_of (search rules, grind arith, grind (arith, common_steps)) in let block = forms.filled_kept stmt_views.view_stmts (maps.map_stmts no_blocks) _ c.in-Def.body c.deref_mut-in-Def.result.now c.number_block-in-Def.new.stmts c.in-Def.body-is (read ∙ ap (λ x. x.items) (sym c.in-Def.body-is)) (omega arith) c.number_block-in-Def.ensures.kept in let params : maps.map_params no_blocks (views.view_params c.number_params-body_first.new.params) ≡ maps.map_params no_blocks (views.view_params c.in-Def.params) = first_of (search rules, grind arith, grind (arith, common_steps)) in blocks.def_kept _ c.in-Def.block _ c.in-Def._named _ c.in-Def.params _ c.in-Def.body _ c.in-Def.is c.in-Def._named-is params block

pub number_stmt_form-returns-in-Def-clause-numbers : goal.number_stmt_form-returns-in-Def-clause-numbers
number_stmt_form-returns-in-Def-clause-numbers t c = let read : c.deref_mut-in-Def.result.now ≡ c.in-Def.body.items = first_of (search rules, grind arith, grind (arith, common_steps)) in let block = forms.filled_numbers stmt_views.view_stmts numbering.block_numbers _ _ c.in-Def.body c.deref_mut-in-Def.result.now c.number_block-in-Def.new.stmts c.in-Def.body-is (read ∙ ap (λ x. x.items) (sym c.in-Def.body-is)) (omega arith) c.number_block-in-Def.ensures.numbers in first_of (grind (arith, stmt_def, block, append_runs), grind (arith, common_steps, stmt_def, block, append_runs), search (rules, stmt_def, block, append_runs))

pub number_stmt_form-returns-in-Class-clause-kept : goal.number_stmt_form-returns-in-Class-clause-kept
number_stmt_form-returns-in-Class-clause-kept t c = let read : c.deref_mut-in-Class.result.now ≡ c.in-Class.body.items = first_of (search rules, grind arith, grind (arith, common_steps)) in let block = forms.filled_kept stmt_views.view_stmts (maps.map_stmts no_blocks) _ c.in-Class.body c.deref_mut-in-Class.result.now c.number_block-in-Class.new.stmts c.in-Class.body-is (read ∙ ap (λ x. x.items) (sym c.in-Class.body-is)) (omega arith) c.number_block-in-Class.ensures.kept in first_of (grind (arith, stmt_class, block), grind (arith, common_steps, stmt_class, block), search (rules, stmt_class, block))

pub number_stmt_form-returns-in-Class-clause-numbers : goal.number_stmt_form-returns-in-Class-clause-numbers
number_stmt_form-returns-in-Class-clause-numbers t c = let read : c.deref_mut-in-Class.result.now ≡ c.in-Class.body.items = first_of (search rules, grind arith, grind (arith, common_steps)) in let block = forms.filled_numbers stmt_views.view_stmts numbering.block_numbers _ _ c.in-Class.body c.deref_mut-in-Class.result.now c.number_block-in-Class.new.stmts c.in-Class.body-is (read ∙ ap (λ x. x.items) (sym c.in-Class.body-is)) (omega arith) c.number_block-in-Class.ensures.numbers in first_of (grind (arith, stmt_class, block, append_runs), grind (arith, common_steps, stmt_class, block, append_runs), search (rules, stmt_class, block, append_runs))

pub number_branch-returns-clause-numbers : goal.number_branch-returns-clause-numbers
number_branch-returns-clause-numbers t c = blocks.branch_numbered c.args.branch.now (record { test = c.number_expr-body_first.new.expr; body = (out-Branch c.args.branch.now).body }) c.args.first c.number_expr-body_first.result c.deref_mut.result.now c.number_block.new.stmts refl c.number_expr-body_first.ensures.numbers c.number_expr-body_first.ensures.next c.deref_mut.ensures.value (omega arith) c.number_block.ensures.numbers

pub number_branch-returns-clause-next : goal.number_branch-returns-clause-next
unfolding out-Branch
number_branch-returns-clause-next t c = blocks.branch_next c.args.branch.now c.args.first c.number_expr-body_first.result c.number_block.result c.number_expr-body_first.ensures.next (c.number_block.ensures.next ∙ ap (λ xs. past (numbering.block_numbers (stmt_views.view_stmts xs)) c.number_expr-body_first.result) (c.deref_mut.ensures.value ∙ blocks.out_body (record { test = c.number_expr-body_first.new.expr; body = (out-Branch c.args.branch.now).body })))

pub number_handler-returns-clause-numbers : goal.number_handler-returns-clause-numbers
number_handler-returns-clause-numbers t c = blocks.except_numbered c.args.handler.now (record { kind = c.number_value-body_first.new.value; name = (out-Except c.args.handler.now).name; body = (out-Except c.args.handler.now).body }) c.args.first c.number_value-body_first.result c.deref_mut.result.now c.number_block.new.stmts refl c.number_value-body_first.ensures.numbers c.number_value-body_first.ensures.next c.deref_mut.ensures.value (omega arith) c.number_block.ensures.numbers

pub number_handler-returns-clause-next : goal.number_handler-returns-clause-next
unfolding out-Except
number_handler-returns-clause-next t c = blocks.except_next c.args.handler.now c.args.first c.number_value-body_first.result c.number_block.result c.number_value-body_first.ensures.next (c.number_block.ensures.next ∙ ap (λ xs. past (numbering.block_numbers (stmt_views.view_stmts xs)) c.number_value-body_first.result) (c.deref_mut.ensures.value ∙ blocks.out_handled (record { kind = c.number_value-body_first.new.value; name = (out-Except c.args.handler.now).name; body = (out-Except c.args.handler.now).body })))

pub number_block-stmts-preserved : goal.number_block-stmts-preserved
number_block-stmts-preserved t c = record {
  unvisited = unvisited_more c.args.stmts.now c.stmts.stmts c.stmts.stmt-index _ c.stmts.invariant.unvisited.0 c.stmts.invariant.unvisited.1;
  numbered = more (λ k x y. (maps.map_stmt no_blocks (stmt_views.view_stmt x) ≡ maps.map_stmt no_blocks (stmt_views.view_stmt y)) × (numbering.stmt_numbers (stmt_views.view_stmt x) ≡ renumbered (start (λ x. numbering.stmt_numbers (stmt_views.view_stmt x)) c.args.first c.args.stmts.now k) (numbering.stmt_numbers (stmt_views.view_stmt y)))) c.args.stmts.now c.stmts.stmts c.stmts.stmt-index c.stmt-item.result _ (omega arith) c.stmts.invariant.unvisited.0 c.stmts.invariant.unvisited.1 c.stmts.invariant.numbered (c.number_stmt-next.ensures.kept, c.number_stmt-next.ensures.numbers ∙ ap (λ z. renumbered z (numbering.stmt_numbers (stmt_views.view_stmt (get_or c.stmts.stmts c.stmts.stmt-index c.stmt-item.result)))) c.stmts.invariant.begins);
  begins = begins_more (λ x. numbering.stmt_numbers (stmt_views.view_stmt x)) c.args.first c.args.stmts.now c.stmts.stmts c.stmts.stmt-index c.stmt-item.result c.stmts.next _ (omega arith) c.stmts.invariant.unvisited.0 c.stmts.invariant.unvisited.1 c.stmts.invariant.begins (c.number_stmt-next.ensures.next);
}

pub number_handlers-handlers-preserved : goal.number_handlers-handlers-preserved
number_handlers-handlers-preserved t c = record {
  unvisited = unvisited_more c.args.handlers.now c.handlers.handlers c.handlers.handler-index _ c.handlers.invariant.unvisited.0 c.handlers.invariant.unvisited.1;
  numbered = more (λ k x y. (maps.map_except no_blocks (stmt_views.view_except x) ≡ maps.map_except no_blocks (stmt_views.view_except y)) × (numbering.except_numbers (stmt_views.view_except x) ≡ renumbered (start (λ x. numbering.except_numbers (stmt_views.view_except x)) c.args.first c.args.handlers.now k) (numbering.except_numbers (stmt_views.view_except y)))) c.args.handlers.now c.handlers.handlers c.handlers.handler-index c.handler-item.result _ (omega arith) c.handlers.invariant.unvisited.0 c.handlers.invariant.unvisited.1 c.handlers.invariant.numbered (c.number_handler-next.ensures.kept, c.number_handler-next.ensures.numbers ∙ ap (λ z. renumbered z (numbering.except_numbers (stmt_views.view_except (get_or c.handlers.handlers c.handlers.handler-index c.handler-item.result)))) c.handlers.invariant.begins);
  begins = begins_more (λ x. numbering.except_numbers (stmt_views.view_except x)) c.args.first c.args.handlers.now c.handlers.handlers c.handlers.handler-index c.handler-item.result c.handlers.next _ (omega arith) c.handlers.invariant.unvisited.0 c.handlers.invariant.unvisited.1 c.handlers.invariant.begins (c.number_handler-next.ensures.next);
}

pub number_branches-branches-preserved : goal.number_branches-branches-preserved
number_branches-branches-preserved t c = record {
  unvisited = unvisited_more c.args.branches.now c.branches.branches c.branches.branch-index _ c.branches.invariant.unvisited.0 c.branches.invariant.unvisited.1;
  numbered = more (λ k x y. (maps.map_expr no_blocks (stmt_views.view_branch x).0 ≡ maps.map_expr no_blocks (stmt_views.view_branch y).0) × (maps.map_stmts no_blocks (stmt_views.view_branch x).1 ≡ maps.map_stmts no_blocks (stmt_views.view_branch y).1) × (branch_numbers (stmt_views.view_branch x) ≡ renumbered (start (λ x. branch_numbers (stmt_views.view_branch x)) c.args.first c.args.branches.now k) (branch_numbers (stmt_views.view_branch y)))) c.args.branches.now c.branches.branches c.branches.branch-index c.branch-item.result _ (omega arith) c.branches.invariant.unvisited.0 c.branches.invariant.unvisited.1 c.branches.invariant.numbered (c.number_branch-next.ensures.test, c.number_branch-next.ensures.body, c.number_branch-next.ensures.numbers ∙ ap (λ z. renumbered z (branch_numbers (stmt_views.view_branch (get_or c.branches.branches c.branches.branch-index c.branch-item.result)))) c.branches.invariant.begins);
  begins = begins_more (λ x. branch_numbers (stmt_views.view_branch x)) c.args.first c.args.branches.now c.branches.branches c.branches.branch-index c.branch-item.result c.branches.next _ (omega arith) c.branches.invariant.unvisited.0 c.branches.invariant.unvisited.1 c.branches.invariant.begins (c.number_branch-next.ensures.next);
}

pub number_stmt_form-returns-in-Some-clause-kept : goal.number_stmt_form-returns-in-Some-clause-kept
number_stmt_form-returns-in-Some-clause-kept t c = blocks.if_kept _ c.in-If.branches _ c.in-If.other (Some (with_items c.in-Some.stmts c.number_block.new.stmts)) c.in-If.is (forms.filled_kept (λ xs. stmt_views.branches_of (map stmt_views.view_branch xs)) (maps.map_branches no_blocks) _ c.in-If.branches c.deref_mut-in-If.result.now c.number_branches-other_first.new.branches c.in-If.branches-is c.deref_mut-in-If.ensures.value (omega arith) c.number_branches-other_first.ensures.kept) (blocks.maybe_kept _ c.in-If.other c.in-Some.stmts c.deref_mut-in-Some.result.now c.number_block.new.stmts c.in-Some.is c.in-If.other-is c.deref_mut-in-Some.ensures.value (omega arith) c.number_block.ensures.kept)

pub number_stmt_form-returns-in-Some-clause-numbers : goal.number_stmt_form-returns-in-Some-clause-numbers
number_stmt_form-returns-in-Some-clause-numbers t c = blocks.if_numbers _ c.in-If.branches _ c.in-If.other (Some (with_items c.in-Some.stmts c.number_block.new.stmts)) c.args.first c.number_branches-other_first.result c.in-If.is (forms.filled_numbers (λ xs. stmt_views.branches_of (map stmt_views.view_branch xs)) numbering.branches_numbers c.args.first _ c.in-If.branches c.deref_mut-in-If.result.now c.number_branches-other_first.new.branches c.in-If.branches-is c.deref_mut-in-If.ensures.value (omega arith) c.number_branches-other_first.ensures.numbers) (c.number_branches-other_first.ensures.next ∙ ap (λ xs. past (numbering.branches_numbers (stmt_views.branches_of (map stmt_views.view_branch xs))) c.args.first) (c.deref_mut-in-If.ensures.value ∙ forms.items_alike _ _ c.in-If.branches-is)) (blocks.maybe_numbers _ c.in-If.other c.in-Some.stmts c.number_branches-other_first.result c.deref_mut-in-Some.result.now c.number_block.new.stmts c.in-Some.is c.in-If.other-is c.deref_mut-in-Some.ensures.value (omega arith) c.number_block.ensures.numbers)

pub number_stmt_form-returns-in-None-last-clause-kept : goal.number_stmt_form-returns-in-None-last-clause-kept
number_stmt_form-returns-in-None-last-clause-kept t c = blocks.try_kept _ c.in-Try.body _ c.in-Try.handlers _ c.in-Try.other _ c.in-Try.last _ c.in-Try.is (forms.filled_kept stmt_views.view_stmts (maps.map_stmts no_blocks) _ c.in-Try.body c.deref_mut-in-Try.result.now c.number_block-handlers_first.new.stmts c.in-Try.body-is c.deref_mut-in-Try.ensures.value (omega arith) c.number_block-handlers_first.ensures.kept) (forms.filled_kept (λ xs. stmt_views.excepts_of (map stmt_views.view_except xs)) (maps.map_excepts no_blocks) _ c.in-Try.handlers c.deref_mut-in-Try-2.result.now c.number_handlers-other_first.new.handlers c.in-Try.handlers-is c.deref_mut-in-Try-2.ensures.value (omega arith) c.number_handlers-other_first.ensures.kept) (ap (λ x. maps.map_maybe_stmts no_blocks (stmt_views.view_maybe_stmts x)) c.in-Try.other-is) (ap (λ x. maps.map_maybe_stmts no_blocks (stmt_views.view_maybe_stmts x)) c.in-Try.last-is)

pub number_stmt_form-returns-in-None-last-clause-numbers : goal.number_stmt_form-returns-in-None-last-clause-numbers
number_stmt_form-returns-in-None-last-clause-numbers t c = blocks.try_numbers _ c.in-Try.body _ c.in-Try.handlers _ c.in-Try.other _ c.in-Try.last _ c.args.first c.number_block-handlers_first.result c.number_handlers-other_first.result c.number_handlers-other_first.result c.in-Try.is (forms.filled_numbers stmt_views.view_stmts numbering.block_numbers c.args.first _ c.in-Try.body c.deref_mut-in-Try.result.now c.number_block-handlers_first.new.stmts c.in-Try.body-is c.deref_mut-in-Try.ensures.value (omega arith) c.number_block-handlers_first.ensures.numbers) (c.number_block-handlers_first.ensures.next ∙ ap (λ xs. past (numbering.block_numbers (stmt_views.view_stmts xs)) c.args.first) (c.deref_mut-in-Try.ensures.value ∙ forms.items_alike _ _ c.in-Try.body-is)) (forms.filled_numbers (λ xs. stmt_views.excepts_of (map stmt_views.view_except xs)) numbering.excepts_numbers c.number_block-handlers_first.result _ c.in-Try.handlers c.deref_mut-in-Try-2.result.now c.number_handlers-other_first.new.handlers c.in-Try.handlers-is c.deref_mut-in-Try-2.ensures.value (omega arith) c.number_handlers-other_first.ensures.numbers) (c.number_handlers-other_first.ensures.next ∙ ap (λ xs. past (numbering.excepts_numbers (stmt_views.excepts_of (map stmt_views.view_except xs))) c.number_block-handlers_first.result) (c.deref_mut-in-Try-2.ensures.value ∙ forms.items_alike _ _ c.in-Try.handlers-is)) (blocks.missing_numbers _ c.in-Try.other c.number_handlers-other_first.result c.in-None-other.is c.in-Try.other-is) (blocks.missing_next _ c.in-Try.other c.number_handlers-other_first.result c.in-None-other.is c.in-Try.other-is) (blocks.missing_numbers _ c.in-Try.last c.number_handlers-other_first.result c.in-None-last.is c.in-Try.last-is)

pub number_stmt_form-returns-in-Some-last-clause-kept : goal.number_stmt_form-returns-in-Some-last-clause-kept
number_stmt_form-returns-in-Some-last-clause-kept t c = blocks.try_kept _ c.in-Try.body _ c.in-Try.handlers _ c.in-Try.other _ c.in-Try.last (Some (with_items c.in-Some-last.finals c.number_block-in-Some-last.new.stmts)) c.in-Try.is (forms.filled_kept stmt_views.view_stmts (maps.map_stmts no_blocks) _ c.in-Try.body c.deref_mut-in-Try.result.now c.number_block-handlers_first.new.stmts c.in-Try.body-is c.deref_mut-in-Try.ensures.value (omega arith) c.number_block-handlers_first.ensures.kept) (forms.filled_kept (λ xs. stmt_views.excepts_of (map stmt_views.view_except xs)) (maps.map_excepts no_blocks) _ c.in-Try.handlers c.deref_mut-in-Try-2.result.now c.number_handlers-other_first.new.handlers c.in-Try.handlers-is c.deref_mut-in-Try-2.ensures.value (omega arith) c.number_handlers-other_first.ensures.kept) (ap (λ x. maps.map_maybe_stmts no_blocks (stmt_views.view_maybe_stmts x)) c.in-Try.other-is) (blocks.maybe_kept _ c.in-Try.last c.in-Some-last.finals c.deref_mut-in-Some-last.result.now c.number_block-in-Some-last.new.stmts c.in-Some-last.is c.in-Try.last-is c.deref_mut-in-Some-last.ensures.value (omega arith) c.number_block-in-Some-last.ensures.kept)

pub number_stmt_form-returns-in-Some-last-clause-numbers : goal.number_stmt_form-returns-in-Some-last-clause-numbers
number_stmt_form-returns-in-Some-last-clause-numbers t c = blocks.try_numbers _ c.in-Try.body _ c.in-Try.handlers _ c.in-Try.other _ c.in-Try.last (Some (with_items c.in-Some-last.finals c.number_block-in-Some-last.new.stmts)) c.args.first c.number_block-handlers_first.result c.number_handlers-other_first.result c.number_handlers-other_first.result c.in-Try.is (forms.filled_numbers stmt_views.view_stmts numbering.block_numbers c.args.first _ c.in-Try.body c.deref_mut-in-Try.result.now c.number_block-handlers_first.new.stmts c.in-Try.body-is c.deref_mut-in-Try.ensures.value (omega arith) c.number_block-handlers_first.ensures.numbers) (c.number_block-handlers_first.ensures.next ∙ ap (λ xs. past (numbering.block_numbers (stmt_views.view_stmts xs)) c.args.first) (c.deref_mut-in-Try.ensures.value ∙ forms.items_alike _ _ c.in-Try.body-is)) (forms.filled_numbers (λ xs. stmt_views.excepts_of (map stmt_views.view_except xs)) numbering.excepts_numbers c.number_block-handlers_first.result _ c.in-Try.handlers c.deref_mut-in-Try-2.result.now c.number_handlers-other_first.new.handlers c.in-Try.handlers-is c.deref_mut-in-Try-2.ensures.value (omega arith) c.number_handlers-other_first.ensures.numbers) (c.number_handlers-other_first.ensures.next ∙ ap (λ xs. past (numbering.excepts_numbers (stmt_views.excepts_of (map stmt_views.view_except xs))) c.number_block-handlers_first.result) (c.deref_mut-in-Try-2.ensures.value ∙ forms.items_alike _ _ c.in-Try.handlers-is)) (blocks.missing_numbers _ c.in-Try.other c.number_handlers-other_first.result c.in-None-other.is c.in-Try.other-is) (blocks.missing_next _ c.in-Try.other c.number_handlers-other_first.result c.in-None-other.is c.in-Try.other-is) (blocks.maybe_numbers _ c.in-Try.last c.in-Some-last.finals c.number_handlers-other_first.result c.deref_mut-in-Some-last.result.now c.number_block-in-Some-last.new.stmts c.in-Some-last.is c.in-Try.last-is c.deref_mut-in-Some-last.ensures.value (omega arith) c.number_block-in-Some-last.ensures.numbers)

pub number_stmt_form-returns-in-None-last-2-clause-kept : goal.number_stmt_form-returns-in-None-last-2-clause-kept
number_stmt_form-returns-in-None-last-2-clause-kept t c = blocks.try_kept _ c.in-Try.body _ c.in-Try.handlers _ c.in-Try.other (Some (with_items c.in-Some-other.stmts c.number_block-finals_first.new.stmts)) c.in-Try.last _ c.in-Try.is (forms.filled_kept stmt_views.view_stmts (maps.map_stmts no_blocks) _ c.in-Try.body c.deref_mut-in-Try.result.now c.number_block-handlers_first.new.stmts c.in-Try.body-is c.deref_mut-in-Try.ensures.value (omega arith) c.number_block-handlers_first.ensures.kept) (forms.filled_kept (λ xs. stmt_views.excepts_of (map stmt_views.view_except xs)) (maps.map_excepts no_blocks) _ c.in-Try.handlers c.deref_mut-in-Try-2.result.now c.number_handlers-other_first.new.handlers c.in-Try.handlers-is c.deref_mut-in-Try-2.ensures.value (omega arith) c.number_handlers-other_first.ensures.kept) (blocks.maybe_kept _ c.in-Try.other c.in-Some-other.stmts c.deref_mut-in-Some-other.result.now c.number_block-finals_first.new.stmts c.in-Some-other.is c.in-Try.other-is c.deref_mut-in-Some-other.ensures.value (omega arith) c.number_block-finals_first.ensures.kept) (ap (λ x. maps.map_maybe_stmts no_blocks (stmt_views.view_maybe_stmts x)) c.in-Try.last-is)

pub number_stmt_form-returns-in-None-last-2-clause-numbers : goal.number_stmt_form-returns-in-None-last-2-clause-numbers
number_stmt_form-returns-in-None-last-2-clause-numbers t c = blocks.try_numbers _ c.in-Try.body _ c.in-Try.handlers _ c.in-Try.other (Some (with_items c.in-Some-other.stmts c.number_block-finals_first.new.stmts)) c.in-Try.last _ c.args.first c.number_block-handlers_first.result c.number_handlers-other_first.result c.number_block-finals_first.result c.in-Try.is (forms.filled_numbers stmt_views.view_stmts numbering.block_numbers c.args.first _ c.in-Try.body c.deref_mut-in-Try.result.now c.number_block-handlers_first.new.stmts c.in-Try.body-is c.deref_mut-in-Try.ensures.value (omega arith) c.number_block-handlers_first.ensures.numbers) (c.number_block-handlers_first.ensures.next ∙ ap (λ xs. past (numbering.block_numbers (stmt_views.view_stmts xs)) c.args.first) (c.deref_mut-in-Try.ensures.value ∙ forms.items_alike _ _ c.in-Try.body-is)) (forms.filled_numbers (λ xs. stmt_views.excepts_of (map stmt_views.view_except xs)) numbering.excepts_numbers c.number_block-handlers_first.result _ c.in-Try.handlers c.deref_mut-in-Try-2.result.now c.number_handlers-other_first.new.handlers c.in-Try.handlers-is c.deref_mut-in-Try-2.ensures.value (omega arith) c.number_handlers-other_first.ensures.numbers) (c.number_handlers-other_first.ensures.next ∙ ap (λ xs. past (numbering.excepts_numbers (stmt_views.excepts_of (map stmt_views.view_except xs))) c.number_block-handlers_first.result) (c.deref_mut-in-Try-2.ensures.value ∙ forms.items_alike _ _ c.in-Try.handlers-is)) (blocks.maybe_numbers _ c.in-Try.other c.in-Some-other.stmts c.number_handlers-other_first.result c.deref_mut-in-Some-other.result.now c.number_block-finals_first.new.stmts c.in-Some-other.is c.in-Try.other-is c.deref_mut-in-Some-other.ensures.value (omega arith) c.number_block-finals_first.ensures.numbers) (c.number_block-finals_first.ensures.next ∙ (ap (λ xs. past (numbering.block_numbers (stmt_views.view_stmts xs)) c.number_handlers-other_first.result) c.deref_mut-in-Some-other.ensures.value ∙ ap (λ x. past (numbering.maybe_stmts_numbers (stmt_views.view_maybe_stmts x)) c.number_handlers-other_first.result) (sym c.in-Some-other.is ∙ c.in-Try.other-is))) (blocks.missing_numbers _ c.in-Try.last c.number_block-finals_first.result c.in-None-last-2.is c.in-Try.last-is)

pub number_stmt_form-returns-in-Some-last-2-clause-kept : goal.number_stmt_form-returns-in-Some-last-2-clause-kept
number_stmt_form-returns-in-Some-last-2-clause-kept t c = blocks.try_kept _ c.in-Try.body _ c.in-Try.handlers _ c.in-Try.other (Some (with_items c.in-Some-other.stmts c.number_block-finals_first.new.stmts)) c.in-Try.last (Some (with_items c.in-Some-last-2.finals c.number_block-in-Some-last-2.new.stmts)) c.in-Try.is (forms.filled_kept stmt_views.view_stmts (maps.map_stmts no_blocks) _ c.in-Try.body c.deref_mut-in-Try.result.now c.number_block-handlers_first.new.stmts c.in-Try.body-is c.deref_mut-in-Try.ensures.value (omega arith) c.number_block-handlers_first.ensures.kept) (forms.filled_kept (λ xs. stmt_views.excepts_of (map stmt_views.view_except xs)) (maps.map_excepts no_blocks) _ c.in-Try.handlers c.deref_mut-in-Try-2.result.now c.number_handlers-other_first.new.handlers c.in-Try.handlers-is c.deref_mut-in-Try-2.ensures.value (omega arith) c.number_handlers-other_first.ensures.kept) (blocks.maybe_kept _ c.in-Try.other c.in-Some-other.stmts c.deref_mut-in-Some-other.result.now c.number_block-finals_first.new.stmts c.in-Some-other.is c.in-Try.other-is c.deref_mut-in-Some-other.ensures.value (omega arith) c.number_block-finals_first.ensures.kept) (blocks.maybe_kept _ c.in-Try.last c.in-Some-last-2.finals c.deref_mut-in-Some-last-2.result.now c.number_block-in-Some-last-2.new.stmts c.in-Some-last-2.is c.in-Try.last-is c.deref_mut-in-Some-last-2.ensures.value (omega arith) c.number_block-in-Some-last-2.ensures.kept)

pub number_stmt_form-returns-in-Some-last-2-clause-numbers : goal.number_stmt_form-returns-in-Some-last-2-clause-numbers
number_stmt_form-returns-in-Some-last-2-clause-numbers t c = blocks.try_numbers _ c.in-Try.body _ c.in-Try.handlers _ c.in-Try.other (Some (with_items c.in-Some-other.stmts c.number_block-finals_first.new.stmts)) c.in-Try.last (Some (with_items c.in-Some-last-2.finals c.number_block-in-Some-last-2.new.stmts)) c.args.first c.number_block-handlers_first.result c.number_handlers-other_first.result c.number_block-finals_first.result c.in-Try.is (forms.filled_numbers stmt_views.view_stmts numbering.block_numbers c.args.first _ c.in-Try.body c.deref_mut-in-Try.result.now c.number_block-handlers_first.new.stmts c.in-Try.body-is c.deref_mut-in-Try.ensures.value (omega arith) c.number_block-handlers_first.ensures.numbers) (c.number_block-handlers_first.ensures.next ∙ ap (λ xs. past (numbering.block_numbers (stmt_views.view_stmts xs)) c.args.first) (c.deref_mut-in-Try.ensures.value ∙ forms.items_alike _ _ c.in-Try.body-is)) (forms.filled_numbers (λ xs. stmt_views.excepts_of (map stmt_views.view_except xs)) numbering.excepts_numbers c.number_block-handlers_first.result _ c.in-Try.handlers c.deref_mut-in-Try-2.result.now c.number_handlers-other_first.new.handlers c.in-Try.handlers-is c.deref_mut-in-Try-2.ensures.value (omega arith) c.number_handlers-other_first.ensures.numbers) (c.number_handlers-other_first.ensures.next ∙ ap (λ xs. past (numbering.excepts_numbers (stmt_views.excepts_of (map stmt_views.view_except xs))) c.number_block-handlers_first.result) (c.deref_mut-in-Try-2.ensures.value ∙ forms.items_alike _ _ c.in-Try.handlers-is)) (blocks.maybe_numbers _ c.in-Try.other c.in-Some-other.stmts c.number_handlers-other_first.result c.deref_mut-in-Some-other.result.now c.number_block-finals_first.new.stmts c.in-Some-other.is c.in-Try.other-is c.deref_mut-in-Some-other.ensures.value (omega arith) c.number_block-finals_first.ensures.numbers) (c.number_block-finals_first.ensures.next ∙ (ap (λ xs. past (numbering.block_numbers (stmt_views.view_stmts xs)) c.number_handlers-other_first.result) c.deref_mut-in-Some-other.ensures.value ∙ ap (λ x. past (numbering.maybe_stmts_numbers (stmt_views.view_maybe_stmts x)) c.number_handlers-other_first.result) (sym c.in-Some-other.is ∙ c.in-Try.other-is))) (blocks.maybe_numbers _ c.in-Try.last c.in-Some-last-2.finals c.number_block-finals_first.result c.deref_mut-in-Some-last-2.result.now c.number_block-in-Some-last-2.new.stmts c.in-Some-last-2.is c.in-Try.last-is c.deref_mut-in-Some-last-2.ensures.value (omega arith) c.number_block-in-Some-last-2.ensures.numbers)
