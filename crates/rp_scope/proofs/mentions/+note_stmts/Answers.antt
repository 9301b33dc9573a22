use Rattle.std.proofs.Common.{◌≡◌, ◌++◌, map, ap, sym, ◌∙◌, arith, rules}
use Rattle.std.proofs.lemmas.Grind.{common_steps}
use Rattle.rp_tree.specs.StatementViews as stmt_views
use Rattle.rp_scope.specs.Bindings as bindings
use Rattle.rp_scope.specs.Bindings.{all_bound}
use Rattle.rp_scope.specs.MentionSteps.{listed}
use Rattle.rp_scope.proofs.Appends.{grown}
use Rattle.rp_scope.proofs.Listings.{listings, listed-append, inner_none, on_ok, maybe_part, listed_four}
use Rattle.rp_tree.proofs.ExpressionEquations.{walk_out}
use Rattle.rp_tree.proofs.StatementEquations.{stmt_out, branch_out, except_out, stmt_for, stmt_try}
use Rattle.rp_scope.proofs.Laid.{grown_four}
use Rattle.rp_scope.proofs.mentions.+note_stmts.Goals as goal

pub note_stmts-stmts-preserved : goal.note_stmts-stmts-preserved
note_stmts-stmts-preserved t c =
    let step : c.note_form.new.list.items ≡ c.stmts.list.items ++ listed c.args.listing (bindings.stmt_mentions (stmt_views.view_stmt c.stmt-item.result)) = first_of (grind (arith, common_steps, stmt_out), search (rules, stmt_out), grind (arith, stmt_out)) in
    grown (λ xs. listed c.args.listing (bindings.stmts_mentions (stmt_views.stmts_of (map stmt_views.view_stmt xs)))) c.args.stmts.now c.stmts.stmt-index c.stmt-item.result (listed c.args.listing (bindings.stmt_mentions (stmt_views.view_stmt c.stmt-item.result))) c.stmts.list.items c.note_form.new.list.items c.args.list.now.items (omega arith) c.stmt-item.is (λ rest. listed-append c.args.listing (bindings.stmt_mentions (stmt_views.view_stmt c.stmt-item.result)) (bindings.stmts_mentions (stmt_views.stmts_of (map stmt_views.view_stmt rest)))) step c.stmts.invariant

pub note_branches-branches-preserved : goal.note_branches-branches-preserved
note_branches-branches-preserved t c =
    let step : c.note_stmts.new.list.items ≡ c.branches.list.items ++ listed c.args.listing (bindings.stmts_mentions (stmt_views.view_branch c.branch-item.result).1) = first_of (grind (arith, common_steps, branch_out), search (rules, branch_out), grind (arith, branch_out)) in
    grown (λ xs. listed c.args.listing (bindings.branches_mentions (stmt_views.branches_of (map stmt_views.view_branch xs)))) c.args.branches.now c.branches.branch-index c.branch-item.result (listed c.args.listing (bindings.stmts_mentions (stmt_views.view_branch c.branch-item.result).1)) c.branches.list.items c.note_stmts.new.list.items c.args.list.now.items (omega arith) c.branch-item.is (λ rest. listed-append c.args.listing (bindings.stmts_mentions (stmt_views.view_branch c.branch-item.result).1) (bindings.branches_mentions (stmt_views.branches_of (map stmt_views.view_branch rest)))) step c.branches.invariant

pub note_handlers-handlers-preserved : goal.note_handlers-handlers-preserved
note_handlers-handlers-preserved t c =
    let step : c.note_stmts.new.list.items ≡ c.handlers.list.items ++ listed c.args.listing (bindings.except_mentions (stmt_views.view_except c.handler-item.result)) = first_of (grind (arith, common_steps, except_out, listings), search (rules, except_out, listings), grind (arith, except_out, listings)) in
    grown (λ xs. listed c.args.listing (bindings.excepts_mentions (stmt_views.excepts_of (map stmt_views.view_except xs)))) c.args.handlers.now c.handlers.handler-index c.handler-item.result (listed c.args.listing (bindings.except_mentions (stmt_views.view_except c.handler-item.result))) c.handlers.list.items c.note_stmts.new.list.items c.args.list.now.items (omega arith) c.handler-item.is (λ rest. listed-append c.args.listing (bindings.except_mentions (stmt_views.view_except c.handler-item.result)) (bindings.excepts_mentions (stmt_views.excepts_of (map stmt_views.view_except rest)))) step c.handlers.invariant

pub note_form-returns-in_ok-note_target-in-For : goal.note_form-returns-in_ok-note_target-in-For
note_form-returns-in_ok-note_target-in-For t c = on_ok c.note_stmts-in-For.result c.note_stmts-in-For.ensures (λ h. first_of (grind (arith, common_steps, stmt_for, walk_out, listings), search (rules, stmt_for, walk_out, listings), grind (arith, stmt_for, walk_out, listings)))

pub note_inner-returns-in-Function : goal.note_inner-returns-in-Function
note_inner-returns-in-Function t c = inner_none c.args.listing (bindings.stmts_mentions (stmt_views.view_stmts c.args.stmts.now)) c.args.list.now.items c.in-Function.is

pub note_form-returns-in_ok-note_stmts-in-Try-2 : goal.note_form-returns-in_ok-note_stmts-in-Try-2
note_form-returns-in_ok-note_stmts-in-Try-2 t c =
    let body : c.note_stmts-in-Try.new.list.items ≡ c.args.list.now.items ++ listed c.args.listing (bindings.stmts_mentions (stmt_views.view_stmts c.in-Try.body.items)) = first_of (search rules, grind arith, grind (arith, common_steps)) in
    let handlers : c.note_handlers.new.list.items ≡ c.note_stmts-in-Try.new.list.items ++ listed c.args.listing (bindings.excepts_mentions (stmt_views.excepts_of (map stmt_views.view_except c.in-Try.handlers.items))) = first_of (search rules, grind arith, grind (arith, common_steps)) in
    let other : c.note_stmts-in-Try-2.new.list.items ≡ c.note_handlers.new.list.items ++ listed c.args.listing (bindings.maybe_mentions (stmt_views.view_maybe_stmts c.in-Try.other)) = first_of (grind (arith, common_steps, maybe_part), search (rules, maybe_part), grind (arith, maybe_part)) in
    let form : bindings.form_mentions (stmt_views.view_stmt_form c.args.form.now) ≡ bindings.stmts_mentions (stmt_views.view_stmts c.in-Try.body.items) ++ bindings.excepts_mentions (stmt_views.excepts_of (map stmt_views.view_except c.in-Try.handlers.items)) ++ bindings.maybe_mentions (stmt_views.view_maybe_stmts c.in-Try.other) ++ bindings.maybe_mentions (stmt_views.view_maybe_stmts c.in-Try.last) = ap bindings.form_mentions (ap stmt_views.view_stmt_form c.in-Try.is ∙ stmt_try c.in-Try.body c.in-Try.handlers c.in-Try.other c.in-Try.last) in
    on_ok c.note_stmts-in-Try-3.result c.note_stmts-in-Try-3.ensures (λ h. let last : c.note_stmts-in-Try-3.new.list.items ≡ c.note_stmts-in-Try-2.new.list.items ++ listed c.args.listing (bindings.maybe_mentions (stmt_views.view_maybe_stmts c.in-Try.last)) = first_of (grind (arith, common_steps, maybe_part), search (rules, maybe_part), grind (arith, maybe_part)) in grown_four c.args.list.now.items (listed c.args.listing (bindings.stmts_mentions (stmt_views.view_stmts c.in-Try.body.items))) (listed c.args.listing (bindings.excepts_mentions (stmt_views.excepts_of (map stmt_views.view_except c.in-Try.handlers.items)))) (listed c.args.listing (bindings.maybe_mentions (stmt_views.view_maybe_stmts c.in-Try.other))) (listed c.args.listing (bindings.maybe_mentions (stmt_views.view_maybe_stmts c.in-Try.last))) c.note_stmts-in-Try.new.list.items c.note_handlers.new.list.items c.note_stmts-in-Try-2.new.list.items c.note_stmts-in-Try-3.new.list.items body handlers other last ∙ ap (λ ms. c.args.list.now.items ++ ms) (sym (ap (listed c.args.listing) form ∙ listed_four c.args.listing (bindings.stmts_mentions (stmt_views.view_stmts c.in-Try.body.items)) (bindings.excepts_mentions (stmt_views.excepts_of (map stmt_views.view_except c.in-Try.handlers.items))) (bindings.maybe_mentions (stmt_views.view_maybe_stmts c.in-Try.other)) (bindings.maybe_mentions (stmt_views.view_maybe_stmts c.in-Try.last)))))
