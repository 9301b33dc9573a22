use Rattle.std.proofs.Common.{[], ◌∷◌, ◌++◌, map, option_map, arith, get_or, rules, sym, ap, ◌∙◌}
use Rattle.std.proofs.lemmas.Grind.{common_steps}
use Rattle.rp_codes.specs.CodeSteps.{Adds, branch_codes}
use Rattle.rp_codes.proofs.Adding.{adds_same, adds_then}
use Rattle.rp_tree.proofs.StatementEquations as stmt_equations
use Rattle.rp_tree.specs.StatementViews as stmt_views
use Rattle.rp_tree.specs.declared.stmt.StmtForm.TheViews.{out-Branch, out-Except}
use Rattle.rp_codes.proofs.Lists.{block_codes, over, turn, stmts_are, stmts_one, branches_are, branches_one, handlers_are, handlers_one}
use Rattle.rp_meaning.specs.Blocks as blocks
use Rattle.rp_tree.specs.ExpressionViews as views
use Rattle.rp_codes.proofs.stmt_codes.+add_stmt.Goals as goal

pub add_stmts-stmts-preserved : goal.add_stmts-stmts-preserved
add_stmts-stmts-preserved t c = turn stmts_one c.args.stmts.now c.stmts.stmt-index c.stmt-item.result c.args.codes.now c.stmts.codes _ (omega arith) c.stmt-item.is c.stmts.invariant c.add_stmt.ensures

pub add_stmts-returns : goal.add_stmts-returns
add_stmts-returns t c = over stmts_one c.args.stmts.now c.stmts.stmt-index c.args.codes.now c.stmts.codes _ (stmts_are c.args.stmts.now) (omega arith) c.stmts.invariant

pub add_branches-branches-preserved : goal.add_branches-branches-preserved
add_branches-branches-preserved t c = turn branches_one c.args.branches.now c.branches.branch-index c.branch-item.result c.args.codes.now c.branches.codes _ (omega arith) c.branch-item.is c.branches.invariant c.add_branch.ensures

pub add_branches-returns : goal.add_branches-returns
add_branches-returns t c = over branches_one c.args.branches.now c.branches.branch-index c.args.codes.now c.branches.codes _ (branches_are c.args.branches.now) (omega arith) c.branches.invariant

pub add_handlers-handlers-preserved : goal.add_handlers-handlers-preserved
add_handlers-handlers-preserved t c = turn handlers_one c.args.handlers.now c.handlers.handler-index c.handler-item.result c.args.codes.now c.handlers.codes _ (omega arith) c.handler-item.is c.handlers.invariant c.add_handler.ensures

pub add_handlers-returns : goal.add_handlers-returns
add_handlers-returns t c = over handlers_one c.args.handlers.now c.handlers.handler-index c.args.codes.now c.handlers.codes _ (handlers_are c.args.handlers.now) (omega arith) c.handlers.invariant

pub add_stmt_form-returns-in-Assign : goal.add_stmt_form-returns-in-Assign
add_stmt_form-returns-in-Assign t c =
    let part0 : Adds (blocks.of_places (map views.view_place c.in-Assign.places.items)) c.args.codes.now c.add_places.new.codes = first_of (search rules, grind arith, grind (arith, common_steps)) in
    let part1 : Adds (blocks.of_expr (views.view_expr c.in-Assign.value)) c.add_places.new.codes c.add_expr-in-Assign.new.codes = first_of (search rules, grind arith, grind (arith, common_steps)) in
    adds_same ((blocks.of_places (map views.view_place c.in-Assign.places.items)) ++ (blocks.of_expr (views.view_expr c.in-Assign.value))) (blocks.of_stmt_form (stmt_views.view_stmt_form c.args.form.now)) c.args.codes.now c.add_expr-in-Assign.new.codes (ap blocks.of_stmt_form (ap stmt_views.view_stmt_form c.in-Assign.is ∙ stmt_equations.stmt_assign _ _)) (adds_then (blocks.of_places (map views.view_place c.in-Assign.places.items)) (blocks.of_expr (views.view_expr c.in-Assign.value)) c.args.codes.now c.add_places.new.codes c.add_expr-in-Assign.new.codes part0 part1)

pub add_stmt_form-returns-in-Unpack : goal.add_stmt_form-returns-in-Unpack
add_stmt_form-returns-in-Unpack t c =
    let part0 : Adds (blocks.of_target (views.view_target c.in-Unpack.target)) c.args.codes.now c.add_target.new.codes = first_of (search rules, grind arith, grind (arith, common_steps)) in
    let part1 : Adds (blocks.of_expr (views.view_expr c.in-Unpack.value)) c.add_target.new.codes c.add_expr-in-Unpack.new.codes = first_of (search rules, grind arith, grind (arith, common_steps)) in
    adds_same ((blocks.of_target (views.view_target c.in-Unpack.target)) ++ (blocks.of_expr (views.view_expr c.in-Unpack.value))) (blocks.of_stmt_form (stmt_views.view_stmt_form c.args.form.now)) c.args.codes.now c.add_expr-in-Unpack.new.codes (ap blocks.of_stmt_form (ap stmt_views.view_stmt_form c.in-Unpack.is ∙ stmt_equations.stmt_unpack _ _ _)) (adds_then (blocks.of_target (views.view_target c.in-Unpack.target)) (blocks.of_expr (views.view_expr c.in-Unpack.value)) c.args.codes.now c.add_target.new.codes c.add_expr-in-Unpack.new.codes part0 part1)

pub add_stmt_form-returns-in-Aug : goal.add_stmt_form-returns-in-Aug
add_stmt_form-returns-in-Aug t c =
    let part0 : Adds (blocks.of_place (views.view_place c.in-Aug.place)) c.args.codes.now c.add_place.new.codes = first_of (search rules, grind arith, grind (arith, common_steps)) in
    let part1 : Adds (blocks.of_expr (views.view_expr c.in-Aug.value)) c.add_place.new.codes c.add_expr-in-Aug.new.codes = first_of (search rules, grind arith, grind (arith, common_steps)) in
    adds_same ((blocks.of_place (views.view_place c.in-Aug.place)) ++ (blocks.of_expr (views.view_expr c.in-Aug.value))) (blocks.of_stmt_form (stmt_views.view_stmt_form c.args.form.now)) c.args.codes.now c.add_expr-in-Aug.new.codes (ap blocks.of_stmt_form (ap stmt_views.view_stmt_form c.in-Aug.is ∙ stmt_equations.stmt_aug _ _ _ _ _)) (adds_then (blocks.of_place (views.view_place c.in-Aug.place)) (blocks.of_expr (views.view_expr c.in-Aug.value)) c.args.codes.now c.add_place.new.codes c.add_expr-in-Aug.new.codes part0 part1)

pub add_stmt_form-returns-in-Assert : goal.add_stmt_form-returns-in-Assert
add_stmt_form-returns-in-Assert t c =
    let part0 : Adds (blocks.of_expr (views.view_expr c.in-Assert.test)) c.args.codes.now c.add_expr-in-Assert.new.codes = first_of (search rules, grind arith, grind (arith, common_steps)) in
    let part1 : Adds (blocks.of_option (option_map views.view_expr c.in-Assert.message)) c.add_expr-in-Assert.new.codes c.add_value-in-Assert.new.codes = first_of (search rules, grind arith, grind (arith, common_steps)) in
    adds_same ((blocks.of_expr (views.view_expr c.in-Assert.test)) ++ (blocks.of_option (option_map views.view_expr c.in-Assert.message))) (blocks.of_stmt_form (stmt_views.view_stmt_form c.args.form.now)) c.args.codes.now c.add_value-in-Assert.new.codes (ap blocks.of_stmt_form (ap stmt_views.view_stmt_form c.in-Assert.is ∙ stmt_equations.stmt_assert _ _)) (adds_then (blocks.of_expr (views.view_expr c.in-Assert.test)) (blocks.of_option (option_map views.view_expr c.in-Assert.message)) c.args.codes.now c.add_expr-in-Assert.new.codes c.add_value-in-Assert.new.codes part0 part1)

pub add_stmt_form-returns-in-If : goal.add_stmt_form-returns-in-If
add_stmt_form-returns-in-If t c =
    let part0 : Adds (blocks.of_branches (stmt_views.branches_of (map stmt_views.view_branch c.in-If.branches.items))) c.args.codes.now c.add_branches.new.codes = first_of (search rules, grind arith, grind (arith, common_steps)) in
    let part1 : Adds (blocks.of_maybe_stmts (stmt_views.view_maybe_stmts c.in-If.other)) c.add_branches.new.codes c.add_stmts.new.codes =
    adds_same (blocks.of_stmts (stmt_views.view_stmts c.stmts_of.result.now)) (blocks.of_maybe_stmts (stmt_views.view_maybe_stmts c.in-If.other)) c.add_branches.new.codes c.add_stmts.new.codes
    (block_codes c.in-If.other c.stmts_of.result.now c.stmts_of.ensures) c.add_stmts.ensures in
    adds_same ((blocks.of_branches (stmt_views.branches_of (map stmt_views.view_branch c.in-If.branches.items))) ++ (blocks.of_maybe_stmts (stmt_views.view_maybe_stmts c.in-If.other))) (blocks.of_stmt_form (stmt_views.view_stmt_form c.args.form.now)) c.args.codes.now c.add_stmts.new.codes (ap blocks.of_stmt_form (ap stmt_views.view_stmt_form c.in-If.is ∙ stmt_equations.stmt_if _ _)) (adds_then (blocks.of_branches (stmt_views.branches_of (map stmt_views.view_branch c.in-If.branches.items))) (blocks.of_maybe_stmts (stmt_views.view_maybe_stmts c.in-If.other)) c.args.codes.now c.add_branches.new.codes c.add_stmts.new.codes part0 part1)

pub add_stmt_form-returns-in-While : goal.add_stmt_form-returns-in-While
add_stmt_form-returns-in-While t c =
    let part0 : Adds (blocks.of_expr (views.view_expr c.in-While.test)) c.args.codes.now c.add_expr-in-While.new.codes = first_of (search rules, grind arith, grind (arith, common_steps)) in
    let part1 : Adds (blocks.of_stmts (stmt_views.view_stmts c.in-While.body.items)) c.add_expr-in-While.new.codes c.add_stmts-in-While.new.codes = first_of (search rules, grind arith, grind (arith, common_steps)) in
    adds_same ((blocks.of_expr (views.view_expr c.in-While.test)) ++ (blocks.of_stmts (stmt_views.view_stmts c.in-While.body.items))) (blocks.of_stmt_form (stmt_views.view_stmt_form c.args.form.now)) c.args.codes.now c.add_stmts-in-While.new.codes (ap blocks.of_stmt_form (ap stmt_views.view_stmt_form c.in-While.is ∙ stmt_equations.stmt_while _ _)) (adds_then (blocks.of_expr (views.view_expr c.in-While.test)) (blocks.of_stmts (stmt_views.view_stmts c.in-While.body.items)) c.args.codes.now c.add_expr-in-While.new.codes c.add_stmts-in-While.new.codes part0 part1)

pub add_stmt_form-returns-in-For : goal.add_stmt_form-returns-in-For
add_stmt_form-returns-in-For t c =
    let part0 : Adds (blocks.of_walk (views.view_walk c.in-For.walk)) c.args.codes.now c.add_walk.new.codes = first_of (search rules, grind arith, grind (arith, common_steps)) in
    let part1 : Adds (blocks.of_stmts (stmt_views.view_stmts c.in-For.body.items)) c.add_walk.new.codes c.add_stmts-in-For.new.codes = first_of (search rules, grind arith, grind (arith, common_steps)) in
    adds_same ((blocks.of_walk (views.view_walk c.in-For.walk)) ++ (blocks.of_stmts (stmt_views.view_stmts c.in-For.body.items))) (blocks.of_stmt_form (stmt_views.view_stmt_form c.args.form.now)) c.args.codes.now c.add_stmts-in-For.new.codes (ap blocks.of_stmt_form (ap stmt_views.view_stmt_form c.in-For.is ∙ stmt_equations.stmt_for _ _)) (adds_then (blocks.of_walk (views.view_walk c.in-For.walk)) (blocks.of_stmts (stmt_views.view_stmts c.in-For.body.items)) c.args.codes.now c.add_walk.new.codes c.add_stmts-in-For.new.codes part0 part1)

pub add_stmt_form-returns-in-Try : goal.add_stmt_form-returns-in-Try
add_stmt_form-returns-in-Try t c =
    let part0 : Adds (blocks.of_stmts (stmt_views.view_stmts c.in-Try.body.items)) c.args.codes.now c.add_stmts-in-Try.new.codes = first_of (search rules, grind arith, grind (arith, common_steps)) in
    let part1 : Adds (blocks.of_excepts (stmt_views.excepts_of (map stmt_views.view_except c.in-Try.handlers.items))) c.add_stmts-in-Try.new.codes c.add_handlers.new.codes = first_of (search rules, grind arith, grind (arith, common_steps)) in
    let part2 : Adds (blocks.of_maybe_stmts (stmt_views.view_maybe_stmts c.in-Try.other)) c.add_handlers.new.codes c.add_stmts-in-Try-2.new.codes =
    adds_same (blocks.of_stmts (stmt_views.view_stmts c.stmts_of-in-Try.result.now)) (blocks.of_maybe_stmts (stmt_views.view_maybe_stmts c.in-Try.other)) c.add_handlers.new.codes c.add_stmts-in-Try-2.new.codes
    (block_codes c.in-Try.other c.stmts_of-in-Try.result.now c.stmts_of-in-Try.ensures) c.add_stmts-in-Try-2.ensures in
    let part3 : Adds (blocks.of_maybe_stmts (stmt_views.view_maybe_stmts c.in-Try.last)) c.add_stmts-in-Try-2.new.codes c.add_stmts-in-Try-3.new.codes =
    adds_same (blocks.of_stmts (stmt_views.view_stmts c.stmts_of-in-Try-2.result.now)) (blocks.of_maybe_stmts (stmt_views.view_maybe_stmts c.in-Try.last)) c.add_stmts-in-Try-2.new.codes c.add_stmts-in-Try-3.new.codes
    (block_codes c.in-Try.last c.stmts_of-in-Try-2.result.now c.stmts_of-in-Try-2.ensures) c.add_stmts-in-Try-3.ensures in
    adds_same ((((blocks.of_stmts (stmt_views.view_stmts c.in-Try.body.items)) ++ (blocks.of_excepts (stmt_views.excepts_of (map stmt_views.view_except c.in-Try.handlers.items)))) ++ (blocks.of_maybe_stmts (stmt_views.view_maybe_stmts c.in-Try.other))) ++ (blocks.of_maybe_stmts (stmt_views.view_maybe_stmts c.in-Try.last))) (blocks.of_stmt_form (stmt_views.view_stmt_form c.args.form.now)) c.args.codes.now c.add_stmts-in-Try-3.new.codes (ap blocks.of_stmt_form (ap stmt_views.view_stmt_form c.in-Try.is ∙ stmt_equations.stmt_try _ _ _ _)) (adds_then (((blocks.of_stmts (stmt_views.view_stmts c.in-Try.body.items)) ++ (blocks.of_excepts (stmt_views.excepts_of (map stmt_views.view_except c.in-Try.handlers.items)))) ++ (blocks.of_maybe_stmts (stmt_views.view_maybe_stmts c.in-Try.other))) (blocks.of_maybe_stmts (stmt_views.view_maybe_stmts c.in-Try.last)) c.args.codes.now c.add_stmts-in-Try-2.new.codes c.add_stmts-in-Try-3.new.codes (adds_then ((blocks.of_stmts (stmt_views.view_stmts c.in-Try.body.items)) ++ (blocks.of_excepts (stmt_views.excepts_of (map stmt_views.view_except c.in-Try.handlers.items)))) (blocks.of_maybe_stmts (stmt_views.view_maybe_stmts c.in-Try.other)) c.args.codes.now c.add_handlers.new.codes c.add_stmts-in-Try-2.new.codes (adds_then (blocks.of_stmts (stmt_views.view_stmts c.in-Try.body.items)) (blocks.of_excepts (stmt_views.excepts_of (map stmt_views.view_except c.in-Try.handlers.items))) c.args.codes.now c.add_stmts-in-Try.new.codes c.add_handlers.new.codes part0 part1) part2) part3)

pub add_stmt_form-returns-in-Def : goal.add_stmt_form-returns-in-Def
add_stmt_form-returns-in-Def t c =
    let part0 : Adds ((c.in-Def.block.0, blocks.def (views.view_params c.in-Def.params) (stmt_views.view_stmts c.in-Def.body.items)) ∷ []) c.args.codes.now c.put.new.self = first_of (search rules, grind arith, grind (arith, common_steps)) in
    let part1 : Adds (blocks.of_params (views.view_params c.in-Def.params)) c.put.new.self c.add_params.new.codes = first_of (search rules, grind arith, grind (arith, common_steps)) in
    let part2 : Adds (blocks.of_stmts (stmt_views.view_stmts c.in-Def.body.items)) c.add_params.new.codes c.add_stmts-in-Def.new.codes = first_of (search rules, grind arith, grind (arith, common_steps)) in
    adds_same ((((c.in-Def.block.0, blocks.def (views.view_params c.in-Def.params) (stmt_views.view_stmts c.in-Def.body.items)) ∷ []) ++ (blocks.of_params (views.view_params c.in-Def.params))) ++ (blocks.of_stmts (stmt_views.view_stmts c.in-Def.body.items))) (blocks.of_stmt_form (stmt_views.view_stmt_form c.args.form.now)) c.args.codes.now c.add_stmts-in-Def.new.codes (ap blocks.of_stmt_form (ap stmt_views.view_stmt_form c.in-Def.is ∙ stmt_equations.stmt_def _ _ _ _)) (adds_then (((c.in-Def.block.0, blocks.def (views.view_params c.in-Def.params) (stmt_views.view_stmts c.in-Def.body.items)) ∷ []) ++ (blocks.of_params (views.view_params c.in-Def.params))) (blocks.of_stmts (stmt_views.view_stmts c.in-Def.body.items)) c.args.codes.now c.add_params.new.codes c.add_stmts-in-Def.new.codes (adds_then ((c.in-Def.block.0, blocks.def (views.view_params c.in-Def.params) (stmt_views.view_stmts c.in-Def.body.items)) ∷ []) (blocks.of_params (views.view_params c.in-Def.params)) c.args.codes.now c.put.new.self c.add_params.new.codes part0 part1) part2)

pub add_branch-returns : goal.add_branch-returns
add_branch-returns t c =
    let part0 : Adds (blocks.of_expr (views.view_expr (out-Branch c.args.branch.now).test)) c.args.codes.now c.add_expr.new.codes = first_of (search rules, grind arith, grind (arith, common_steps)) in
    let part1 : Adds (blocks.of_stmts (stmt_views.view_stmts (out-Branch c.args.branch.now).body.items)) c.add_expr.new.codes c.add_stmts.new.codes = first_of (search rules, grind arith, grind (arith, common_steps)) in
    adds_same ((blocks.of_expr (views.view_expr (out-Branch c.args.branch.now).test)) ++ (blocks.of_stmts (stmt_views.view_stmts (out-Branch c.args.branch.now).body.items))) (branch_codes (stmt_views.view_branch c.args.branch.now)) c.args.codes.now c.add_stmts.new.codes (ap branch_codes (stmt_equations.branch_out c.args.branch.now)) (adds_then (blocks.of_expr (views.view_expr (out-Branch c.args.branch.now).test)) (blocks.of_stmts (stmt_views.view_stmts (out-Branch c.args.branch.now).body.items)) c.args.codes.now c.add_expr.new.codes c.add_stmts.new.codes part0 part1)

pub add_handler-returns : goal.add_handler-returns
add_handler-returns t c =
    let part0 : Adds (blocks.of_option (option_map views.view_expr (out-Except c.args.handler.now).kind)) c.args.codes.now c.add_value.new.codes = first_of (search rules, grind arith, grind (arith, common_steps)) in
    let part1 : Adds (blocks.of_stmts (stmt_views.view_stmts (out-Except c.args.handler.now).body.items)) c.add_value.new.codes c.add_stmts.new.codes = first_of (search rules, grind arith, grind (arith, common_steps)) in
    adds_same ((blocks.of_option (option_map views.view_expr (out-Except c.args.handler.now).kind)) ++ (blocks.of_stmts (stmt_views.view_stmts (out-Except c.args.handler.now).body.items))) (blocks.of_except (stmt_views.view_except c.args.handler.now)) c.args.codes.now c.add_stmts.new.codes (ap blocks.of_except (stmt_equations.except_out c.args.handler.now)) (adds_then (blocks.of_option (option_map views.view_expr (out-Except c.args.handler.now).kind)) (blocks.of_stmts (stmt_views.view_stmts (out-Except c.args.handler.now).body.items)) c.args.codes.now c.add_value.new.codes c.add_stmts.new.codes part0 part1)
