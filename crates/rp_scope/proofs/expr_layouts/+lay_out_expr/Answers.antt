use Rattle.std.proofs.Common.{◌≡◌, [], ◌∷◌, ◌++◌, map, option_map, ap, sym, ◌∙◌, refl, arith, rules}
use Rattle.std.proofs.lemmas.Grind.{common_steps}
use Rattle.rp_tree.specs.ExpressionViews as views
use Rattle.rp_tree.proofs.ExpressionEquations.{form_list_of, form_dict_of, form_lambda, form_cond}
use Rattle.rp_scope.specs.Bindings.{comprehension_block, lambda_block}
use Rattle.rp_scope.specs.Blocks as code_blocks
use Rattle.rp_scope.specs.Scopes.{telling_scopes, scope_in}
use Rattle.std.proofs.lemmas.List.{append-nil}
use Rattle.rp_scope.proofs.Appends.{grown}
use Rattle.rp_scope.proofs.Laid.{grown_three, block_two, block_three, missing_default}
use Rattle.rp_scope.proofs.Listings.{on_ok}
use Rattle.rp_scope.proofs.expr_layouts.+lay_out_expr.Goals as goal
use Rattle.rp_scope.proofs.expr_layouts.+lay_out_expr.Goals.{lay_out_defaults-in-Some+in_ok-lay_out_expr, lay_out_defaults-in_default}

pub lay_out_form-returns-in_ok-lay_out_expr-in-ListOf : goal.lay_out_form-returns-in_ok-lay_out_expr-in-ListOf
lay_out_form-returns-in_ok-lay_out_expr-in-ListOf t c =
    let made : c.add_comprehension.new.layouts ≡ c.args.layouts.now ++ scope_in c.args.around (comprehension_block (views.clauses_of (map views.view_clause c.in-ListOf.clauses.items))) ∷ [] = first_of (search rules, grind arith, grind (arith, common_steps)) in
    let element : c.lay_out_expr.new.layouts ≡ c.add_comprehension.new.layouts ++ code_blocks.expr_blocks telling_scopes c.in-ListOf.block.0 (views.view_expr c.in-ListOf.element) = first_of (search rules, grind arith, grind (arith, common_steps)) in
    let form : code_blocks.form_blocks telling_scopes c.args.around (views.view_form c.args.form.now) ≡ scope_in c.args.around (comprehension_block (views.clauses_of (map views.view_clause c.in-ListOf.clauses.items))) ∷ (code_blocks.expr_blocks telling_scopes c.in-ListOf.block.0 (views.view_expr c.in-ListOf.element) ++ code_blocks.clauses_blocks telling_scopes c.args.around c.in-ListOf.block.0 (views.clauses_of (map views.view_clause c.in-ListOf.clauses.items))) = ap (code_blocks.form_blocks telling_scopes c.args.around) (ap views.view_form c.in-ListOf.is ∙ form_list_of c.in-ListOf.block c.in-ListOf.element c.in-ListOf.clauses) in
    on_ok c.lay_out_clauses.result c.lay_out_clauses.ensures (λ h. let walks : c.lay_out_clauses.new.layouts ≡ c.lay_out_expr.new.layouts ++ code_blocks.clauses_blocks telling_scopes c.args.around c.in-ListOf.block.0 (views.clauses_of (map views.view_clause c.in-ListOf.clauses.items)) = first_of (search rules, grind arith, grind (arith, common_steps)) in block_two c.args.layouts.now (scope_in c.args.around (comprehension_block (views.clauses_of (map views.view_clause c.in-ListOf.clauses.items)))) (code_blocks.expr_blocks telling_scopes c.in-ListOf.block.0 (views.view_expr c.in-ListOf.element)) (code_blocks.clauses_blocks telling_scopes c.args.around c.in-ListOf.block.0 (views.clauses_of (map views.view_clause c.in-ListOf.clauses.items))) c.add_comprehension.new.layouts c.lay_out_expr.new.layouts c.lay_out_clauses.new.layouts made element walks ∙ ap (λ zs. c.args.layouts.now ++ zs) (sym form))

pub lay_out_form-returns-in_ok-lay_out_expr-in-DictOf-2 : goal.lay_out_form-returns-in_ok-lay_out_expr-in-DictOf-2
lay_out_form-returns-in_ok-lay_out_expr-in-DictOf-2 t c =
    let made : c.add_comprehension-in-DictOf.new.layouts ≡ c.args.layouts.now ++ scope_in c.args.around (comprehension_block (views.clauses_of (map views.view_clause c.in-DictOf.clauses.items))) ∷ [] = first_of (search rules, grind arith, grind (arith, common_steps)) in
    let key : c.lay_out_expr-in-DictOf.new.layouts ≡ c.add_comprehension-in-DictOf.new.layouts ++ code_blocks.expr_blocks telling_scopes c.in-DictOf.block.0 (views.view_expr c.in-DictOf.key) = first_of (search rules, grind arith, grind (arith, common_steps)) in
    let element : c.lay_out_expr-in-DictOf-2.new.layouts ≡ c.lay_out_expr-in-DictOf.new.layouts ++ code_blocks.expr_blocks telling_scopes c.in-DictOf.block.0 (views.view_expr c.in-DictOf.value) = first_of (search rules, grind arith, grind (arith, common_steps)) in
    let form : code_blocks.form_blocks telling_scopes c.args.around (views.view_form c.args.form.now) ≡ scope_in c.args.around (comprehension_block (views.clauses_of (map views.view_clause c.in-DictOf.clauses.items))) ∷ (code_blocks.expr_blocks telling_scopes c.in-DictOf.block.0 (views.view_expr c.in-DictOf.key) ++ code_blocks.expr_blocks telling_scopes c.in-DictOf.block.0 (views.view_expr c.in-DictOf.value) ++ code_blocks.clauses_blocks telling_scopes c.args.around c.in-DictOf.block.0 (views.clauses_of (map views.view_clause c.in-DictOf.clauses.items))) = ap (code_blocks.form_blocks telling_scopes c.args.around) (ap views.view_form c.in-DictOf.is ∙ form_dict_of c.in-DictOf.block c.in-DictOf.key c.in-DictOf.value c.in-DictOf.clauses) in
    on_ok c.lay_out_clauses-in-DictOf.result c.lay_out_clauses-in-DictOf.ensures (λ h. let walks : c.lay_out_clauses-in-DictOf.new.layouts ≡ c.lay_out_expr-in-DictOf-2.new.layouts ++ code_blocks.clauses_blocks telling_scopes c.args.around c.in-DictOf.block.0 (views.clauses_of (map views.view_clause c.in-DictOf.clauses.items)) = first_of (search rules, grind arith, grind (arith, common_steps)) in block_three c.args.layouts.now (scope_in c.args.around (comprehension_block (views.clauses_of (map views.view_clause c.in-DictOf.clauses.items)))) (code_blocks.expr_blocks telling_scopes c.in-DictOf.block.0 (views.view_expr c.in-DictOf.key)) (code_blocks.expr_blocks telling_scopes c.in-DictOf.block.0 (views.view_expr c.in-DictOf.value)) (code_blocks.clauses_blocks telling_scopes c.args.around c.in-DictOf.block.0 (views.clauses_of (map views.view_clause c.in-DictOf.clauses.items))) c.add_comprehension-in-DictOf.new.layouts c.lay_out_expr-in-DictOf.new.layouts c.lay_out_expr-in-DictOf-2.new.layouts c.lay_out_clauses-in-DictOf.new.layouts made key element walks ∙ ap (λ zs. c.args.layouts.now ++ zs) (sym form))

pub lay_out_form-returns-in_ok-lay_out_params-in-Lambda : goal.lay_out_form-returns-in_ok-lay_out_params-in-Lambda
lay_out_form-returns-in_ok-lay_out_params-in-Lambda t c =
    let made : c.add_lambda.new.layouts ≡ c.args.layouts.now ++ scope_in c.args.around (lambda_block (views.view_params c.in-Lambda.params.value)) ∷ [] = first_of (search rules, grind arith, grind (arith, common_steps)) in
    let params : c.lay_out_params.new.layouts ≡ c.add_lambda.new.layouts ++ code_blocks.params_blocks telling_scopes c.args.around (views.view_params c.in-Lambda.params.value) = first_of (search rules, grind arith, grind (arith, common_steps)) in
    let form : code_blocks.form_blocks telling_scopes c.args.around (views.view_form c.args.form.now) ≡ scope_in c.args.around (lambda_block (views.view_params c.in-Lambda.params.value)) ∷ (code_blocks.params_blocks telling_scopes c.args.around (views.view_params c.in-Lambda.params.value) ++ code_blocks.expr_blocks telling_scopes c.in-Lambda.block.0 (views.view_expr c.in-Lambda.body)) = ap (code_blocks.form_blocks telling_scopes c.args.around) (ap views.view_form c.in-Lambda.is ∙ form_lambda c.in-Lambda.block c.in-Lambda.params c.in-Lambda.body) in
    on_ok c.lay_out_expr-in-Lambda.result c.lay_out_expr-in-Lambda.ensures (λ h. let body : c.lay_out_expr-in-Lambda.new.layouts ≡ c.lay_out_params.new.layouts ++ code_blocks.expr_blocks telling_scopes c.in-Lambda.block.0 (views.view_expr c.in-Lambda.body) = first_of (search rules, grind arith, grind (arith, common_steps)) in block_two c.args.layouts.now (scope_in c.args.around (lambda_block (views.view_params c.in-Lambda.params.value))) (code_blocks.params_blocks telling_scopes c.args.around (views.view_params c.in-Lambda.params.value)) (code_blocks.expr_blocks telling_scopes c.in-Lambda.block.0 (views.view_expr c.in-Lambda.body)) c.add_lambda.new.layouts c.lay_out_params.new.layouts c.lay_out_expr-in-Lambda.new.layouts made params body ∙ ap (λ zs. c.args.layouts.now ++ zs) (sym form))

pub lay_out_form-returns-in_ok-lay_out_expr-in-Cond-2 : goal.lay_out_form-returns-in_ok-lay_out_expr-in-Cond-2
lay_out_form-returns-in_ok-lay_out_expr-in-Cond-2 t c =
    let first : c.lay_out_expr-in-Cond.new.layouts ≡ c.args.layouts.now ++ code_blocks.expr_blocks telling_scopes c.args.around (views.view_expr c.in-Cond.yes) = first_of (search rules, grind arith, grind (arith, common_steps)) in
    let second : c.lay_out_expr-in-Cond-2.new.layouts ≡ c.lay_out_expr-in-Cond.new.layouts ++ code_blocks.expr_blocks telling_scopes c.args.around (views.view_expr c.in-Cond.test) = first_of (search rules, grind arith, grind (arith, common_steps)) in
    let form : code_blocks.form_blocks telling_scopes c.args.around (views.view_form c.args.form.now) ≡ code_blocks.expr_blocks telling_scopes c.args.around (views.view_expr c.in-Cond.yes) ++ code_blocks.expr_blocks telling_scopes c.args.around (views.view_expr c.in-Cond.test) ++ code_blocks.expr_blocks telling_scopes c.args.around (views.view_expr c.in-Cond.no) = ap (code_blocks.form_blocks telling_scopes c.args.around) (ap views.view_form c.in-Cond.is ∙ form_cond c.in-Cond.test c.in-Cond.yes c.in-Cond.no) in
    on_ok c.lay_out_expr-in-Cond-3.result c.lay_out_expr-in-Cond-3.ensures (λ h. let third : c.lay_out_expr-in-Cond-3.new.layouts ≡ c.lay_out_expr-in-Cond-2.new.layouts ++ code_blocks.expr_blocks telling_scopes c.args.around (views.view_expr c.in-Cond.no) = first_of (search rules, grind arith, grind (arith, common_steps)) in grown_three c.args.layouts.now (code_blocks.expr_blocks telling_scopes c.args.around (views.view_expr c.in-Cond.yes)) (code_blocks.expr_blocks telling_scopes c.args.around (views.view_expr c.in-Cond.test)) (code_blocks.expr_blocks telling_scopes c.args.around (views.view_expr c.in-Cond.no)) c.lay_out_expr-in-Cond.new.layouts c.lay_out_expr-in-Cond-2.new.layouts c.lay_out_expr-in-Cond-3.new.layouts first second third ∙ ap (λ zs. c.args.layouts.now ++ zs) (sym form))

pub lay_out_defaults-plain-preserved : goal.lay_out_defaults-plain-preserved
lay_out_defaults-plain-preserved t c =
    let given : c.match-param.layouts ≡ c.plain.layouts ++ code_blocks.maybe_blocks telling_scopes c.args.around (views.maybe_of (option_map views.view_expr c.param-item.result.1)) = elim c.match-param.branch [ lay_out_defaults-in-Some+in_ok-lay_out_expr w ↦ (let told : w.lay_out_expr.new.layouts ≡ c.plain.layouts ++ code_blocks.expr_blocks telling_scopes c.args.around (views.view_expr w.in-Some.default) = first_of (search rules, grind arith, grind (arith, common_steps)) in w.layouts-is ∙ (told ∙ ap (λ o. c.plain.layouts ++ code_blocks.maybe_blocks telling_scopes c.args.around (views.maybe_of (option_map views.view_expr o))) (sym w.in-Some.is))) | lay_out_defaults-in_default w ↦ w.layouts-is ∙ (sym (append-nil c.plain.layouts) ∙ ap (λ zs. c.plain.layouts ++ zs) (sym (missing_default telling_scopes c.args.around c.param-item.result.1 w.in_default.not-Some))) ] in
    grown (λ xs. code_blocks.plain_blocks telling_scopes c.args.around (views.plain_of (map views.view_plain xs))) c.args.plain.now c.plain.param-index c.param-item.result (code_blocks.maybe_blocks telling_scopes c.args.around (views.maybe_of (option_map views.view_expr c.param-item.result.1))) c.plain.layouts c.match-param.layouts c.args.layouts.now (omega arith) c.param-item.is (λ rest. refl) given c.plain.invariant
