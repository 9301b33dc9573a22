use Rattle.std.proofs.Common.{[], ◌∷◌, ◌++◌, map, option_map, arith, get_or, rules, sym, ap, ◌∙◌}
use Rattle.std.proofs.lemmas.Grind.{common_steps}
use Rattle.rp_codes.specs.CodeSteps.{Adds, slice_codes}
use Rattle.rp_codes.proofs.Adding.{adds_same, adds_then}
use Rattle.rp_tree.proofs.ExpressionEquations as equations
use Rattle.rp_tree.specs.declared.expr.Arg.TheViews.{out-Clause, out-Slice, out-Walk}
use Rattle.rp_codes.proofs.Lists.{default_none, default_some, over, turn, exprs_are, exprs_one, pairs_are, pairs_one, tests_are, tests_one, operands_are, operands_one, clauses_are, clauses_one, targets_are, targets_one, defaults_are, defaults_one, trailers_are, trailers_one, args_are, args_one}
use Rattle.rp_meaning.specs.Blocks as blocks
use Rattle.rp_tree.specs.ExpressionViews as views
use Rattle.rp_codes.proofs.expr_codes.+add_expr.Goals as goal
use Rattle.rp_codes.proofs.expr_codes.+add_expr.Goals.{add_defaults-in-Some, add_defaults-in_default}

pub add_exprs-exprs-preserved : goal.add_exprs-exprs-preserved
add_exprs-exprs-preserved t c = turn exprs_one c.args.exprs.now c.exprs.expr-index c.expr-item.result c.args.codes.now c.exprs.codes _ (omega arith) c.expr-item.is c.exprs.invariant c.add_expr.ensures

pub add_exprs-returns : goal.add_exprs-returns
add_exprs-returns t c = over exprs_one c.args.exprs.now c.exprs.expr-index c.args.codes.now c.exprs.codes _ (exprs_are c.args.exprs.now) (omega arith) c.exprs.invariant

pub add_pairs-pairs-preserved : goal.add_pairs-pairs-preserved
add_pairs-pairs-preserved t c = turn pairs_one c.args.pairs.now c.pairs.pair-index c.pair-item.result c.args.codes.now c.pairs.codes _ (omega arith) c.pair-item.is c.pairs.invariant (adds_then (blocks.of_expr (views.view_expr c.pair-item.result.0)) (blocks.of_expr (views.view_expr c.pair-item.result.1)) _ _ _ c.add_expr.ensures c.add_expr-in-pairs.ensures)

pub add_pairs-returns : goal.add_pairs-returns
add_pairs-returns t c = over pairs_one c.args.pairs.now c.pairs.pair-index c.args.codes.now c.pairs.codes _ (pairs_are c.args.pairs.now) (omega arith) c.pairs.invariant

pub add_tests-tests-preserved : goal.add_tests-tests-preserved
add_tests-tests-preserved t c = turn tests_one c.args.tests.now c.tests.test-index c.test-item.result c.args.codes.now c.tests.codes _ (omega arith) c.test-item.is c.tests.invariant c.add_expr.ensures

pub add_tests-returns : goal.add_tests-returns
add_tests-returns t c = over tests_one c.args.tests.now c.tests.test-index c.args.codes.now c.tests.codes _ (tests_are c.args.tests.now) (omega arith) c.tests.invariant

pub add_operands-operands-preserved : goal.add_operands-operands-preserved
add_operands-operands-preserved t c = turn operands_one c.args.operands.now c.operands.operand-index c.operand-item.result c.args.codes.now c.operands.codes _ (omega arith) c.operand-item.is c.operands.invariant c.add_expr.ensures

pub add_operands-returns : goal.add_operands-returns
add_operands-returns t c = over operands_one c.args.operands.now c.operands.operand-index c.args.codes.now c.operands.codes _ (operands_are c.args.operands.now) (omega arith) c.operands.invariant

pub add_clauses-clauses-preserved : goal.add_clauses-clauses-preserved
add_clauses-clauses-preserved t c = turn clauses_one c.args.clauses.now c.clauses.clause-index c.clause-item.result c.args.codes.now c.clauses.codes _ (omega arith) c.clause-item.is c.clauses.invariant c.add_clause.ensures

pub add_clauses-returns : goal.add_clauses-returns
add_clauses-returns t c = over clauses_one c.args.clauses.now c.clauses.clause-index c.args.codes.now c.clauses.codes _ (clauses_are c.args.clauses.now) (omega arith) c.clauses.invariant

pub add_targets-targets-preserved : goal.add_targets-targets-preserved
add_targets-targets-preserved t c = turn targets_one c.args.targets.now c.targets.target-index c.target-item.result c.args.codes.now c.targets.codes _ (omega arith) c.target-item.is c.targets.invariant c.add_target.ensures

pub add_targets-returns : goal.add_targets-returns
add_targets-returns t c = over targets_one c.args.targets.now c.targets.target-index c.args.codes.now c.targets.codes _ (targets_are c.args.targets.now) (omega arith) c.targets.invariant

pub add_defaults-plain-preserved : goal.add_defaults-plain-preserved
add_defaults-plain-preserved t c =
    elim c.match-param.branch [
      | add_defaults-in-Some w ↦ rw (w.codes-is) (turn defaults_one c.args.plain.now c.plain.param-index c.param-item.result c.args.codes.now c.plain.codes w.add_expr.new.codes (omega arith) c.param-item.is c.plain.invariant
          (default_some c.param-item.result w.in-Some.default c.plain.codes w.add_expr.new.codes w.in-Some.is w.add_expr.ensures))
      | add_defaults-in_default w ↦ rw (w.codes-is) (turn defaults_one c.args.plain.now c.plain.param-index c.param-item.result c.args.codes.now c.plain.codes c.plain.codes (omega arith) c.param-item.is c.plain.invariant
          (default_none c.param-item.result c.plain.codes w.in_default.not-Some))
    ]

pub add_defaults-returns : goal.add_defaults-returns
add_defaults-returns t c = over defaults_one c.args.plain.now c.plain.param-index c.args.codes.now c.plain.codes _ (defaults_are c.args.plain.now) (omega arith) c.plain.invariant

pub add_trailers-trailers-preserved : goal.add_trailers-trailers-preserved
add_trailers-trailers-preserved t c = turn trailers_one c.args.trailers.now c.trailers.trailer-index c.trailer-item.result c.args.codes.now c.trailers.codes _ (omega arith) c.trailer-item.is c.trailers.invariant c.add_trailer.ensures

pub add_trailers-returns : goal.add_trailers-returns
add_trailers-returns t c = over trailers_one c.args.trailers.now c.trailers.trailer-index c.args.codes.now c.trailers.codes _ (trailers_are c.args.trailers.now) (omega arith) c.trailers.invariant

pub add_args-arguments-preserved : goal.add_args-arguments-preserved
add_args-arguments-preserved t c = turn args_one c.args.args.now c.arguments.arg-index c.arg-item.result c.args.codes.now c.arguments.codes _ (omega arith) c.arg-item.is c.arguments.invariant c.add_arg.ensures

pub add_args-returns : goal.add_args-returns
add_args-returns t c = over args_one c.args.args.now c.arguments.arg-index c.args.codes.now c.arguments.codes _ (args_are c.args.args.now) (omega arith) c.arguments.invariant

pub add_form-returns-in-ListOf : goal.add_form-returns-in-ListOf
add_form-returns-in-ListOf t c =
    let part0 : Adds (blocks.of_expr (views.view_expr c.in-ListOf.element)) c.args.codes.now c.add_expr.new.codes = first_of (search rules, grind arith, grind (arith, common_steps)) in
    let part1 : Adds (blocks.of_clauses (views.clauses_of (map views.view_clause c.in-ListOf.clauses.items))) c.add_expr.new.codes c.add_clauses.new.codes = first_of (search rules, grind arith, grind (arith, common_steps)) in
    adds_same ((blocks.of_expr (views.view_expr c.in-ListOf.element)) ++ (blocks.of_clauses (views.clauses_of (map views.view_clause c.in-ListOf.clauses.items)))) (blocks.of_form (views.view_form c.args.form.now)) c.args.codes.now c.add_clauses.new.codes (ap blocks.of_form (ap views.view_form c.in-ListOf.is ∙ equations.form_list_of _ _ _)) (adds_then (blocks.of_expr (views.view_expr c.in-ListOf.element)) (blocks.of_clauses (views.clauses_of (map views.view_clause c.in-ListOf.clauses.items))) c.args.codes.now c.add_expr.new.codes c.add_clauses.new.codes part0 part1)

pub add_form-returns-in-DictOf : goal.add_form-returns-in-DictOf
add_form-returns-in-DictOf t c =
    let part0 : Adds (blocks.of_expr (views.view_expr c.in-DictOf.key)) c.args.codes.now c.add_expr-in-DictOf.new.codes = first_of (search rules, grind arith, grind (arith, common_steps)) in
    let part1 : Adds (blocks.of_expr (views.view_expr c.in-DictOf.value)) c.add_expr-in-DictOf.new.codes c.add_expr-in-DictOf-2.new.codes = first_of (search rules, grind arith, grind (arith, common_steps)) in
    let part2 : Adds (blocks.of_clauses (views.clauses_of (map views.view_clause c.in-DictOf.clauses.items))) c.add_expr-in-DictOf-2.new.codes c.add_clauses-in-DictOf.new.codes = first_of (search rules, grind arith, grind (arith, common_steps)) in
    adds_same (((blocks.of_expr (views.view_expr c.in-DictOf.key)) ++ (blocks.of_expr (views.view_expr c.in-DictOf.value))) ++ (blocks.of_clauses (views.clauses_of (map views.view_clause c.in-DictOf.clauses.items)))) (blocks.of_form (views.view_form c.args.form.now)) c.args.codes.now c.add_clauses-in-DictOf.new.codes (ap blocks.of_form (ap views.view_form c.in-DictOf.is ∙ equations.form_dict_of _ _ _ _)) (adds_then ((blocks.of_expr (views.view_expr c.in-DictOf.key)) ++ (blocks.of_expr (views.view_expr c.in-DictOf.value))) (blocks.of_clauses (views.clauses_of (map views.view_clause c.in-DictOf.clauses.items))) c.args.codes.now c.add_expr-in-DictOf-2.new.codes c.add_clauses-in-DictOf.new.codes (adds_then (blocks.of_expr (views.view_expr c.in-DictOf.key)) (blocks.of_expr (views.view_expr c.in-DictOf.value)) c.args.codes.now c.add_expr-in-DictOf.new.codes c.add_expr-in-DictOf-2.new.codes part0 part1) part2)

pub add_form-returns-in-Lambda : goal.add_form-returns-in-Lambda
add_form-returns-in-Lambda t c =
    let part0 : Adds ((c.in-Lambda.block.0, blocks.lambda (views.view_params c.in-Lambda.params.value) (views.view_expr c.in-Lambda.body)) ∷ []) c.args.codes.now c.put.new.self = first_of (search rules, grind arith, grind (arith, common_steps)) in
    let part1 : Adds (blocks.of_params (views.view_params c.in-Lambda.params.value)) c.put.new.self c.add_params.new.codes = first_of (search rules, grind arith, grind (arith, common_steps)) in
    let part2 : Adds (blocks.of_expr (views.view_expr c.in-Lambda.body)) c.add_params.new.codes c.add_expr-in-Lambda.new.codes = first_of (search rules, grind arith, grind (arith, common_steps)) in
    adds_same ((((c.in-Lambda.block.0, blocks.lambda (views.view_params c.in-Lambda.params.value) (views.view_expr c.in-Lambda.body)) ∷ []) ++ (blocks.of_params (views.view_params c.in-Lambda.params.value))) ++ (blocks.of_expr (views.view_expr c.in-Lambda.body))) (blocks.of_form (views.view_form c.args.form.now)) c.args.codes.now c.add_expr-in-Lambda.new.codes (ap blocks.of_form (ap views.view_form c.in-Lambda.is ∙ equations.form_lambda _ _ _)) (adds_then (((c.in-Lambda.block.0, blocks.lambda (views.view_params c.in-Lambda.params.value) (views.view_expr c.in-Lambda.body)) ∷ []) ++ (blocks.of_params (views.view_params c.in-Lambda.params.value))) (blocks.of_expr (views.view_expr c.in-Lambda.body)) c.args.codes.now c.add_params.new.codes c.add_expr-in-Lambda.new.codes (adds_then ((c.in-Lambda.block.0, blocks.lambda (views.view_params c.in-Lambda.params.value) (views.view_expr c.in-Lambda.body)) ∷ []) (blocks.of_params (views.view_params c.in-Lambda.params.value)) c.args.codes.now c.put.new.self c.add_params.new.codes part0 part1) part2)

pub add_form-returns-in-Cond : goal.add_form-returns-in-Cond
add_form-returns-in-Cond t c =
    let part0 : Adds (blocks.of_expr (views.view_expr c.in-Cond.test)) c.args.codes.now c.add_expr-in-Cond.new.codes = first_of (search rules, grind arith, grind (arith, common_steps)) in
    let part1 : Adds (blocks.of_expr (views.view_expr c.in-Cond.yes)) c.add_expr-in-Cond.new.codes c.add_expr-in-Cond-2.new.codes = first_of (search rules, grind arith, grind (arith, common_steps)) in
    let part2 : Adds (blocks.of_expr (views.view_expr c.in-Cond.no)) c.add_expr-in-Cond-2.new.codes c.add_expr-in-Cond-3.new.codes = first_of (search rules, grind arith, grind (arith, common_steps)) in
    adds_same (((blocks.of_expr (views.view_expr c.in-Cond.test)) ++ (blocks.of_expr (views.view_expr c.in-Cond.yes))) ++ (blocks.of_expr (views.view_expr c.in-Cond.no))) (blocks.of_form (views.view_form c.args.form.now)) c.args.codes.now c.add_expr-in-Cond-3.new.codes (ap blocks.of_form (ap views.view_form c.in-Cond.is ∙ equations.form_cond _ _ _)) (adds_then ((blocks.of_expr (views.view_expr c.in-Cond.test)) ++ (blocks.of_expr (views.view_expr c.in-Cond.yes))) (blocks.of_expr (views.view_expr c.in-Cond.no)) c.args.codes.now c.add_expr-in-Cond-2.new.codes c.add_expr-in-Cond-3.new.codes (adds_then (blocks.of_expr (views.view_expr c.in-Cond.test)) (blocks.of_expr (views.view_expr c.in-Cond.yes)) c.args.codes.now c.add_expr-in-Cond.new.codes c.add_expr-in-Cond-2.new.codes part0 part1) part2)

pub add_form-returns-in-Compare : goal.add_form-returns-in-Compare
add_form-returns-in-Compare t c =
    let part0 : Adds (blocks.of_expr (views.view_expr c.in-Compare.operand)) c.args.codes.now c.add_expr-in-Compare.new.codes = first_of (search rules, grind arith, grind (arith, common_steps)) in
    let part1 : Adds (blocks.of_tests (views.tests_of (map views.view_test c.in-Compare.tests.items))) c.add_expr-in-Compare.new.codes c.add_tests.new.codes = first_of (search rules, grind arith, grind (arith, common_steps)) in
    adds_same ((blocks.of_expr (views.view_expr c.in-Compare.operand)) ++ (blocks.of_tests (views.tests_of (map views.view_test c.in-Compare.tests.items)))) (blocks.of_form (views.view_form c.args.form.now)) c.args.codes.now c.add_tests.new.codes (ap blocks.of_form (ap views.view_form c.in-Compare.is ∙ equations.form_compare _ _)) (adds_then (blocks.of_expr (views.view_expr c.in-Compare.operand)) (blocks.of_tests (views.tests_of (map views.view_test c.in-Compare.tests.items))) c.args.codes.now c.add_expr-in-Compare.new.codes c.add_tests.new.codes part0 part1)

pub add_form-returns-in-Chain : goal.add_form-returns-in-Chain
add_form-returns-in-Chain t c =
    let part0 : Adds (blocks.of_expr (views.view_expr c.in-Chain.operand)) c.args.codes.now c.add_expr-in-Chain.new.codes = first_of (search rules, grind arith, grind (arith, common_steps)) in
    let part1 : Adds (blocks.of_ops (views.ops_of (map views.view_op c.in-Chain.more.items))) c.add_expr-in-Chain.new.codes c.add_operands.new.codes = first_of (search rules, grind arith, grind (arith, common_steps)) in
    adds_same ((blocks.of_expr (views.view_expr c.in-Chain.operand)) ++ (blocks.of_ops (views.ops_of (map views.view_op c.in-Chain.more.items)))) (blocks.of_form (views.view_form c.args.form.now)) c.args.codes.now c.add_operands.new.codes (ap blocks.of_form (ap views.view_form c.in-Chain.is ∙ equations.form_chain _ _)) (adds_then (blocks.of_expr (views.view_expr c.in-Chain.operand)) (blocks.of_ops (views.ops_of (map views.view_op c.in-Chain.more.items))) c.args.codes.now c.add_expr-in-Chain.new.codes c.add_operands.new.codes part0 part1)

pub add_form-returns-in-Power : goal.add_form-returns-in-Power
add_form-returns-in-Power t c =
    let part0 : Adds (blocks.of_expr (views.view_expr c.in-Power.base)) c.args.codes.now c.add_expr-in-Power.new.codes = first_of (search rules, grind arith, grind (arith, common_steps)) in
    let part1 : Adds (blocks.of_expr (views.view_expr c.in-Power.exponent)) c.add_expr-in-Power.new.codes c.add_expr-in-Power-2.new.codes = first_of (search rules, grind arith, grind (arith, common_steps)) in
    adds_same ((blocks.of_expr (views.view_expr c.in-Power.base)) ++ (blocks.of_expr (views.view_expr c.in-Power.exponent))) (blocks.of_form (views.view_form c.args.form.now)) c.args.codes.now c.add_expr-in-Power-2.new.codes (ap blocks.of_form (ap views.view_form c.in-Power.is ∙ equations.form_power _ _)) (adds_then (blocks.of_expr (views.view_expr c.in-Power.base)) (blocks.of_expr (views.view_expr c.in-Power.exponent)) c.args.codes.now c.add_expr-in-Power.new.codes c.add_expr-in-Power-2.new.codes part0 part1)

pub add_form-returns-in-Primary : goal.add_form-returns-in-Primary
add_form-returns-in-Primary t c =
    let part0 : Adds (blocks.of_expr (views.view_expr c.in-Primary.atom)) c.args.codes.now c.add_expr-in-Primary.new.codes = first_of (search rules, grind arith, grind (arith, common_steps)) in
    let part1 : Adds (blocks.of_trailers (views.trailers_of (map views.view_trailer c.in-Primary.trailers.items))) c.add_expr-in-Primary.new.codes c.add_trailers.new.codes = first_of (search rules, grind arith, grind (arith, common_steps)) in
    adds_same ((blocks.of_expr (views.view_expr c.in-Primary.atom)) ++ (blocks.of_trailers (views.trailers_of (map views.view_trailer c.in-Primary.trailers.items)))) (blocks.of_form (views.view_form c.args.form.now)) c.args.codes.now c.add_trailers.new.codes (ap blocks.of_form (ap views.view_form c.in-Primary.is ∙ equations.form_primary _ _)) (adds_then (blocks.of_expr (views.view_expr c.in-Primary.atom)) (blocks.of_trailers (views.trailers_of (map views.view_trailer c.in-Primary.trailers.items))) c.args.codes.now c.add_expr-in-Primary.new.codes c.add_trailers.new.codes part0 part1)

pub add_place-returns-in-Item : goal.add_place-returns-in-Item
add_place-returns-in-Item t c =
    let part0 : Adds (blocks.of_expr (views.view_expr c.in-Item.container)) c.args.codes.now c.add_expr-in-Item.new.codes = first_of (search rules, grind arith, grind (arith, common_steps)) in
    let part1 : Adds (blocks.of_expr (views.view_expr c.in-Item.key)) c.add_expr-in-Item.new.codes c.add_expr-in-Item-2.new.codes = first_of (search rules, grind arith, grind (arith, common_steps)) in
    adds_same ((blocks.of_expr (views.view_expr c.in-Item.container)) ++ (blocks.of_expr (views.view_expr c.in-Item.key))) (blocks.of_place (views.view_place c.args.place.now)) c.args.codes.now c.add_expr-in-Item-2.new.codes (ap blocks.of_place (ap views.view_place c.in-Item.is ∙ equations.place_item _ _ _)) (adds_then (blocks.of_expr (views.view_expr c.in-Item.container)) (blocks.of_expr (views.view_expr c.in-Item.key)) c.args.codes.now c.add_expr-in-Item.new.codes c.add_expr-in-Item-2.new.codes part0 part1)

pub add_clause-returns : goal.add_clause-returns
add_clause-returns t c =
    let part0 : Adds (blocks.of_walk (views.view_walk (out-Clause c.args.clause.now).walk)) c.args.codes.now c.add_walk.new.codes = first_of (search rules, grind arith, grind (arith, common_steps)) in
    let part1 : Adds (blocks.of_exprs (views.exprs_of (map views.view_expr (out-Clause c.args.clause.now).tests.items))) c.add_walk.new.codes c.add_exprs.new.codes = first_of (search rules, grind arith, grind (arith, common_steps)) in
    adds_same ((blocks.of_walk (views.view_walk (out-Clause c.args.clause.now).walk)) ++ (blocks.of_exprs (views.exprs_of (map views.view_expr (out-Clause c.args.clause.now).tests.items)))) (blocks.of_clause (views.view_clause c.args.clause.now)) c.args.codes.now c.add_exprs.new.codes (ap blocks.of_clause (equations.clause_out c.args.clause.now)) (adds_then (blocks.of_walk (views.view_walk (out-Clause c.args.clause.now).walk)) (blocks.of_exprs (views.exprs_of (map views.view_expr (out-Clause c.args.clause.now).tests.items))) c.args.codes.now c.add_walk.new.codes c.add_exprs.new.codes part0 part1)

pub add_walk-returns : goal.add_walk-returns
add_walk-returns t c =
    let part0 : Adds (blocks.of_target (views.view_target (out-Walk c.args.walk.now).target)) c.args.codes.now c.add_target.new.codes = first_of (search rules, grind arith, grind (arith, common_steps)) in
    let part1 : Adds (blocks.of_expr (views.view_expr (out-Walk c.args.walk.now).of)) c.add_target.new.codes c.add_expr.new.codes = first_of (search rules, grind arith, grind (arith, common_steps)) in
    adds_same ((blocks.of_target (views.view_target (out-Walk c.args.walk.now).target)) ++ (blocks.of_expr (views.view_expr (out-Walk c.args.walk.now).of))) (blocks.of_walk (views.view_walk c.args.walk.now)) c.args.codes.now c.add_expr.new.codes (ap blocks.of_walk (equations.walk_out c.args.walk.now)) (adds_then (blocks.of_target (views.view_target (out-Walk c.args.walk.now).target)) (blocks.of_expr (views.view_expr (out-Walk c.args.walk.now).of)) c.args.codes.now c.add_target.new.codes c.add_expr.new.codes part0 part1)

pub add_slice-returns : goal.add_slice-returns
add_slice-returns t c =
    let part0 : Adds (blocks.of_maybe (views.maybe_of (option_map views.view_expr (out-Slice c.args.slice.now).from))) c.args.codes.now c.add_option.new.codes = first_of (search rules, grind arith, grind (arith, common_steps)) in
    let part1 : Adds (blocks.of_maybe (views.maybe_of (option_map views.view_expr (out-Slice c.args.slice.now).to))) c.add_option.new.codes c.add_option-2.new.codes = first_of (search rules, grind arith, grind (arith, common_steps)) in
    let part2 : Adds (blocks.of_maybe (views.maybe_of (option_map views.view_expr (out-Slice c.args.slice.now).step))) c.add_option-2.new.codes c.add_option-3.new.codes = first_of (search rules, grind arith, grind (arith, common_steps)) in
    adds_same (((blocks.of_maybe (views.maybe_of (option_map views.view_expr (out-Slice c.args.slice.now).from))) ++ (blocks.of_maybe (views.maybe_of (option_map views.view_expr (out-Slice c.args.slice.now).to)))) ++ (blocks.of_maybe (views.maybe_of (option_map views.view_expr (out-Slice c.args.slice.now).step)))) (slice_codes (views.view_slice c.args.slice.now)) c.args.codes.now c.add_option-3.new.codes (ap slice_codes (equations.slice_out c.args.slice.now)) (adds_then ((blocks.of_maybe (views.maybe_of (option_map views.view_expr (out-Slice c.args.slice.now).from))) ++ (blocks.of_maybe (views.maybe_of (option_map views.view_expr (out-Slice c.args.slice.now).to)))) (blocks.of_maybe (views.maybe_of (option_map views.view_expr (out-Slice c.args.slice.now).step))) c.args.codes.now c.add_option-2.new.codes c.add_option-3.new.codes (adds_then (blocks.of_maybe (views.maybe_of (option_map views.view_expr (out-Slice c.args.slice.now).from))) (blocks.of_maybe (views.maybe_of (option_map views.view_expr (out-Slice c.args.slice.now).to))) c.args.codes.now c.add_option.new.codes c.add_option-2.new.codes part0 part1) part2)
