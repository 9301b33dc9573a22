use Rattle.std.proofs.Common.{◌≡◌, get_or, option_map, map, ap, sym, ◌∙◌, refl, arith, rules}
use Rattle.std.proofs.lemmas.Grind.{common_steps}
use Rattle.rp_tree.specs.Expressions as trees
use Rattle.rp_tree.specs.ExpressionViews as views
use Rattle.rp_tree.specs.Maps as maps
use Rattle.rp_tree.specs.Maps.{no_blocks}
use Rattle.rp_tree.specs.declared.expr.Arg.TheViews.{out-Params, out-Clause}
use Rattle.rp_tree.proofs.ExpressionEquations.{form_or, form_and, form_compare, form_chain, form_primary, form_list_of, form_dict_of, trailer_call, walk_out, walk_roll}
use Rattle.std.specs.Vec.{with_items}
use Rattle.rp_scope.specs.Numbers as numbering
use Rattle.rp_scope.specs.NumberSteps.{past, renumbered, start, pair_numbers, second_numbers, slice_numbers}
use Rattle.rp_scope.proofs.Runs.{append_runs, all_numbers-map, renumbered_all, start_all, all_kept}
use Rattle.rp_scope.proofs.Lists.{shape_pair, shape_test, shape_op, view_default, shape_default, default_numbers, defaults_of, defaults_of_views, exprs_shape, exprs_numbers, pairs_shape, pairs_numbers, tests_shape, tests_numbers, ops_shape, ops_numbers, clauses_shape, clauses_numbers, targets_shape, targets_numbers, plain_shape, plain_numbers, trailers_shape, trailers_numbers, args_shape, args_numbers}
use Rattle.rp_scope.proofs.Forms as forms
use Rattle.rp_scope.proofs.Forms.{run_pair, past_pair}
use Rattle.rp_scope.proofs.Elements.{more, no_default, unvisited_more, begins_more}
use Rattle.rp_scope.proofs.numbers.+number_expr.Goals as goal
use Rattle.rp_scope.proofs.numbers.+number_expr.Goals.{number_defaults-in-Some, number_defaults-in_default}

pub number_exprs-returns : goal.number_exprs-returns
number_exprs-returns t c = record {
  kept = sym (exprs_shape _) ∙ (ap views.exprs_of (all_kept views.view_expr (maps.map_expr no_blocks) c.args.exprs.now c.exprs.exprs (omega arith) (λ k d lt. (c.exprs.invariant.numbered k d (omega arith)).0)) ∙ exprs_shape _);
  numbers = exprs_numbers (map views.view_expr c.exprs.exprs) ∙ (all_numbers-map views.view_expr numbering.expr_numbers c.exprs.exprs ∙ (renumbered_all (λ x. numbering.expr_numbers (views.view_expr x)) c.args.first c.args.exprs.now c.exprs.exprs (omega arith) (λ k d lt. (c.exprs.invariant.numbered k d (omega arith)).1) ∙ ap (renumbered c.args.first) (sym (exprs_numbers (map views.view_expr c.args.exprs.now) ∙ all_numbers-map views.view_expr numbering.expr_numbers c.args.exprs.now))));
  next = c.exprs.invariant.begins ∙ (ap (start (λ x. numbering.expr_numbers (views.view_expr x)) c.args.first c.args.exprs.now) (omega arith) ∙ (start_all (λ x. numbering.expr_numbers (views.view_expr x)) c.args.first c.args.exprs.now ∙ ap (λ zs. past zs c.args.first) (sym (exprs_numbers (map views.view_expr c.args.exprs.now) ∙ all_numbers-map views.view_expr numbering.expr_numbers c.args.exprs.now))));
}

pub number_pairs-returns : goal.number_pairs-returns
number_pairs-returns t c = record {
  kept = sym (pairs_shape _) ∙ (ap views.pairs_of (all_kept views.view_pair shape_pair c.args.pairs.now c.pairs.pairs (omega arith) (λ k d lt. let parts = c.pairs.invariant.numbered k d (omega arith) in rw (parts.0, parts.1) refl)) ∙ pairs_shape _);
  numbers = pairs_numbers (map views.view_pair c.pairs.pairs) ∙ (all_numbers-map views.view_pair pair_numbers c.pairs.pairs ∙ (renumbered_all (λ x. pair_numbers (views.view_pair x)) c.args.first c.args.pairs.now c.pairs.pairs (omega arith) (λ k d lt. (c.pairs.invariant.numbered k d (omega arith)).2) ∙ ap (renumbered c.args.first) (sym (pairs_numbers (map views.view_pair c.args.pairs.now) ∙ all_numbers-map views.view_pair pair_numbers c.args.pairs.now))));
  next = c.pairs.invariant.begins ∙ (ap (start (λ x. pair_numbers (views.view_pair x)) c.args.first c.args.pairs.now) (omega arith) ∙ (start_all (λ x. pair_numbers (views.view_pair x)) c.args.first c.args.pairs.now ∙ ap (λ zs. past zs c.args.first) (sym (pairs_numbers (map views.view_pair c.args.pairs.now) ∙ all_numbers-map views.view_pair pair_numbers c.args.pairs.now))));
}

pub number_tests-returns : goal.number_tests-returns
number_tests-returns t c = record {
  kept = sym (tests_shape _) ∙ (ap views.tests_of (all_kept views.view_test shape_test c.args.tests.now c.tests.tests (omega arith) (λ k d lt. let parts = c.tests.invariant.numbered k d (omega arith) in rw (parts.0, parts.1) refl)) ∙ tests_shape _);
  numbers = tests_numbers (map views.view_test c.tests.tests) ∙ (all_numbers-map views.view_test second_numbers c.tests.tests ∙ (renumbered_all (λ x. second_numbers (views.view_test x)) c.args.first c.args.tests.now c.tests.tests (omega arith) (λ k d lt. (c.tests.invariant.numbered k d (omega arith)).2) ∙ ap (renumbered c.args.first) (sym (tests_numbers (map views.view_test c.args.tests.now) ∙ all_numbers-map views.view_test second_numbers c.args.tests.now))));
  next = c.tests.invariant.begins ∙ (ap (start (λ x. second_numbers (views.view_test x)) c.args.first c.args.tests.now) (omega arith) ∙ (start_all (λ x. second_numbers (views.view_test x)) c.args.first c.args.tests.now ∙ ap (λ zs. past zs c.args.first) (sym (tests_numbers (map views.view_test c.args.tests.now) ∙ all_numbers-map views.view_test second_numbers c.args.tests.now))));
}

pub number_operands-returns : goal.number_operands-returns
number_operands-returns t c = record {
  kept = sym (ops_shape _) ∙ (ap views.ops_of (all_kept views.view_op shape_op c.args.operands.now c.operands.operands (omega arith) (λ k d lt. let parts = c.operands.invariant.numbered k d (omega arith) in rw (parts.0, parts.1) refl)) ∙ ops_shape _);
  numbers = ops_numbers (map views.view_op c.operands.operands) ∙ (all_numbers-map views.view_op second_numbers c.operands.operands ∙ (renumbered_all (λ x. second_numbers (views.view_op x)) c.args.first c.args.operands.now c.operands.operands (omega arith) (λ k d lt. (c.operands.invariant.numbered k d (omega arith)).2) ∙ ap (renumbered c.args.first) (sym (ops_numbers (map views.view_op c.args.operands.now) ∙ all_numbers-map views.view_op second_numbers c.args.operands.now))));
  next = c.operands.invariant.begins ∙ (ap (start (λ x. second_numbers (views.view_op x)) c.args.first c.args.operands.now) (omega arith) ∙ (start_all (λ x. second_numbers (views.view_op x)) c.args.first c.args.operands.now ∙ ap (λ zs. past zs c.args.first) (sym (ops_numbers (map views.view_op c.args.operands.now) ∙ all_numbers-map views.view_op second_numbers c.args.operands.now))));
}

pub number_clauses-returns : goal.number_clauses-returns
number_clauses-returns t c = record {
  kept = sym (clauses_shape _) ∙ (ap views.clauses_of (all_kept views.view_clause (maps.map_clause no_blocks) c.args.clauses.now c.clauses.clauses (omega arith) (λ k d lt. (c.clauses.invariant.numbered k d (omega arith)).0)) ∙ clauses_shape _);
  numbers = clauses_numbers (map views.view_clause c.clauses.clauses) ∙ (all_numbers-map views.view_clause numbering.clause_numbers c.clauses.clauses ∙ (renumbered_all (λ x. numbering.clause_numbers (views.view_clause x)) c.args.first c.args.clauses.now c.clauses.clauses (omega arith) (λ k d lt. (c.clauses.invariant.numbered k d (omega arith)).1) ∙ ap (renumbered c.args.first) (sym (clauses_numbers (map views.view_clause c.args.clauses.now) ∙ all_numbers-map views.view_clause numbering.clause_numbers c.args.clauses.now))));
  next = c.clauses.invariant.begins ∙ (ap (start (λ x. numbering.clause_numbers (views.view_clause x)) c.args.first c.args.clauses.now) (omega arith) ∙ (start_all (λ x. numbering.clause_numbers (views.view_clause x)) c.args.first c.args.clauses.now ∙ ap (λ zs. past zs c.args.first) (sym (clauses_numbers (map views.view_clause c.args.clauses.now) ∙ all_numbers-map views.view_clause numbering.clause_numbers c.args.clauses.now))));
}

pub number_targets-returns : goal.number_targets-returns
number_targets-returns t c = record {
  kept = sym (targets_shape _) ∙ (ap views.targets_of (all_kept views.view_target (maps.map_target no_blocks) c.args.targets.now c.targets.targets (omega arith) (λ k d lt. (c.targets.invariant.numbered k d (omega arith)).0)) ∙ targets_shape _);
  numbers = targets_numbers (map views.view_target c.targets.targets) ∙ (all_numbers-map views.view_target numbering.target_numbers c.targets.targets ∙ (renumbered_all (λ x. numbering.target_numbers (views.view_target x)) c.args.first c.args.targets.now c.targets.targets (omega arith) (λ k d lt. (c.targets.invariant.numbered k d (omega arith)).1) ∙ ap (renumbered c.args.first) (sym (targets_numbers (map views.view_target c.args.targets.now) ∙ all_numbers-map views.view_target numbering.target_numbers c.args.targets.now))));
  next = c.targets.invariant.begins ∙ (ap (start (λ x. numbering.target_numbers (views.view_target x)) c.args.first c.args.targets.now) (omega arith) ∙ (start_all (λ x. numbering.target_numbers (views.view_target x)) c.args.first c.args.targets.now ∙ ap (λ zs. past zs c.args.first) (sym (targets_numbers (map views.view_target c.args.targets.now) ∙ all_numbers-map views.view_target numbering.target_numbers c.args.targets.now))));
}

pub number_defaults-returns : goal.number_defaults-returns
number_defaults-returns t c = record {
  kept = ap (maps.map_plain no_blocks) (defaults_of_views c.plain.plain) ∙ (sym (plain_shape _) ∙ (ap defaults_of (all_kept view_default shape_default c.args.plain.now c.plain.plain (omega arith) (λ k d lt. let parts = c.plain.invariant.numbered k d (omega arith) in rw (parts.0, parts.1) refl)) ∙ plain_shape _) ∙ sym (ap (maps.map_plain no_blocks) (defaults_of_views c.args.plain.now)));
  numbers = ap numbering.plain_numbers (defaults_of_views c.plain.plain) ∙ (plain_numbers (map view_default c.plain.plain) ∙ (all_numbers-map view_default default_numbers c.plain.plain ∙ (renumbered_all (λ x. default_numbers (view_default x)) c.args.first c.args.plain.now c.plain.plain (omega arith) (λ k d lt. (c.plain.invariant.numbered k d (omega arith)).2) ∙ ap (renumbered c.args.first) (sym (plain_numbers (map view_default c.args.plain.now) ∙ all_numbers-map view_default default_numbers c.args.plain.now)))) ∙ sym (ap (λ z. renumbered c.args.first (numbering.plain_numbers z)) (defaults_of_views c.args.plain.now)));
  next = (c.plain.invariant.begins ∙ (ap (start (λ x. default_numbers (view_default x)) c.args.first c.args.plain.now) (omega arith) ∙ (start_all (λ x. default_numbers (view_default x)) c.args.first c.args.plain.now ∙ ap (λ zs. past zs c.args.first) (sym (plain_numbers (map view_default c.args.plain.now) ∙ all_numbers-map view_default default_numbers c.args.plain.now))))) ∙ sym (ap (λ z. past (numbering.plain_numbers z) c.args.first) (defaults_of_views c.args.plain.now));
}

pub number_trailers-returns : goal.number_trailers-returns
number_trailers-returns t c = record {
  kept = sym (trailers_shape _) ∙ (ap views.trailers_of (all_kept views.view_trailer (maps.map_trailer no_blocks) c.args.trailers.now c.trailers.trailers (omega arith) (λ k d lt. (c.trailers.invariant.numbered k d (omega arith)).0)) ∙ trailers_shape _);
  numbers = trailers_numbers (map views.view_trailer c.trailers.trailers) ∙ (all_numbers-map views.view_trailer numbering.trailer_numbers c.trailers.trailers ∙ (renumbered_all (λ x. numbering.trailer_numbers (views.view_trailer x)) c.args.first c.args.trailers.now c.trailers.trailers (omega arith) (λ k d lt. (c.trailers.invariant.numbered k d (omega arith)).1) ∙ ap (renumbered c.args.first) (sym (trailers_numbers (map views.view_trailer c.args.trailers.now) ∙ all_numbers-map views.view_trailer numbering.trailer_numbers c.args.trailers.now))));
  next = c.trailers.invariant.begins ∙ (ap (start (λ x. numbering.trailer_numbers (views.view_trailer x)) c.args.first c.args.trailers.now) (omega arith) ∙ (start_all (λ x. numbering.trailer_numbers (views.view_trailer x)) c.args.first c.args.trailers.now ∙ ap (λ zs. past zs c.args.first) (sym (trailers_numbers (map views.view_trailer c.args.trailers.now) ∙ all_numbers-map views.view_trailer numbering.trailer_numbers c.args.trailers.now))));
}

pub number_args-returns : goal.number_args-returns
number_args-returns t c = record {
  kept = sym (args_shape _) ∙ (ap views.args_of (all_kept views.view_arg (maps.map_arg no_blocks) c.args.args.now c.arguments.args (omega arith) (λ k d lt. (c.arguments.invariant.numbered k d (omega arith)).0)) ∙ args_shape _);
  numbers = args_numbers (map views.view_arg c.arguments.args) ∙ (all_numbers-map views.view_arg numbering.arg_numbers c.arguments.args ∙ (renumbered_all (λ x. numbering.arg_numbers (views.view_arg x)) c.args.first c.args.args.now c.arguments.args (omega arith) (λ k d lt. (c.arguments.invariant.numbered k d (omega arith)).1) ∙ ap (renumbered c.args.first) (sym (args_numbers (map views.view_arg c.args.args.now) ∙ all_numbers-map views.view_arg numbering.arg_numbers c.args.args.now))));
  next = c.arguments.invariant.begins ∙ (ap (start (λ x. numbering.arg_numbers (views.view_arg x)) c.args.first c.args.args.now) (omega arith) ∙ (start_all (λ x. numbering.arg_numbers (views.view_arg x)) c.args.first c.args.args.now ∙ ap (λ zs. past zs c.args.first) (sym (args_numbers (map views.view_arg c.args.args.now) ∙ all_numbers-map views.view_arg numbering.arg_numbers c.args.args.now))));
}

pub number_form-returns-in-ListOf-clause-numbers : goal.number_form-returns-in-ListOf-clause-numbers
number_form-returns-in-ListOf-clause-numbers t c = first_of (grind (arith, common_steps, form_list_of, append_runs), grind (arith, form_list_of, append_runs), search (rules, form_list_of, append_runs))

pub number_form-returns-in-DictOf-clause-kept : goal.number_form-returns-in-DictOf-clause-kept
number_form-returns-in-DictOf-clause-kept t c = grind (arith, common_steps, form_dict_of)

pub number_form-returns-in-DictOf-clause-numbers : goal.number_form-returns-in-DictOf-clause-numbers
number_form-returns-in-DictOf-clause-numbers t c = first_of (grind (arith, common_steps, form_dict_of, append_runs), grind (arith, form_dict_of, append_runs), search (rules, form_dict_of, append_runs))

pub number_form-returns-in-Lambda-clause-kept : goal.number_form-returns-in-Lambda-clause-kept
number_form-returns-in-Lambda-clause-kept t c = let params : maps.map_params no_blocks (views.view_params c.number_params-body_first.new.params) ≡ maps.map_params no_blocks (views.view_params c.in-Lambda.params.value) = first_of (search rules, grind arith, grind (arith, common_steps)) in let body : maps.map_expr no_blocks (views.view_expr c.number_expr-in-Lambda.new.expr) ≡ maps.map_expr no_blocks (views.view_expr c.in-Lambda.body) = first_of (search rules, grind arith, grind (arith, common_steps)) in forms.lambda_kept _ c.in-Lambda.block _ c.in-Lambda.params _ c.in-Lambda.body _ c.in-Lambda.is params body

pub number_form-returns-in-Lambda-clause-numbers : goal.number_form-returns-in-Lambda-clause-numbers
number_form-returns-in-Lambda-clause-numbers t c = let params : numbering.params_numbers (views.view_params c.number_params-body_first.new.params) ≡ renumbered c.following-params_first.result (numbering.params_numbers (views.view_params c.in-Lambda.params.value)) = first_of (search rules, grind arith, grind (arith, common_steps)) in let passed : c.number_params-body_first.result ≡ past (numbering.params_numbers (views.view_params c.in-Lambda.params.value)) c.following-params_first.result = first_of (search rules, grind arith, grind (arith, common_steps)) in let body : numbering.expr_numbers (views.view_expr c.number_expr-in-Lambda.new.expr) ≡ renumbered c.number_params-body_first.result (numbering.expr_numbers (views.view_expr c.in-Lambda.body)) = first_of (search rules, grind arith, grind (arith, common_steps)) in forms.lambda_numbers _ c.in-Lambda.block _ c.in-Lambda.params _ c.in-Lambda.body _ c.args.first c.following-params_first.result c.number_params-body_first.result c.in-Lambda.is refl c.following-params_first.ensures params passed body

pub number_form-returns-in-Or-clause-kept : goal.number_form-returns-in-Or-clause-kept
number_form-returns-in-Or-clause-kept t c = grind (arith, common_steps, form_or)

pub number_form-returns-in-Or-clause-numbers : goal.number_form-returns-in-Or-clause-numbers
number_form-returns-in-Or-clause-numbers t c = first_of (grind (arith, common_steps, form_or, append_runs), grind (arith, form_or, append_runs), search (rules, form_or, append_runs))

pub number_form-returns-in-And-clause-kept : goal.number_form-returns-in-And-clause-kept
number_form-returns-in-And-clause-kept t c = grind (arith, common_steps, form_and)

pub number_form-returns-in-And-clause-numbers : goal.number_form-returns-in-And-clause-numbers
number_form-returns-in-And-clause-numbers t c = first_of (grind (arith, common_steps, form_and, append_runs), grind (arith, form_and, append_runs), search (rules, form_and, append_runs))

pub number_form-returns-in-Compare-clause-kept : goal.number_form-returns-in-Compare-clause-kept
number_form-returns-in-Compare-clause-kept t c = grind (arith, common_steps, form_compare)

pub number_form-returns-in-Compare-clause-numbers : goal.number_form-returns-in-Compare-clause-numbers
number_form-returns-in-Compare-clause-numbers t c = first_of (grind (arith, common_steps, form_compare, append_runs), grind (arith, form_compare, append_runs), search (rules, form_compare, append_runs))

pub number_form-returns-in-Chain-clause-kept : goal.number_form-returns-in-Chain-clause-kept
number_form-returns-in-Chain-clause-kept t c = grind (arith, common_steps, form_chain)

pub number_form-returns-in-Chain-clause-numbers : goal.number_form-returns-in-Chain-clause-numbers
number_form-returns-in-Chain-clause-numbers t c = first_of (grind (arith, common_steps, form_chain, append_runs), grind (arith, form_chain, append_runs), search (rules, form_chain, append_runs))

pub number_form-returns-in-Primary-clause-kept : goal.number_form-returns-in-Primary-clause-kept
number_form-returns-in-Primary-clause-kept t c = grind (arith, common_steps, form_primary)

pub number_form-returns-in-Primary-clause-numbers : goal.number_form-returns-in-Primary-clause-numbers
number_form-returns-in-Primary-clause-numbers t c = first_of (grind (arith, common_steps, form_primary, append_runs), grind (arith, form_primary, append_runs), search (rules, form_primary, append_runs))

pub number_clause-returns-clause-numbers : goal.number_clause-returns-clause-numbers
number_clause-returns-clause-numbers t c = forms.clause_numbered c.args.clause.now (record { walk = c.number_walk-tests_first.new.walk; tests = (out-Clause c.args.clause.now).tests }) c.args.first c.number_walk-tests_first.result c.deref_mut.result.now c.number_exprs.new.exprs refl c.number_walk-tests_first.ensures.numbers c.number_walk-tests_first.ensures.next c.deref_mut.ensures.value (omega arith) c.number_exprs.ensures.numbers

pub number_clause-returns-clause-next : goal.number_clause-returns-clause-next
unfolding out-Clause
number_clause-returns-clause-next t c = forms.clause_next c.args.clause.now c.args.first c.number_walk-tests_first.result c.number_exprs.result c.number_walk-tests_first.ensures.next (c.number_exprs.ensures.next ∙ ap (λ xs. past (numbering.exprs_numbers (views.exprs_of (map views.view_expr xs))) c.number_walk-tests_first.result) (c.deref_mut.ensures.value ∙ forms.out_tests (record { walk = c.number_walk-tests_first.new.walk; tests = (out-Clause c.args.clause.now).tests })))

pub number_walk-returns-clause-numbers : goal.number_walk-returns-clause-numbers
number_walk-returns-clause-numbers t c = first_of (grind (arith, common_steps, walk_out, walk_roll, append_runs), grind (arith, walk_out, walk_roll, append_runs), search (rules, walk_out, walk_roll, append_runs))

pub number_walk-returns-clause-next : goal.number_walk-returns-clause-next
number_walk-returns-clause-next t c = first_of (grind (arith, common_steps, walk_out, walk_roll, append_runs), grind (arith, walk_out, walk_roll, append_runs), search (rules, walk_out, walk_roll, append_runs))

pub number_place-returns-in-Item-clause-numbers : goal.number_place-returns-in-Item-clause-numbers
number_place-returns-in-Item-clause-numbers t c = let container : numbering.expr_numbers (views.view_expr c.number_expr-key_first.new.expr) ≡ renumbered c.args.first (numbering.expr_numbers (views.view_expr c.in-Item.container)) = first_of (search rules, grind arith, grind (arith, common_steps)) in let passed : c.number_expr-key_first.result ≡ past (numbering.expr_numbers (views.view_expr c.in-Item.container)) c.args.first = first_of (search rules, grind arith, grind (arith, common_steps)) in let key : numbering.expr_numbers (views.view_expr c.number_expr-in-Item.new.expr) ≡ renumbered c.number_expr-key_first.result (numbering.expr_numbers (views.view_expr c.in-Item.key)) = first_of (search rules, grind arith, grind (arith, common_steps)) in forms.item_numbers _ c.in-Item.container c.in-Item.key _ _ _ _ c.args.first c.number_expr-key_first.result c.in-Item.is container passed key

pub number_place-returns-in-Item-clause-next : goal.number_place-returns-in-Item-clause-next
number_place-returns-in-Item-clause-next t c = let passed : c.number_expr-key_first.result ≡ past (numbering.expr_numbers (views.view_expr c.in-Item.container)) c.args.first = first_of (search rules, grind arith, grind (arith, common_steps)) in let key : c.number_expr-in-Item.result ≡ past (numbering.expr_numbers (views.view_expr c.in-Item.key)) c.number_expr-key_first.result = first_of (search rules, grind arith, grind (arith, common_steps)) in forms.item_next _ c.in-Item.container c.in-Item.key _ c.args.first c.number_expr-key_first.result c.number_expr-in-Item.result c.in-Item.is passed key

pub number_params-returns-clause-kept : goal.number_params-returns-clause-kept
number_params-returns-clause-kept t c = forms.params_kept c.args.params.now (record { plain = with_items (out-Params c.args.params.now).plain c.number_defaults.new.plain; list = (out-Params c.args.params.now).list; dict = (out-Params c.args.params.now).dict }) (forms.filled_kept (λ xs. views.plain_of (map views.view_plain xs)) (maps.map_plain no_blocks) (out-Params c.args.params.now).plain (out-Params c.args.params.now).plain c.deref_mut.result.now c.number_defaults.new.plain refl c.deref_mut.ensures.value (omega arith) c.number_defaults.ensures.kept) refl refl

pub number_params-returns-clause-numbers : goal.number_params-returns-clause-numbers
number_params-returns-clause-numbers t c = forms.params_numbers c.args.params.now (record { plain = with_items (out-Params c.args.params.now).plain c.number_defaults.new.plain; list = (out-Params c.args.params.now).list; dict = (out-Params c.args.params.now).dict }) c.args.first (forms.filled_numbers (λ xs. views.plain_of (map views.view_plain xs)) numbering.plain_numbers c.args.first (out-Params c.args.params.now).plain (out-Params c.args.params.now).plain c.deref_mut.result.now c.number_defaults.new.plain refl c.deref_mut.ensures.value (omega arith) c.number_defaults.ensures.numbers)

pub number_slice-returns-clause-numbers : goal.number_slice-returns-clause-numbers
number_slice-returns-clause-numbers t c = forms.slice_numbers_set c.args.slice.now c.number_option-to_first.new.expr c.number_option-step_first.new.expr c.number_option.new.expr c.args.first c.number_option-to_first.result c.number_option-step_first.result c.number_option-to_first.ensures.numbers c.number_option-to_first.ensures.next c.number_option-step_first.ensures.numbers c.number_option-step_first.ensures.next c.number_option.ensures.numbers

pub number_slice-returns-clause-next : goal.number_slice-returns-clause-next
number_slice-returns-clause-next t c = forms.slice_passed_by c.args.slice.now c.number_option-to_first.new.expr c.number_option-step_first.new.expr c.args.first c.number_option-to_first.result c.number_option-step_first.result c.number_option.result c.number_option-to_first.ensures.next c.number_option-step_first.ensures.next c.number_option.ensures.next

pub number_trailer-returns-in-Slice-clause-kept : goal.number_trailer-returns-in-Slice-clause-kept
number_trailer-returns-in-Slice-clause-kept t c = let from : maps.map_maybe no_blocks (views.view_slice c.number_slice.new.slice).0 ≡ maps.map_maybe no_blocks (views.view_slice c.in-Slice.slice.value).0 = first_of (search rules, grind arith, grind (arith, common_steps)) in let to : maps.map_maybe no_blocks (views.view_slice c.number_slice.new.slice).1 ≡ maps.map_maybe no_blocks (views.view_slice c.in-Slice.slice.value).1 = first_of (search rules, grind arith, grind (arith, common_steps)) in let step : maps.map_maybe no_blocks (views.view_slice c.number_slice.new.slice).2 ≡ maps.map_maybe no_blocks (views.view_slice c.in-Slice.slice.value).2 = first_of (search rules, grind arith, grind (arith, common_steps)) in forms.slice_kept _ c.in-Slice.slice _ c.in-Slice._guard _ c.in-Slice.is c.in-Slice._guard-is from to step

pub number_trailer-returns-in-Slice-clause-numbers : goal.number_trailer-returns-in-Slice-clause-numbers
number_trailer-returns-in-Slice-clause-numbers t c = let same : slice_numbers (views.view_slice c.number_slice.new.slice) ≡ renumbered c.args.first (slice_numbers (views.view_slice c.in-Slice.slice.value)) = first_of (search rules, grind arith, grind (arith, common_steps)) in forms.slice_numbered _ c.in-Slice.slice _ c.in-Slice._guard _ c.args.first c.in-Slice.is same

pub number_trailer-returns-in-Call-clause-kept : goal.number_trailer-returns-in-Call-clause-kept
number_trailer-returns-in-Call-clause-kept t c = grind (arith, common_steps, trailer_call)

pub number_trailer-returns-in-Call-clause-numbers : goal.number_trailer-returns-in-Call-clause-numbers
number_trailer-returns-in-Call-clause-numbers t c = first_of (grind (arith, common_steps, trailer_call, append_runs), grind (arith, trailer_call, append_runs), search (rules, trailer_call, append_runs))

-- loops

pub number_exprs-exprs-preserved : goal.number_exprs-exprs-preserved
number_exprs-exprs-preserved t c = record {
  unvisited = unvisited_more c.args.exprs.now c.exprs.exprs c.exprs.expr-index _ c.exprs.invariant.unvisited.0 c.exprs.invariant.unvisited.1;
  numbered = more (λ k x y. (maps.map_expr no_blocks (views.view_expr x) ≡ maps.map_expr no_blocks (views.view_expr y)) × (numbering.expr_numbers (views.view_expr x) ≡ renumbered (start (λ x. numbering.expr_numbers (views.view_expr x)) c.args.first c.args.exprs.now k) (numbering.expr_numbers (views.view_expr y)))) c.args.exprs.now c.exprs.exprs c.exprs.expr-index c.expr-item.result _ (omega arith) c.exprs.invariant.unvisited.0 c.exprs.invariant.unvisited.1 c.exprs.invariant.numbered (c.number_expr-next.ensures.kept, c.number_expr-next.ensures.numbers ∙ ap (λ z. renumbered z (numbering.expr_numbers (views.view_expr (get_or c.exprs.exprs c.exprs.expr-index c.expr-item.result)))) c.exprs.invariant.begins);
  begins = begins_more (λ x. numbering.expr_numbers (views.view_expr x)) c.args.first c.args.exprs.now c.exprs.exprs c.exprs.expr-index c.expr-item.result c.exprs.next _ (omega arith) c.exprs.invariant.unvisited.0 c.exprs.invariant.unvisited.1 c.exprs.invariant.begins (c.number_expr-next.ensures.next);
}

pub number_clauses-clauses-preserved : goal.number_clauses-clauses-preserved
number_clauses-clauses-preserved t c = record {
  unvisited = unvisited_more c.args.clauses.now c.clauses.clauses c.clauses.clause-index _ c.clauses.invariant.unvisited.0 c.clauses.invariant.unvisited.1;
  numbered = more (λ k x y. (maps.map_clause no_blocks (views.view_clause x) ≡ maps.map_clause no_blocks (views.view_clause y)) × (numbering.clause_numbers (views.view_clause x) ≡ renumbered (start (λ x. numbering.clause_numbers (views.view_clause x)) c.args.first c.args.clauses.now k) (numbering.clause_numbers (views.view_clause y)))) c.args.clauses.now c.clauses.clauses c.clauses.clause-index c.clause-item.result _ (omega arith) c.clauses.invariant.unvisited.0 c.clauses.invariant.unvisited.1 c.clauses.invariant.numbered (c.number_clause-next.ensures.kept, c.number_clause-next.ensures.numbers ∙ ap (λ z. renumbered z (numbering.clause_numbers (views.view_clause (get_or c.clauses.clauses c.clauses.clause-index c.clause-item.result)))) c.clauses.invariant.begins);
  begins = begins_more (λ x. numbering.clause_numbers (views.view_clause x)) c.args.first c.args.clauses.now c.clauses.clauses c.clauses.clause-index c.clause-item.result c.clauses.next _ (omega arith) c.clauses.invariant.unvisited.0 c.clauses.invariant.unvisited.1 c.clauses.invariant.begins (c.number_clause-next.ensures.next);
}

pub number_targets-targets-preserved : goal.number_targets-targets-preserved
number_targets-targets-preserved t c = record {
  unvisited = unvisited_more c.args.targets.now c.targets.targets c.targets.target-index _ c.targets.invariant.unvisited.0 c.targets.invariant.unvisited.1;
  numbered = more (λ k x y. (maps.map_target no_blocks (views.view_target x) ≡ maps.map_target no_blocks (views.view_target y)) × (numbering.target_numbers (views.view_target x) ≡ renumbered (start (λ x. numbering.target_numbers (views.view_target x)) c.args.first c.args.targets.now k) (numbering.target_numbers (views.view_target y)))) c.args.targets.now c.targets.targets c.targets.target-index c.target-item.result _ (omega arith) c.targets.invariant.unvisited.0 c.targets.invariant.unvisited.1 c.targets.invariant.numbered (c.number_target-next.ensures.kept, c.number_target-next.ensures.numbers ∙ ap (λ z. renumbered z (numbering.target_numbers (views.view_target (get_or c.targets.targets c.targets.target-index c.target-item.result)))) c.targets.invariant.begins);
  begins = begins_more (λ x. numbering.target_numbers (views.view_target x)) c.args.first c.args.targets.now c.targets.targets c.targets.target-index c.target-item.result c.targets.next _ (omega arith) c.targets.invariant.unvisited.0 c.targets.invariant.unvisited.1 c.targets.invariant.begins (c.number_target-next.ensures.next);
}

pub number_trailers-trailers-preserved : goal.number_trailers-trailers-preserved
number_trailers-trailers-preserved t c = record {
  unvisited = unvisited_more c.args.trailers.now c.trailers.trailers c.trailers.trailer-index _ c.trailers.invariant.unvisited.0 c.trailers.invariant.unvisited.1;
  numbered = more (λ k x y. (maps.map_trailer no_blocks (views.view_trailer x) ≡ maps.map_trailer no_blocks (views.view_trailer y)) × (numbering.trailer_numbers (views.view_trailer x) ≡ renumbered (start (λ x. numbering.trailer_numbers (views.view_trailer x)) c.args.first c.args.trailers.now k) (numbering.trailer_numbers (views.view_trailer y)))) c.args.trailers.now c.trailers.trailers c.trailers.trailer-index c.trailer-item.result _ (omega arith) c.trailers.invariant.unvisited.0 c.trailers.invariant.unvisited.1 c.trailers.invariant.numbered (c.number_trailer-next.ensures.kept, c.number_trailer-next.ensures.numbers ∙ ap (λ z. renumbered z (numbering.trailer_numbers (views.view_trailer (get_or c.trailers.trailers c.trailers.trailer-index c.trailer-item.result)))) c.trailers.invariant.begins);
  begins = begins_more (λ x. numbering.trailer_numbers (views.view_trailer x)) c.args.first c.args.trailers.now c.trailers.trailers c.trailers.trailer-index c.trailer-item.result c.trailers.next _ (omega arith) c.trailers.invariant.unvisited.0 c.trailers.invariant.unvisited.1 c.trailers.invariant.begins (c.number_trailer-next.ensures.next);
}

pub number_args-arguments-preserved : goal.number_args-arguments-preserved
number_args-arguments-preserved t c = record {
  unvisited = unvisited_more c.args.args.now c.arguments.args c.arguments.arg-index _ c.arguments.invariant.unvisited.0 c.arguments.invariant.unvisited.1;
  numbered = more (λ k x y. (maps.map_arg no_blocks (views.view_arg x) ≡ maps.map_arg no_blocks (views.view_arg y)) × (numbering.arg_numbers (views.view_arg x) ≡ renumbered (start (λ x. numbering.arg_numbers (views.view_arg x)) c.args.first c.args.args.now k) (numbering.arg_numbers (views.view_arg y)))) c.args.args.now c.arguments.args c.arguments.arg-index c.arg-item.result _ (omega arith) c.arguments.invariant.unvisited.0 c.arguments.invariant.unvisited.1 c.arguments.invariant.numbered (c.number_arg-next.ensures.kept, c.number_arg-next.ensures.numbers ∙ ap (λ z. renumbered z (numbering.arg_numbers (views.view_arg (get_or c.arguments.args c.arguments.arg-index c.arg-item.result)))) c.arguments.invariant.begins);
  begins = begins_more (λ x. numbering.arg_numbers (views.view_arg x)) c.args.first c.args.args.now c.arguments.args c.arguments.arg-index c.arg-item.result c.arguments.next _ (omega arith) c.arguments.invariant.unvisited.0 c.arguments.invariant.unvisited.1 c.arguments.invariant.begins (c.number_arg-next.ensures.next);
}

pub number_tests-tests-preserved : goal.number_tests-tests-preserved
number_tests-tests-preserved t c = record {
  unvisited = unvisited_more c.args.tests.now c.tests.tests c.tests.test-index _ c.tests.invariant.unvisited.0 c.tests.invariant.unvisited.1;
  numbered = more (λ k x y. (x.0 ≡ y.0) × (maps.map_expr no_blocks (views.view_expr x.1) ≡ maps.map_expr no_blocks (views.view_expr y.1)) × (numbering.expr_numbers (views.view_expr x.1) ≡ renumbered (start (λ x. numbering.expr_numbers (views.view_expr x.1)) c.args.first c.args.tests.now k) (numbering.expr_numbers (views.view_expr y.1)))) c.args.tests.now c.tests.tests c.tests.test-index c.test-item.result _ (omega arith) c.tests.invariant.unvisited.0 c.tests.invariant.unvisited.1 c.tests.invariant.numbered (refl, c.number_expr-next.ensures.kept, c.number_expr-next.ensures.numbers ∙ ap (λ z. renumbered z (numbering.expr_numbers (views.view_expr ((get_or c.tests.tests c.tests.test-index c.test-item.result)).1))) c.tests.invariant.begins);
  begins = begins_more (λ x. numbering.expr_numbers (views.view_expr x.1)) c.args.first c.args.tests.now c.tests.tests c.tests.test-index c.test-item.result c.tests.next _ (omega arith) c.tests.invariant.unvisited.0 c.tests.invariant.unvisited.1 c.tests.invariant.begins (c.number_expr-next.ensures.next);
}

pub number_operands-operands-preserved : goal.number_operands-operands-preserved
number_operands-operands-preserved t c = record {
  unvisited = unvisited_more c.args.operands.now c.operands.operands c.operands.operand-index _ c.operands.invariant.unvisited.0 c.operands.invariant.unvisited.1;
  numbered = more (λ k x y. (x.0 ≡ y.0) × (maps.map_expr no_blocks (views.view_expr x.1) ≡ maps.map_expr no_blocks (views.view_expr y.1)) × (numbering.expr_numbers (views.view_expr x.1) ≡ renumbered (start (λ x. numbering.expr_numbers (views.view_expr x.1)) c.args.first c.args.operands.now k) (numbering.expr_numbers (views.view_expr y.1)))) c.args.operands.now c.operands.operands c.operands.operand-index c.operand-item.result _ (omega arith) c.operands.invariant.unvisited.0 c.operands.invariant.unvisited.1 c.operands.invariant.numbered (refl, c.number_expr-next.ensures.kept, c.number_expr-next.ensures.numbers ∙ ap (λ z. renumbered z (numbering.expr_numbers (views.view_expr ((get_or c.operands.operands c.operands.operand-index c.operand-item.result)).1))) c.operands.invariant.begins);
  begins = begins_more (λ x. numbering.expr_numbers (views.view_expr x.1)) c.args.first c.args.operands.now c.operands.operands c.operands.operand-index c.operand-item.result c.operands.next _ (omega arith) c.operands.invariant.unvisited.0 c.operands.invariant.unvisited.1 c.operands.invariant.begins (c.number_expr-next.ensures.next);
}

pub number_pairs-pairs-preserved : goal.number_pairs-pairs-preserved
number_pairs-pairs-preserved t c = record {
  unvisited = unvisited_more c.args.pairs.now c.pairs.pairs c.pairs.pair-index _ c.pairs.invariant.unvisited.0 c.pairs.invariant.unvisited.1;
  numbered = more (λ k x y. (maps.map_expr no_blocks (views.view_expr x.0) ≡ maps.map_expr no_blocks (views.view_expr y.0)) × (maps.map_expr no_blocks (views.view_expr x.1) ≡ maps.map_expr no_blocks (views.view_expr y.1)) × (pair_numbers (views.view_pair x) ≡ renumbered (start (λ x. pair_numbers (views.view_pair x)) c.args.first c.args.pairs.now k) (pair_numbers (views.view_pair y)))) c.args.pairs.now c.pairs.pairs c.pairs.pair-index c.pair-item.result _ (omega arith) c.pairs.invariant.unvisited.0 c.pairs.invariant.unvisited.1 c.pairs.invariant.numbered (c.number_expr-between.ensures.kept, c.number_expr-next.ensures.kept, run_pair (numbering.expr_numbers (views.view_expr (get_or c.pairs.pairs c.pairs.pair-index c.pair-item.result).0)) (numbering.expr_numbers (views.view_expr (get_or c.pairs.pairs c.pairs.pair-index c.pair-item.result).1)) (numbering.expr_numbers (views.view_expr c.number_expr-between.new.expr)) (numbering.expr_numbers (views.view_expr c.number_expr-next.new.expr)) c.pairs.next c.number_expr-between.result c.number_expr-between.ensures.numbers c.number_expr-between.ensures.next c.number_expr-next.ensures.numbers ∙ ap (λ z. renumbered z (pair_numbers (views.view_pair (get_or c.pairs.pairs c.pairs.pair-index c.pair-item.result)))) c.pairs.invariant.begins);
  begins = begins_more (λ x. pair_numbers (views.view_pair x)) c.args.first c.args.pairs.now c.pairs.pairs c.pairs.pair-index c.pair-item.result c.pairs.next _ (omega arith) c.pairs.invariant.unvisited.0 c.pairs.invariant.unvisited.1 c.pairs.invariant.begins (past_pair (numbering.expr_numbers (views.view_expr (get_or c.pairs.pairs c.pairs.pair-index c.pair-item.result).0)) (numbering.expr_numbers (views.view_expr (get_or c.pairs.pairs c.pairs.pair-index c.pair-item.result).1)) c.pairs.next c.number_expr-between.result c.number_expr-next.result c.number_expr-between.ensures.next c.number_expr-next.ensures.next);
}

pub number_defaults-plain-preserved : goal.number_defaults-plain-preserved
number_defaults-plain-preserved t c =
    elim c.match-param.branch [ number_defaults-in-Some w ↦ rw (w.plain-is, w.next-is) (record { unvisited = unvisited_more c.args.plain.now c.plain.plain c.plain.param-index _ c.plain.invariant.unvisited.0 c.plain.invariant.unvisited.1; numbered = more (λ k x y. (x.0 ≡ y.0) × (maps.map_maybe no_blocks (views.maybe_of (option_map views.view_expr x.1)) ≡ maps.map_maybe no_blocks (views.maybe_of (option_map views.view_expr y.1))) × (numbering.maybe_numbers (views.maybe_of (option_map views.view_expr x.1)) ≡ renumbered (start (λ x. numbering.maybe_numbers (views.maybe_of (option_map views.view_expr x.1))) c.args.first c.args.plain.now k) (numbering.maybe_numbers (views.maybe_of (option_map views.view_expr y.1))))) c.args.plain.now c.plain.plain c.plain.param-index c.param-item.result _ (omega arith) c.plain.invariant.unvisited.0 c.plain.invariant.unvisited.1 c.plain.invariant.numbered (refl, ap (λ z. trees.some z) w.number_expr-next.ensures.kept ∙ sym (ap (λ x. maps.map_maybe no_blocks (views.maybe_of (option_map views.view_expr x))) w.in-Some.is), w.number_expr-next.ensures.numbers ∙ (ap (λ z. renumbered z (numbering.expr_numbers (views.view_expr w.in-Some.default))) c.plain.invariant.begins ∙ sym (ap (λ x. renumbered (start (λ x. numbering.maybe_numbers (views.maybe_of (option_map views.view_expr x.1))) c.args.first c.args.plain.now c.plain.param-index) (numbering.maybe_numbers (views.maybe_of (option_map views.view_expr x)))) w.in-Some.is))); begins = begins_more (λ x. numbering.maybe_numbers (views.maybe_of (option_map views.view_expr x.1))) c.args.first c.args.plain.now c.plain.plain c.plain.param-index c.param-item.result c.plain.next _ (omega arith) c.plain.invariant.unvisited.0 c.plain.invariant.unvisited.1 c.plain.invariant.begins (w.number_expr-next.ensures.next ∙ sym (ap (λ x. past (numbering.maybe_numbers (views.maybe_of (option_map views.view_expr x))) c.plain.next) w.in-Some.is)) }) | number_defaults-in_default w ↦ rw (w.plain-is, w.next-is) (record { unvisited = unvisited_more c.args.plain.now c.plain.plain c.plain.param-index _ c.plain.invariant.unvisited.0 c.plain.invariant.unvisited.1; numbered = more (λ k x y. (x.0 ≡ y.0) × (maps.map_maybe no_blocks (views.maybe_of (option_map views.view_expr x.1)) ≡ maps.map_maybe no_blocks (views.maybe_of (option_map views.view_expr y.1))) × (numbering.maybe_numbers (views.maybe_of (option_map views.view_expr x.1)) ≡ renumbered (start (λ x. numbering.maybe_numbers (views.maybe_of (option_map views.view_expr x.1))) c.args.first c.args.plain.now k) (numbering.maybe_numbers (views.maybe_of (option_map views.view_expr y.1))))) c.args.plain.now c.plain.plain c.plain.param-index c.param-item.result _ (omega arith) c.plain.invariant.unvisited.0 c.plain.invariant.unvisited.1 c.plain.invariant.numbered (refl, refl, no_default (get_or c.plain.plain c.plain.param-index c.param-item.result).1 w.in_default.not-Some ∙ sym (ap (renumbered (start (λ x. numbering.maybe_numbers (views.maybe_of (option_map views.view_expr x.1))) c.args.first c.args.plain.now c.plain.param-index)) (no_default (get_or c.plain.plain c.plain.param-index c.param-item.result).1 w.in_default.not-Some))); begins = begins_more (λ x. numbering.maybe_numbers (views.maybe_of (option_map views.view_expr x.1))) c.args.first c.args.plain.now c.plain.plain c.plain.param-index c.param-item.result c.plain.next _ (omega arith) c.plain.invariant.unvisited.0 c.plain.invariant.unvisited.1 c.plain.invariant.begins (sym (ap (λ zs. past zs c.plain.next) (no_default (get_or c.plain.plain c.plain.param-index c.param-item.result).1 w.in_default.not-Some))) }) ]
