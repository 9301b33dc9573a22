use Rattle.std.proofs.Common.{map, ap, ◌∙◌, refl, arith, rules}
use Rattle.rp_tree.specs.ExpressionViews as views
use Rattle.rp_tree.specs.Maps as maps
use Rattle.rp_tree.specs.Marks.{table}
use Rattle.rp_guard.proofs.Lists.{all_marked, mark_pair, mark_test, mark_op, mark_plain, exprs_of_map, clauses_of_map, targets_of_map, trailers_of_map, args_of_map, pairs_of_map, tests_of_map, ops_of_map, plain_of_map}
use Rattle.rp_tree.specs.declared.expr.Arg.TheViews.{out-Params}
use Rattle.rp_guard.proofs.Forms as forms
use Rattle.rp_guard.proofs.StatementForms.{filled}
use Rattle.rp_tree.proofs.ExpressionEquations.{form_or, form_and, form_compare, form_chain, form_primary, trailer_call, params_out, params_roll}
use Rattle.std.proofs.lemmas.Grind.{common_steps}
use Rattle.rp_guard.proofs.Lists.{names_option_kept}
use Rattle.rp_guard.proofs.marks.+mark_expr.Goals as goal
use Rattle.rp_guard.proofs.marks.+mark_expr.Goals.{mark_defaults-in-Some, mark_defaults-in_default}

pub mark_exprs-returns : goal.mark_exprs-returns
mark_exprs-returns t c =
    ap views.exprs_of (all_marked views.view_expr (maps.map_expr table) c.args.exprs.now c.exprs.exprs (omega arith) (λ k d lt. c.exprs.invariant.marked k d (omega arith))) ∙ exprs_of_map _

pub mark_clauses-returns : goal.mark_clauses-returns
mark_clauses-returns t c =
    ap views.clauses_of (all_marked views.view_clause (maps.map_clause table) c.args.clauses.now c.clauses.clauses (omega arith) (λ k d lt. c.clauses.invariant.marked k d (omega arith))) ∙ clauses_of_map _

pub mark_targets-returns : goal.mark_targets-returns
mark_targets-returns t c =
    ap views.targets_of (all_marked views.view_target (maps.map_target table) c.args.targets.now c.targets.targets (omega arith) (λ k d lt. c.targets.invariant.marked k d (omega arith))) ∙ targets_of_map _

pub mark_trailers-returns : goal.mark_trailers-returns
mark_trailers-returns t c =
    ap views.trailers_of (all_marked views.view_trailer (maps.map_trailer table) c.args.trailers.now c.trailers.trailers (omega arith) (λ k d lt. c.trailers.invariant.marked k d (omega arith))) ∙ trailers_of_map _

pub mark_args-returns : goal.mark_args-returns
mark_args-returns t c =
    ap views.args_of (all_marked views.view_arg (maps.map_arg table) c.args.args.now c.arguments.args (omega arith) (λ k d lt. c.arguments.invariant.marked k d (omega arith))) ∙ args_of_map _

pub mark_pairs-returns : goal.mark_pairs-returns
mark_pairs-returns t c =
    ap views.pairs_of (all_marked views.view_pair mark_pair c.args.pairs.now c.pairs.pairs (omega arith) (λ k d lt. let both = c.pairs.invariant.marked k d (omega arith) in rw (both.0, both.1) refl)) ∙ pairs_of_map _

pub mark_tests-returns : goal.mark_tests-returns
mark_tests-returns t c =
    ap views.tests_of (all_marked views.view_test mark_test c.args.tests.now c.tests.tests (omega arith) (λ k d lt. let both = c.tests.invariant.marked k d (omega arith) in rw (both.0, both.1) refl)) ∙ tests_of_map _

pub mark_operands-returns : goal.mark_operands-returns
mark_operands-returns t c =
    ap views.ops_of (all_marked views.view_op mark_op c.args.operands.now c.operands.operands (omega arith) (λ k d lt. let both = c.operands.invariant.marked k d (omega arith) in rw (both.0, both.1) refl)) ∙ ops_of_map _

pub mark_defaults-returns : goal.mark_defaults-returns
mark_defaults-returns t c =
    ap views.plain_of (all_marked views.view_plain mark_plain c.args.plain.now c.plain.plain (omega arith) (λ k d lt. let both = c.plain.invariant.marked k d (omega arith) in rw (both.0, both.1) refl)) ∙ plain_of_map _

pub mark_form-returns-in-Or : goal.mark_form-returns-in-Or
mark_form-returns-in-Or t c = grind (arith, common_steps, form_or)

pub mark_form-returns-in-And : goal.mark_form-returns-in-And
mark_form-returns-in-And t c = grind (arith, common_steps, form_and)

pub mark_form-returns-in-Compare : goal.mark_form-returns-in-Compare
mark_form-returns-in-Compare t c = grind (arith, common_steps, form_compare)

pub mark_form-returns-in-Chain : goal.mark_form-returns-in-Chain
mark_form-returns-in-Chain t c = grind (arith, common_steps, form_chain)

pub mark_form-returns-in-Primary : goal.mark_form-returns-in-Primary
mark_form-returns-in-Primary t c = grind (arith, common_steps, form_primary)

pub mark_params-returns : goal.mark_params-returns
mark_params-returns t c =
    let old = out-Params c.args.params.now in
    let plain = filled (λ xs. views.plain_of (map views.view_plain xs)) (maps.map_plain table) old.plain old.plain c.deref_mut.result.now c.mark_defaults.new.plain refl c.deref_mut.ensures.value (omega arith) c.mark_defaults.ensures in
    rw (params_out c.args.params.now, names_option_kept old.list, names_option_kept old.dict) (first_of (search rules, grind (arith, common_steps), grind (arith, params_out, plain), grind (arith, params_roll, plain)))

pub mark_trailer-returns-in-Slice : goal.mark_trailer-returns-in-Slice
mark_trailer-returns-in-Slice t c = rw c.in-Slice.is (forms.slice_marked _ _ _ (search rules) (search rules) (search rules))

pub mark_trailer-returns-in-Call : goal.mark_trailer-returns-in-Call
mark_trailer-returns-in-Call t c = grind (arith, common_steps, trailer_call)

pub mark_defaults-plain-preserved : goal.mark_defaults-plain-preserved
mark_defaults-plain-preserved t c =
    elim c.match-param.branch [ mark_defaults-in-Some w ↦ rw w.plain-is (first_of (search rules, grind (arith, common_steps))) | mark_defaults-in_default w ↦ rw w.plain-is (first_of (search rules, grind (arith, common_steps))) ]
