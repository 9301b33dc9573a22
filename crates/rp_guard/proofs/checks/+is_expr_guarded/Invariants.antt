use Rattle.std.proofs.Common.{◌≡◌, map, drop}
use Rattle.rp_tree.specs.ExpressionViews as views
use Rattle.rp_tree.specs.Guarded as guardedness
use Rattle.rp_guard.proofs.checks.+is_expr_guarded.Given as goal

abbrev pub invariant-are_exprs_guarded-exprs : goal.invariant-are_exprs_guarded-exprs
invariant-are_exprs_guarded-exprs l = guardedness.are_exprs_guarded (views.exprs_of (map views.view_expr (drop l.expr-index l.exprs))) ≡ guardedness.are_exprs_guarded (views.exprs_of (map views.view_expr l.exprs))

abbrev pub invariant-are_pairs_guarded-pairs : goal.invariant-are_pairs_guarded-pairs
invariant-are_pairs_guarded-pairs l = guardedness.are_pairs_guarded (views.pairs_of (map views.view_pair (drop l.pair-index l.pairs))) ≡ guardedness.are_pairs_guarded (views.pairs_of (map views.view_pair l.pairs))

abbrev pub invariant-are_tests_guarded-tests : goal.invariant-are_tests_guarded-tests
invariant-are_tests_guarded-tests l = guardedness.are_tests_guarded (views.tests_of (map views.view_test (drop l.test-index l.tests))) ≡ guardedness.are_tests_guarded (views.tests_of (map views.view_test l.tests))

abbrev pub invariant-are_operands_guarded-operands : goal.invariant-are_operands_guarded-operands
invariant-are_operands_guarded-operands l = guardedness.are_ops_guarded (views.ops_of (map views.view_op (drop l.operand-index l.operands))) ≡ guardedness.are_ops_guarded (views.ops_of (map views.view_op l.operands))

abbrev pub invariant-are_clauses_guarded-clauses : goal.invariant-are_clauses_guarded-clauses
invariant-are_clauses_guarded-clauses l = guardedness.are_clauses_guarded (views.clauses_of (map views.view_clause (drop l.clause-index l.clauses))) ≡ guardedness.are_clauses_guarded (views.clauses_of (map views.view_clause l.clauses))

abbrev pub invariant-are_targets_guarded-targets : goal.invariant-are_targets_guarded-targets
invariant-are_targets_guarded-targets l = guardedness.are_targets_guarded (views.targets_of (map views.view_target (drop l.target-index l.targets))) ≡ guardedness.are_targets_guarded (views.targets_of (map views.view_target l.targets))

abbrev pub invariant-are_defaults_guarded-plain : goal.invariant-are_defaults_guarded-plain
invariant-are_defaults_guarded-plain l = guardedness.is_plain_guarded (views.plain_of (map views.view_plain (drop l.param-index l.plain))) ≡ guardedness.is_plain_guarded (views.plain_of (map views.view_plain l.plain))

abbrev pub invariant-are_trailers_guarded-trailers : goal.invariant-are_trailers_guarded-trailers
invariant-are_trailers_guarded-trailers l = guardedness.are_trailers_guarded (views.trailers_of (map views.view_trailer (drop l.trailer-index l.trailers))) ≡ guardedness.are_trailers_guarded (views.trailers_of (map views.view_trailer l.trailers))

abbrev pub invariant-are_args_guarded-arguments : goal.invariant-are_args_guarded-arguments
invariant-are_args_guarded-arguments l = guardedness.are_args_guarded (views.args_of (map views.view_arg (drop l.arg-index l.args))) ≡ guardedness.are_args_guarded (views.args_of (map views.view_arg l.args))
