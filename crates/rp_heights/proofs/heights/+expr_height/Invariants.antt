use Rattle.std.proofs.Common.{◌≡◌, max, map, drop}
use Rattle.rp_tree.specs.ExpressionViews as views
use Rattle.rp_tree.specs.Heights as tree_heights
use Rattle.rp_tree.specs.Heights.{capped}
use Rattle.rp_heights.proofs.heights.+expr_height.Given as goal

abbrev pub invariant-exprs_height-exprs : goal.invariant-exprs_height-exprs
invariant-exprs_height-exprs l = max l.greatest (capped (tree_heights.exprs_height (views.exprs_of (map views.view_expr (drop l.expr-index l.exprs))))) ≡ capped (tree_heights.exprs_height (views.exprs_of (map views.view_expr l.exprs)))

abbrev pub invariant-pairs_height-pairs : goal.invariant-pairs_height-pairs
invariant-pairs_height-pairs l = max l.greatest (capped (tree_heights.pairs_height (views.pairs_of (map views.view_pair (drop l.pair-index l.pairs))))) ≡ capped (tree_heights.pairs_height (views.pairs_of (map views.view_pair l.pairs)))

abbrev pub invariant-tests_height-tests : goal.invariant-tests_height-tests
invariant-tests_height-tests l = max l.greatest (capped (tree_heights.tests_height (views.tests_of (map views.view_test (drop l.test-index l.tests))))) ≡ capped (tree_heights.tests_height (views.tests_of (map views.view_test l.tests)))

abbrev pub invariant-operands_height-operands : goal.invariant-operands_height-operands
invariant-operands_height-operands l = max l.greatest (capped (tree_heights.ops_height (views.ops_of (map views.view_op (drop l.operand-index l.operands))))) ≡ capped (tree_heights.ops_height (views.ops_of (map views.view_op l.operands)))

abbrev pub invariant-clauses_height-clauses : goal.invariant-clauses_height-clauses
invariant-clauses_height-clauses l = max l.greatest (capped (tree_heights.clauses_height (views.clauses_of (map views.view_clause (drop l.clause-index l.clauses))))) ≡ capped (tree_heights.clauses_height (views.clauses_of (map views.view_clause l.clauses)))

abbrev pub invariant-targets_height-targets : goal.invariant-targets_height-targets
invariant-targets_height-targets l = max l.greatest (capped (tree_heights.targets_height (views.targets_of (map views.view_target (drop l.target-index l.targets))))) ≡ capped (tree_heights.targets_height (views.targets_of (map views.view_target l.targets)))

abbrev pub invariant-defaults_height-plain : goal.invariant-defaults_height-plain
invariant-defaults_height-plain l = max l.greatest (capped (tree_heights.plain_height (views.plain_of (map views.view_plain (drop l.param-index l.plain))))) ≡ capped (tree_heights.plain_height (views.plain_of (map views.view_plain l.plain)))

abbrev pub invariant-trailers_height-trailers : goal.invariant-trailers_height-trailers
invariant-trailers_height-trailers l = max l.greatest (capped (tree_heights.trailers_height (views.trailers_of (map views.view_trailer (drop l.trailer-index l.trailers))))) ≡ capped (tree_heights.trailers_height (views.trailers_of (map views.view_trailer l.trailers)))

abbrev pub invariant-args_height-args-2 : goal.invariant-args_height-args-2
invariant-args_height-args-2 l = max l.greatest (capped (tree_heights.args_height (views.args_of (map views.view_arg (drop l.arg-index l.args))))) ≡ capped (tree_heights.args_height (views.args_of (map views.view_arg l.args)))
