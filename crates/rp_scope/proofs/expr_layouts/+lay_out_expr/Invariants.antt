use Rattle.std.proofs.Common.{◌≡◌, ◌++◌, map, drop}
use Rattle.rp_tree.specs.ExpressionViews as views
use Rattle.rp_scope.specs.Blocks as code_blocks
use Rattle.rp_scope.specs.Scopes.{telling_scopes}
use Rattle.rp_scope.proofs.expr_layouts.+lay_out_expr.Given as goal

abbrev pub invariant-lay_out_exprs-exprs : goal.invariant-lay_out_exprs-exprs
invariant-lay_out_exprs-exprs l = l.layouts ++ code_blocks.exprs_blocks telling_scopes l.around (views.exprs_of (map views.view_expr (drop l.expr-index l.exprs))) ≡ l.initial.layouts ++ code_blocks.exprs_blocks telling_scopes l.around (views.exprs_of (map views.view_expr l.exprs))

abbrev pub invariant-lay_out_pairs-pairs : goal.invariant-lay_out_pairs-pairs
invariant-lay_out_pairs-pairs l = l.layouts ++ code_blocks.pairs_blocks telling_scopes l.around (views.pairs_of (map views.view_pair (drop l.pair-index l.pairs))) ≡ l.initial.layouts ++ code_blocks.pairs_blocks telling_scopes l.around (views.pairs_of (map views.view_pair l.pairs))

abbrev pub invariant-lay_out_tests-tests : goal.invariant-lay_out_tests-tests
invariant-lay_out_tests-tests l = l.layouts ++ code_blocks.tests_blocks telling_scopes l.around (views.tests_of (map views.view_test (drop l.test-index l.tests))) ≡ l.initial.layouts ++ code_blocks.tests_blocks telling_scopes l.around (views.tests_of (map views.view_test l.tests))

abbrev pub invariant-lay_out_operands-operands : goal.invariant-lay_out_operands-operands
invariant-lay_out_operands-operands l = l.layouts ++ code_blocks.ops_blocks telling_scopes l.around (views.ops_of (map views.view_op (drop l.operand-index l.operands))) ≡ l.initial.layouts ++ code_blocks.ops_blocks telling_scopes l.around (views.ops_of (map views.view_op l.operands))

abbrev pub invariant-lay_out_clauses-clauses : goal.invariant-lay_out_clauses-clauses
invariant-lay_out_clauses-clauses l = l.layouts ++ code_blocks.clauses_blocks telling_scopes l.before l.inside (views.clauses_of (map views.view_clause (drop l.clause-index l.clauses))) ≡ l.initial.layouts ++ code_blocks.clauses_blocks telling_scopes l.around l.inside (views.clauses_of (map views.view_clause l.clauses))

abbrev pub invariant-lay_out_targets-targets : goal.invariant-lay_out_targets-targets
invariant-lay_out_targets-targets l = l.layouts ++ code_blocks.targets_blocks telling_scopes l.around (views.targets_of (map views.view_target (drop l.target-index l.targets))) ≡ l.initial.layouts ++ code_blocks.targets_blocks telling_scopes l.around (views.targets_of (map views.view_target l.targets))

abbrev pub invariant-lay_out_defaults-plain : goal.invariant-lay_out_defaults-plain
invariant-lay_out_defaults-plain l = l.layouts ++ code_blocks.plain_blocks telling_scopes l.around (views.plain_of (map views.view_plain (drop l.param-index l.plain))) ≡ l.initial.layouts ++ code_blocks.plain_blocks telling_scopes l.around (views.plain_of (map views.view_plain l.plain))

abbrev pub invariant-lay_out_trailers-trailers : goal.invariant-lay_out_trailers-trailers
invariant-lay_out_trailers-trailers l = l.layouts ++ code_blocks.trailers_blocks telling_scopes l.around (views.trailers_of (map views.view_trailer (drop l.trailer-index l.trailers))) ≡ l.initial.layouts ++ code_blocks.trailers_blocks telling_scopes l.around (views.trailers_of (map views.view_trailer l.trailers))

abbrev pub invariant-lay_out_args-arguments : goal.invariant-lay_out_args-arguments
invariant-lay_out_args-arguments l = l.layouts ++ code_blocks.args_blocks telling_scopes l.around (views.args_of (map views.view_arg (drop l.arg-index l.args))) ≡ l.initial.layouts ++ code_blocks.args_blocks telling_scopes l.around (views.args_of (map views.view_arg l.args))
