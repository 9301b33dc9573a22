use Rattle.std.proofs.Common.{◌≡◌, map, drop, true}
use Rattle.rp_base.specs.Names.{word_of}
use Rattle.rp_tree.specs.ExpressionViews as views
use Rattle.rp_print.specs.WritingSteps as step
use Rattle.rp_print.proofs.expressions.+expr.Given as goal

abbrev pub invariant-write_exprs-exprs : goal.invariant-write_exprs-exprs
invariant-write_exprs-exprs l =
    step.put_exprs (word_of l.names) l.first (views.exprs_of (map views.view_expr (drop l.expr-index l.exprs))) l.page
    ≡ step.put_exprs (word_of l.names) true (views.exprs_of (map views.view_expr l.exprs)) l.initial.page

abbrev pub invariant-write_operands-exprs : goal.invariant-write_operands-exprs
invariant-write_operands-exprs l =
    step.put_operands (word_of l.names) l.separator l.first (views.exprs_of (map views.view_expr
    (drop l.expr-index l.exprs))) l.page
    ≡ step.put_operands (word_of l.names) l.separator true (views.exprs_of (map views.view_expr l.exprs)) l.initial.page

abbrev pub invariant-write_pairs-pairs : goal.invariant-write_pairs-pairs
invariant-write_pairs-pairs l =
    step.put_pairs (word_of l.names) l.first (views.pairs_of (map views.view_pair (drop l.pair-index l.pairs))) l.page
    ≡ step.put_pairs (word_of l.names) true (views.pairs_of (map views.view_pair l.pairs)) l.initial.page

abbrev pub invariant-write_tests-tests : goal.invariant-write_tests-tests
invariant-write_tests-tests l =
    step.put_tests (word_of l.names) (views.tests_of (map views.view_test (drop l.test-index l.tests))) l.page
    ≡ step.put_tests (word_of l.names) (views.tests_of (map views.view_test l.tests)) l.initial.page

abbrev pub invariant-write_chain-operands : goal.invariant-write_chain-operands
invariant-write_chain-operands l =
    step.put_ops (word_of l.names) (views.ops_of (map views.view_op (drop l.operand-index l.operands))) l.page
    ≡ step.put_ops (word_of l.names) (views.ops_of (map views.view_op l.operands)) l.initial.page

abbrev pub invariant-write_clauses-clauses : goal.invariant-write_clauses-clauses
invariant-write_clauses-clauses l =
    step.put_clauses (word_of l.names) (views.clauses_of (map views.view_clause (drop l.clause-index l.clauses))) l.page
    ≡ step.put_clauses (word_of l.names) (views.clauses_of (map views.view_clause l.clauses)) l.initial.page

abbrev pub invariant-write_conditions-tests : goal.invariant-write_conditions-tests
invariant-write_conditions-tests l =
    step.put_conditions (word_of l.names) (views.exprs_of (map views.view_expr (drop l.test-index l.tests))) l.page
    ≡ step.put_conditions (word_of l.names) (views.exprs_of (map views.view_expr l.tests)) l.initial.page

abbrev pub invariant-write_targets-targets : goal.invariant-write_targets-targets
invariant-write_targets-targets l =
    step.put_targets (word_of l.names) l.first (views.targets_of (map views.view_target (drop l.target-index l.targets))) l.page
    ≡ step.put_targets (word_of l.names) true (views.targets_of (map views.view_target l.targets)) l.initial.page

abbrev pub invariant-write_plain-plain : goal.invariant-write_plain-plain
invariant-write_plain-plain l =
    step.put_plain (word_of l.names) l.first (views.plain_of (map views.view_plain (drop l.param-index l.plain))) l.page
    ≡ step.put_plain (word_of l.names) true (views.plain_of (map views.view_plain l.plain)) l.initial.page

abbrev pub invariant-write_closings-trailers : goal.invariant-write_closings-trailers
invariant-write_closings-trailers l =
    step.put_closings (word_of l.names) (views.trailers_of (map views.view_trailer (drop l.trailer-index l.trailers))) l.page
    ≡ step.put_closings (word_of l.names) (views.trailers_of (map views.view_trailer l.trailers)) l.initial.page

abbrev pub invariant-write_args-arguments : goal.invariant-write_args-arguments
invariant-write_args-arguments l =
    step.put_args (word_of l.names) l.first (views.args_of (map views.view_arg (drop l.arg-index l.args))) l.page
    ≡ step.put_args (word_of l.names) l.initial.first (views.args_of (map views.view_arg l.args)) l.initial.page
