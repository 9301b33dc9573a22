use Rattle.std.proofs.Common.{◌≡◌, map, drop}
use Rattle.rp_policy.specs.CollectionSteps as steps
use Rattle.rp_tree.specs.ExpressionViews as views
use Rattle.rp_policy.proofs.collector.Collector.+expr.Given as goal

abbrev pub invariant-exprs-exprs : goal.invariant-exprs-exprs
invariant-exprs-exprs l =
    steps.with_exprs (views.exprs_of (map views.view_expr (drop l.expr-index l.exprs))) l.self ≡ steps.with_exprs (views.exprs_of (map views.view_expr l.exprs)) l.initial.self

abbrev pub invariant-pairs-pairs : goal.invariant-pairs-pairs
invariant-pairs-pairs l =
    steps.with_pairs (views.pairs_of (map views.view_pair (drop l.pair-index l.pairs))) l.self ≡ steps.with_pairs (views.pairs_of (map views.view_pair l.pairs)) l.initial.self

abbrev pub invariant-tests-tests : goal.invariant-tests-tests
invariant-tests-tests l =
    steps.with_tests (views.tests_of (map views.view_test (drop l.test-index l.tests))) l.self ≡ steps.with_tests (views.tests_of (map views.view_test l.tests)) l.initial.self

abbrev pub invariant-operands-operands : goal.invariant-operands-operands
invariant-operands-operands l =
    steps.with_ops (views.ops_of (map views.view_op (drop l.operand-index l.operands))) l.self ≡ steps.with_ops (views.ops_of (map views.view_op l.operands)) l.initial.self

abbrev pub invariant-clauses-clauses : goal.invariant-clauses-clauses
invariant-clauses-clauses l =
    steps.with_clauses (views.clauses_of (map views.view_clause (drop l.clause-index l.clauses))) l.self ≡ steps.with_clauses (views.clauses_of (map views.view_clause l.clauses)) l.initial.self

abbrev pub invariant-targets-targets : goal.invariant-targets-targets
invariant-targets-targets l =
    steps.with_targets (views.targets_of (map views.view_target (drop l.target-index l.targets))) l.self ≡ steps.with_targets (views.targets_of (map views.view_target l.targets)) l.initial.self

abbrev pub invariant-plain-plain : goal.invariant-plain-plain
invariant-plain-plain l =
    steps.with_plain (views.plain_of (map views.view_plain (drop l.param-index l.plain))) l.self ≡ steps.with_plain (views.plain_of (map views.view_plain l.plain)) l.initial.self

abbrev pub invariant-trailers-trailers : goal.invariant-trailers-trailers
invariant-trailers-trailers l =
    steps.with_trailers (views.trailers_of (map views.view_trailer (drop l.trailer-index l.trailers))) l.self ≡ steps.with_trailers (views.trailers_of (map views.view_trailer l.trailers)) l.initial.self

abbrev pub invariant-args-arguments : goal.invariant-args-arguments
invariant-args-arguments l =
    steps.with_args (views.args_of (map views.view_arg (drop l.arg-index l.args))) l.self ≡ steps.with_args (views.args_of (map views.view_arg l.args)) l.initial.self
