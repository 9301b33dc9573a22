use Rattle.rp_guard.proofs.Lists.{IsMarkedTo, ArePairsMarkedTo, AreSecondsMarkedTo, AreDefaultsMarkedTo}
use Rattle.rp_tree.specs.ExpressionViews as views
use Rattle.rp_tree.specs.Maps as maps
use Rattle.rp_tree.specs.Marks.{table}
use Rattle.rp_guard.proofs.marks.+mark_expr.Given as goal

abbrev pub invariant-mark_exprs-exprs : goal.invariant-mark_exprs-exprs
invariant-mark_exprs-exprs l = record { unvisited : goal.unvisited-mark_exprs-exprs l; marked : IsMarkedTo views.view_expr (maps.map_expr table) l.initial.exprs l.exprs l.expr-index }

abbrev pub invariant-mark_clauses-clauses : goal.invariant-mark_clauses-clauses
invariant-mark_clauses-clauses l = record { unvisited : goal.unvisited-mark_clauses-clauses l; marked : IsMarkedTo views.view_clause (maps.map_clause table) l.initial.clauses l.clauses l.clause-index }

abbrev pub invariant-mark_targets-targets : goal.invariant-mark_targets-targets
invariant-mark_targets-targets l = record { unvisited : goal.unvisited-mark_targets-targets l; marked : IsMarkedTo views.view_target (maps.map_target table) l.initial.targets l.targets l.target-index }

abbrev pub invariant-mark_trailers-trailers : goal.invariant-mark_trailers-trailers
invariant-mark_trailers-trailers l = record { unvisited : goal.unvisited-mark_trailers-trailers l; marked : IsMarkedTo views.view_trailer (maps.map_trailer table) l.initial.trailers l.trailers l.trailer-index }

abbrev pub invariant-mark_args-arguments : goal.invariant-mark_args-arguments
invariant-mark_args-arguments l = record { unvisited : goal.unvisited-mark_args-arguments l; marked : IsMarkedTo views.view_arg (maps.map_arg table) l.initial.args l.args l.arg-index }

abbrev pub invariant-mark_pairs-pairs : goal.invariant-mark_pairs-pairs
invariant-mark_pairs-pairs l = record { unvisited : goal.unvisited-mark_pairs-pairs l; marked : ArePairsMarkedTo l.initial.pairs l.pairs l.pair-index }

abbrev pub invariant-mark_tests-tests : goal.invariant-mark_tests-tests
invariant-mark_tests-tests l = record { unvisited : goal.unvisited-mark_tests-tests l; marked : AreSecondsMarkedTo l.initial.tests l.tests l.test-index }

abbrev pub invariant-mark_operands-operands : goal.invariant-mark_operands-operands
invariant-mark_operands-operands l = record { unvisited : goal.unvisited-mark_operands-operands l; marked : AreSecondsMarkedTo l.initial.operands l.operands l.operand-index }

abbrev pub invariant-mark_defaults-plain : goal.invariant-mark_defaults-plain
invariant-mark_defaults-plain l = record { unvisited : goal.unvisited-mark_defaults-plain l; marked : AreDefaultsMarkedTo l.initial.plain l.plain l.param-index }
