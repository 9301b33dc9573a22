use Rattle.std.proofs.Common.{◌≡◌, option_map}
use Rattle.rp_tree.specs.ExpressionViews as views
use Rattle.rp_tree.specs.Maps as maps
use Rattle.rp_tree.specs.Maps.{no_blocks}
use Rattle.rp_scope.specs.Numbers as numbering
use Rattle.rp_scope.specs.NumberSteps.{start, pair_numbers}
use Rattle.rp_scope.proofs.Lists.{IsNumberedTo, ArePairsNumberedTo, AreSecondsNumberedTo, AreDefaultsNumberedTo}
use Rattle.rp_scope.proofs.numbers.+number_expr.Given as goal

abbrev pub invariant-number_exprs-exprs : goal.invariant-number_exprs-exprs
invariant-number_exprs-exprs l = record {
  unvisited : goal.unvisited-number_exprs-exprs l;
  numbered : IsNumberedTo views.view_expr (maps.map_expr no_blocks) numbering.expr_numbers l.fn.first l.initial.exprs l.exprs l.expr-index;
  begins : l.next ≡ start (λ x. numbering.expr_numbers (views.view_expr x)) l.fn.first l.initial.exprs l.expr-index;
}

abbrev pub invariant-number_pairs-pairs : goal.invariant-number_pairs-pairs
invariant-number_pairs-pairs l = record {
  unvisited : goal.unvisited-number_pairs-pairs l;
  numbered : ArePairsNumberedTo l.fn.first l.initial.pairs l.pairs l.pair-index;
  begins : l.next ≡ start (λ x. pair_numbers (views.view_pair x)) l.fn.first l.initial.pairs l.pair-index;
}

abbrev pub invariant-number_tests-tests : goal.invariant-number_tests-tests
invariant-number_tests-tests l = record {
  unvisited : goal.unvisited-number_tests-tests l;
  numbered : AreSecondsNumberedTo l.fn.first l.initial.tests l.tests l.test-index;
  begins : l.next ≡ start (λ x. numbering.expr_numbers (views.view_expr x.1)) l.fn.first l.initial.tests l.test-index;
}

abbrev pub invariant-number_operands-operands : goal.invariant-number_operands-operands
invariant-number_operands-operands l = record {
  unvisited : goal.unvisited-number_operands-operands l;
  numbered : AreSecondsNumberedTo l.fn.first l.initial.operands l.operands l.operand-index;
  begins : l.next ≡ start (λ x. numbering.expr_numbers (views.view_expr x.1)) l.fn.first l.initial.operands l.operand-index;
}

abbrev pub invariant-number_clauses-clauses : goal.invariant-number_clauses-clauses
invariant-number_clauses-clauses l = record {
  unvisited : goal.unvisited-number_clauses-clauses l;
  numbered : IsNumberedTo views.view_clause (maps.map_clause no_blocks) numbering.clause_numbers l.fn.first l.initial.clauses l.clauses l.clause-index;
  begins : l.next ≡ start (λ x. numbering.clause_numbers (views.view_clause x)) l.fn.first l.initial.clauses l.clause-index;
}

abbrev pub invariant-number_targets-targets : goal.invariant-number_targets-targets
invariant-number_targets-targets l = record {
  unvisited : goal.unvisited-number_targets-targets l;
  numbered : IsNumberedTo views.view_target (maps.map_target no_blocks) numbering.target_numbers l.fn.first l.initial.targets l.targets l.target-index;
  begins : l.next ≡ start (λ x. numbering.target_numbers (views.view_target x)) l.fn.first l.initial.targets l.target-index;
}

abbrev pub invariant-number_defaults-plain : goal.invariant-number_defaults-plain
invariant-number_defaults-plain l = record {
  unvisited : goal.unvisited-number_defaults-plain l;
  numbered : AreDefaultsNumberedTo l.fn.first l.initial.plain l.plain l.param-index;
  begins : l.next ≡ start (λ x. numbering.maybe_numbers (views.maybe_of (option_map views.view_expr x.1))) l.fn.first l.initial.plain l.param-index;
}

abbrev pub invariant-number_trailers-trailers : goal.invariant-number_trailers-trailers
invariant-number_trailers-trailers l = record {
  unvisited : goal.unvisited-number_trailers-trailers l;
  numbered : IsNumberedTo views.view_trailer (maps.map_trailer no_blocks) numbering.trailer_numbers l.fn.first l.initial.trailers l.trailers l.trailer-index;
  begins : l.next ≡ start (λ x. numbering.trailer_numbers (views.view_trailer x)) l.fn.first l.initial.trailers l.trailer-index;
}

abbrev pub invariant-number_args-arguments : goal.invariant-number_args-arguments
invariant-number_args-arguments l = record {
  unvisited : goal.unvisited-number_args-arguments l;
  numbered : IsNumberedTo views.view_arg (maps.map_arg no_blocks) numbering.arg_numbers l.fn.first l.initial.args l.args l.arg-index;
  begins : l.next ≡ start (λ x. numbering.arg_numbers (views.view_arg x)) l.fn.first l.initial.args l.arg-index;
}
