use Rattle.std.proofs.Common.{take}
use Rattle.rp_codes.specs.CodeSteps.{Adds}
use Rattle.rp_codes.proofs.Lists.{flat, exprs_one, pairs_one, tests_one, operands_one, clauses_one, targets_one, defaults_one, trailers_one, args_one}
use Rattle.rp_codes.proofs.expr_codes.+add_expr.Given as goal

abbrev pub invariant-add_exprs-exprs : goal.invariant-add_exprs-exprs
invariant-add_exprs-exprs l = Adds (flat exprs_one (take l.expr-index l.exprs)) l.initial.codes l.codes

abbrev pub invariant-add_pairs-pairs : goal.invariant-add_pairs-pairs
invariant-add_pairs-pairs l = Adds (flat pairs_one (take l.pair-index l.pairs)) l.initial.codes l.codes

abbrev pub invariant-add_tests-tests : goal.invariant-add_tests-tests
invariant-add_tests-tests l = Adds (flat tests_one (take l.test-index l.tests)) l.initial.codes l.codes

abbrev pub invariant-add_operands-operands : goal.invariant-add_operands-operands
invariant-add_operands-operands l = Adds (flat operands_one (take l.operand-index l.operands)) l.initial.codes l.codes

abbrev pub invariant-add_clauses-clauses : goal.invariant-add_clauses-clauses
invariant-add_clauses-clauses l = Adds (flat clauses_one (take l.clause-index l.clauses)) l.initial.codes l.codes

abbrev pub invariant-add_targets-targets : goal.invariant-add_targets-targets
invariant-add_targets-targets l = Adds (flat targets_one (take l.target-index l.targets)) l.initial.codes l.codes

abbrev pub invariant-add_defaults-plain : goal.invariant-add_defaults-plain
invariant-add_defaults-plain l = Adds (flat defaults_one (take l.param-index l.plain)) l.initial.codes l.codes

abbrev pub invariant-add_trailers-trailers : goal.invariant-add_trailers-trailers
invariant-add_trailers-trailers l = Adds (flat trailers_one (take l.trailer-index l.trailers)) l.initial.codes l.codes

abbrev pub invariant-add_args-arguments : goal.invariant-add_args-arguments
invariant-add_args-arguments l = Adds (flat args_one (take l.arg-index l.args)) l.initial.codes l.codes
