use Rattle.std.proofs.Common.{◌≡◌, suc, ◌+◌, ◌*◌, ◌≤◌, ◌-◌, length, map, true, false, Some}
use Rattle.rp_tree.specs.Expressions as tree
use Rattle.rp_tree.specs.ExpressionViews as views
use Rattle.rp_grammar.specs.Front as token_tests
use Rattle.rp_grammar.specs.ExpressionReading as reading
use Rattle.rp_grammar.specs.ExpressionReading.{all_many, all_listed, before}
use Rattle.rp_grammar.proofs.Loops.{front}
use Rattle.rp_expr.proofs.Views.{plain_view}
use Rattle.rp_expr.proofs.+expr.Given as goal

-- ---- each call goes down in depth, or in rank at the same depth

abbrev pub decreases-expressions::expr : goal.decreases-expressions::expr
decreases-expressions::expr l = 50 * l.depth + 48

abbrev pub decreases-expressions::conditional : goal.decreases-expressions::conditional
decreases-expressions::conditional l = 50 * l.depth + 47

abbrev pub decreases-expressions::lambda : goal.decreases-expressions::lambda
decreases-expressions::lambda l = 50 * l.depth + 47

abbrev pub decreases-operators::or : goal.decreases-operators::or
decreases-operators::or l = 50 * l.depth + 46

abbrev pub decreases-operators::ors : goal.decreases-operators::ors
decreases-operators::ors l = 50 * l.depth + 45

abbrev pub decreases-operators::and : goal.decreases-operators::and
decreases-operators::and l = 50 * l.depth + 44

abbrev pub decreases-operators::ands : goal.decreases-operators::ands
decreases-operators::ands l = 50 * l.depth + 43

abbrev pub decreases-operators::not : goal.decreases-operators::not
decreases-operators::not l = 50 * l.depth + 42

abbrev pub decreases-operators::compare : goal.decreases-operators::compare
decreases-operators::compare l = 50 * l.depth + 41

abbrev pub decreases-operators::tests : goal.decreases-operators::tests
decreases-operators::tests l = 50 * l.depth + 40

abbrev pub decreases-operators::test : goal.decreases-operators::test
decreases-operators::test l = 50 * l.depth + 39

abbrev pub decreases-operators::test_at : goal.decreases-operators::test_at
decreases-operators::test_at l = 50 * l.depth + 38

abbrev pub decreases-operators::compared_with : goal.decreases-operators::compared_with
decreases-operators::compared_with l = 50 * l.depth + 37

abbrev pub decreases-operators::unary : goal.decreases-operators::unary
decreases-operators::unary l = 50 * l.depth + 17

abbrev pub decreases-operators::power : goal.decreases-operators::power
decreases-operators::power l = 50 * l.depth + 16

abbrev pub decreases-trailers::primary : goal.decreases-trailers::primary
decreases-trailers::primary l = 50 * l.depth + 15

abbrev pub decreases-trailers::trailers : goal.decreases-trailers::trailers
decreases-trailers::trailers l = 50 * l.depth + 14

abbrev pub decreases-trailers::trailer : goal.decreases-trailers::trailer
decreases-trailers::trailer l = 50 * l.depth + 13

abbrev pub decreases-trailers::subscript : goal.decreases-trailers::subscript
decreases-trailers::subscript l = 50 * l.depth + 12

abbrev pub decreases-trailers::slice : goal.decreases-trailers::slice
decreases-trailers::slice l = 50 * l.depth + 11

abbrev pub decreases-trailers::maybe : goal.decreases-trailers::maybe
decreases-trailers::maybe l = 50 * l.depth + 10

abbrev pub decreases-trailers::called : goal.decreases-trailers::called
decreases-trailers::called l = 50 * l.depth + 12

abbrev pub decreases-trailers::args : goal.decreases-trailers::args
decreases-trailers::args l = 50 * l.depth + 11

abbrev pub decreases-trailers::arg : goal.decreases-trailers::arg
decreases-trailers::arg l = 50 * l.depth + 10

abbrev pub decreases-trailers::positional : goal.decreases-trailers::positional
decreases-trailers::positional l = 50 * l.depth + 9

abbrev pub decreases-trailers::starred : goal.decreases-trailers::starred
decreases-trailers::starred l = 50 * l.depth + 9

abbrev pub decreases-atoms::atom : goal.decreases-atoms::atom
decreases-atoms::atom l = 50 * l.depth + 14

abbrev pub decreases-atoms::atom_at : goal.decreases-atoms::atom_at
decreases-atoms::atom_at l = 50 * l.depth + 13

abbrev pub decreases-atoms::parenthesized : goal.decreases-atoms::parenthesized
decreases-atoms::parenthesized l = 50 * l.depth + 12

abbrev pub decreases-atoms::bracketed : goal.decreases-atoms::bracketed
decreases-atoms::bracketed l = 50 * l.depth + 12

abbrev pub decreases-atoms::braced : goal.decreases-atoms::braced
decreases-atoms::braced l = 50 * l.depth + 12

abbrev pub decreases-lists::others : goal.decreases-lists::others
decreases-lists::others l = 50 * l.depth + 9

abbrev pub decreases-lists::exprs : goal.decreases-lists::exprs
decreases-lists::exprs l = 50 * l.depth + 8

abbrev pub decreases-lists::other_pairs : goal.decreases-lists::other_pairs
decreases-lists::other_pairs l = 50 * l.depth + 9

abbrev pub decreases-lists::pairs : goal.decreases-lists::pairs
decreases-lists::pairs l = 50 * l.depth + 8

abbrev pub decreases-lists::pair : goal.decreases-lists::pair
decreases-lists::pair l = 50 * l.depth + 7

abbrev pub decreases-clauses::clauses : goal.decreases-clauses::clauses
decreases-clauses::clauses l = 50 * l.depth + 11

abbrev pub decreases-clauses::clause : goal.decreases-clauses::clause
decreases-clauses::clause l = 50 * l.depth + 10

abbrev pub decreases-clauses::target : goal.decreases-clauses::target
decreases-clauses::target l = 50 * l.depth + 9

abbrev pub decreases-clauses::parts : goal.decreases-clauses::parts
decreases-clauses::parts l = 50 * l.depth + 8

abbrev pub decreases-clauses::part : goal.decreases-clauses::part
decreases-clauses::part l = 50 * l.depth + 7

abbrev pub decreases-clauses::ifs : goal.decreases-clauses::ifs
decreases-clauses::ifs l = 50 * l.depth + 9

abbrev pub decreases-parameters::params : goal.decreases-parameters::params
decreases-parameters::params l = 50 * l.depth + 11

abbrev pub decreases-parameters::plains : goal.decreases-parameters::plains
decreases-parameters::plains l = 50 * l.depth + 10

abbrev pub decreases-parameters::plain : goal.decreases-parameters::plain
decreases-parameters::plain l = 50 * l.depth + 9

abbrev pub decreases-expressions::inner_expr : goal.decreases-expressions::inner_expr
decreases-expressions::inner_expr l = 50 * l.depth + 1

abbrev pub decreases-expressions::inner_or : goal.decreases-expressions::inner_or
decreases-expressions::inner_or l = 50 * l.depth + 1

abbrev pub decreases-expressions::inner_not : goal.decreases-expressions::inner_not
decreases-expressions::inner_not l = 50 * l.depth + 1

abbrev pub decreases-expressions::inner_unary : goal.decreases-expressions::inner_unary
decreases-expressions::inner_unary l = 50 * l.depth + 1

abbrev pub decreases-expressions::inner_primary : goal.decreases-expressions::inner_primary
decreases-expressions::inner_primary l = 50 * l.depth + 1

abbrev pub decreases-operators::chain : goal.decreases-operators::chain
decreases-operators::chain l = 50 * l.depth + 18 + 3 * l.level

abbrev pub decreases-operators::chained : goal.decreases-operators::chained
decreases-operators::chained l = 50 * l.depth + 20 + 3 * l.level

abbrev pub decreases-operators::operations : goal.decreases-operators::operations
decreases-operators::operations l = 50 * l.depth + 19 + 3 * l.level

-- ---- each loop

abbrev pub invariant-clauses::ifs-items : goal.invariant-clauses::ifs-items
invariant-clauses::ifs-items l = reading.ifs (reading.readers l.depth) l.fn.tokens ≡ before (front tree.expr (map views.view_expr l.found.items)) (all_many tree.no_exprs tree.expr (reading.at token_tests.is_if) (reading.behind (reading.readers l.depth).or) l.rest)

abbrev pub decreases-clauses::ifs-items : goal.decreases-clauses::ifs-items
decreases-clauses::ifs-items l = length l.rest

abbrev pub invariant-clauses::clauses-items : goal.invariant-clauses::clauses-items
invariant-clauses::clauses-items l = reading.clauses (reading.readers l.depth) l.fn.tokens ≡ before (front tree.clause (map views.view_clause l.found.items)) (all_many tree.no_clauses tree.clause (reading.at token_tests.is_for) (reading.behind (reading.clause (reading.readers l.depth))) l.rest)

abbrev pub decreases-clauses::clauses-items : goal.decreases-clauses::clauses-items
decreases-clauses::clauses-items l = length l.rest

abbrev pub invariant-trailers::trailers-items : goal.invariant-trailers::trailers-items
invariant-trailers::trailers-items l = reading.trailers (reading.readers l.depth) l.fn.tokens ≡ before (front tree.trailer (map views.view_trailer l.found.items)) (all_many tree.no_trailers tree.trailer (reading.at token_tests.starts_trailer) (reading.trailer (reading.readers l.depth)) l.rest)

abbrev pub decreases-trailers::trailers-items : goal.decreases-trailers::trailers-items
decreases-trailers::trailers-items l = length l.rest

abbrev pub invariant-operators::operations-items : goal.invariant-operators::operations-items
invariant-operators::operations-items l = reading.operations (suc l.level) (reading.chain (reading.readers l.depth) l.level) l.fn.tokens ≡ before (front reading.with_op (map views.view_op l.found.items)) (all_many tree.no_ops reading.with_op (reading.at (λ j. reading.is_some (reading.operator_of (suc l.level) j))) (reading.operation (suc l.level) (reading.chain (reading.readers l.depth) l.level)) l.rest)

abbrev pub decreases-operators::operations-items : goal.decreases-operators::operations-items
decreases-operators::operations-items l = length l.rest

abbrev pub invariant-operators::tests-items : goal.invariant-operators::tests-items
invariant-operators::tests-items l = reading.tests (reading.readers l.depth) l.fn.tokens ≡ before (front reading.with_test (map views.view_test l.found.items)) (all_many tree.no_tests reading.with_test reading.at_test (reading.comparison (reading.readers l.depth)) l.rest)

abbrev pub decreases-operators::tests-items : goal.decreases-operators::tests-items
decreases-operators::tests-items l = length l.rest

abbrev pub invariant-operators::ands-items : goal.invariant-operators::ands-items
invariant-operators::ands-items l = reading.ands (reading.readers l.depth) (views.view_expr l.fn.first) l.fn.tokens ≡ before (front tree.expr (map views.view_expr l.found.items)) (all_many tree.no_exprs tree.expr (reading.at token_tests.is_and) (reading.behind (reading.not (reading.readers l.depth))) l.rest)

abbrev pub decreases-operators::ands-items : goal.decreases-operators::ands-items
decreases-operators::ands-items l = length l.rest

abbrev pub invariant-operators::ors-items : goal.invariant-operators::ors-items
invariant-operators::ors-items l = reading.ors (reading.readers l.depth) (views.view_expr l.fn.first) l.fn.tokens ≡ before (front tree.expr (map views.view_expr l.found.items)) (all_many tree.no_exprs tree.expr (reading.at token_tests.is_or) (reading.behind (reading.and (reading.readers l.depth))) l.rest)

abbrev pub decreases-operators::ors-items : goal.decreases-operators::ors-items
decreases-operators::ors-items l = length l.rest

abbrev pub invariant-lists::exprs-items : goal.invariant-lists::exprs-items
invariant-lists::exprs-items l = reading.exprs (reading.readers l.depth) (views.view_expr l.fn.first) l.fn.tokens ≡ before (front tree.expr (map views.view_expr l.found.items)) (all_listed tree.no_exprs tree.no_exprs tree.expr token_tests.starts (reading.alike (reading.readers l.depth).expr) tt l.rest)

abbrev pub decreases-lists::exprs-items : goal.decreases-lists::exprs-items
decreases-lists::exprs-items l = length l.rest

abbrev pub invariant-lists::pairs-items : goal.invariant-lists::pairs-items
invariant-lists::pairs-items l = reading.pairs (reading.readers l.depth) (views.view_pair l.fn.first) l.fn.tokens ≡ before (front reading.with_pair (map views.view_pair l.found.items)) (all_listed tree.no_pairs tree.no_pairs reading.with_pair token_tests.starts (reading.alike (reading.pair (reading.readers l.depth))) tt l.rest)

abbrev pub decreases-lists::pairs-items : goal.decreases-lists::pairs-items
decreases-lists::pairs-items l = length l.rest

abbrev pub invariant-clauses::parts-items : goal.invariant-clauses::parts-items
invariant-clauses::parts-items l = reading.parts (reading.readers l.depth) (views.view_target l.fn.first) l.fn.tokens ≡ before (front tree.target (map views.view_target l.found.items)) (all_listed tree.no_targets tree.no_targets tree.target token_tests.starts (reading.alike (reading.part (reading.readers l.depth))) tt l.rest)

abbrev pub decreases-clauses::parts-items : goal.decreases-clauses::parts-items
decreases-clauses::parts-items l = length l.rest

abbrev pub invariant-trailers::args-items : goal.invariant-trailers::args-items
invariant-trailers::args-items l = reading.args (reading.readers l.depth) l.fn.tokens ≡ before (front tree.arg (map views.view_arg l.found.items)) (all_listed tree.no_args tree.no_args tree.arg token_tests.starts_arg (reading.arg (reading.readers l.depth)) l.named l.rest)

abbrev pub decreases-trailers::args-items : goal.decreases-trailers::args-items
decreases-trailers::args-items l = length l.rest

abbrev pub invariant-parameters::plains-items : goal.invariant-parameters::plains-items
invariant-parameters::plains-items l = reading.plains (reading.readers l.depth) l.fn.tokens ≡ before (front reading.with_plain (map plain_view l.found.items)) (all_listed (tree.no_plain, true) (tree.no_plain, false) reading.with_plain token_tests.is_name (reading.plain (reading.readers l.depth)) l.defaults l.rest)

abbrev pub decreases-parameters::plains-items : goal.decreases-parameters::plains-items
decreases-parameters::plains-items l = length l.rest

abbrev pub invariant-operators::chain-levels : goal.invariant-operators::chain-levels
invariant-operators::chain-levels l = record { within : l.below ≤ l.level; so_far : reading.chain (reading.readers l.depth) l.below l.fn.tokens ≡ Some (views.view_expr l.operand, l.rest) }

abbrev pub decreases-operators::chain-levels : goal.decreases-operators::chain-levels
decreases-operators::chain-levels l = l.level - l.below
