use Rattle.std.proofs.Common.{◌≡◌, ℕ, suc, map, true, false, Some, None, sym, ap, subst, ◌∙◌, arith}
use Rattle.std.proofs.lemmas.Result.{err_from_is_err_and}
use Rattle.rp_tree.specs.Expressions as tree
use Rattle.rp_tree.specs.ExpressionViews as views
use Rattle.rp_grammar.specs.Front as token_tests
use Rattle.rp_expr.specs.Gives.{Fails}
use Rattle.rp_grammar.specs.Kinds.{Tokens, first}
use Rattle.rp_grammar.specs.ExpressionReading as reading
use Rattle.rp_grammar.specs.ExpressionReading.{Read, all_many, all_listed, before}
use Rattle.rp_grammar.proofs.Loops.{front_exprs, front_targets, front_pairs, front_clauses, front_trailers, front_args, front_ops, front_tests, begin_one, begin_none, answered, many_keeps, many_ends, listed_keeps, listed_shuts, listed_ends}
use Rattle.rp_grammar.proofs.Turns.{ifs_short, clauses_short, trailers_short, operations_short, tests_short, ands_short, ors_short, exprs_short, pairs_short, parts_short, args_short, plains_short, operation_begins, operation_reads, expr_at, or_at, not_at, unary_at, primary_at, none_at, chain_step, chain_begins, chain_alone}
use Rattle.rp_grammar.proofs.ExpressionTakes.{skip_within}
use Rattle.rp_expr.proofs.Views.{plain_view, plains_found}
use Rattle.rp_expr.proofs.Faults.{many_fails, listed_fails, alike_fails, operation_fails, chain_fails, chain_unread}
use Rattle.rp_grammar.proofs.Basics.{alike_reads}
use Rattle.rp_expr.proofs.+expr.Goals as goal

-- ---- the readers within

pub expressions::inner_expr-returns : goal.expressions::inner_expr-returns
expressions::inner_expr-returns t c = rw (expr_at c.args.depth c.args.tokens.now c.if-depth-eq0.false) c.expr.ensures

pub expressions::inner_expr-returns-then-depth-eq0 : goal.expressions::inner_expr-returns-then-depth-eq0
expressions::inner_expr-returns-then-depth-eq0 t c = (none_at c.args.depth c.args.tokens.now (omega arith)).expr

pub expressions::inner_or-returns : goal.expressions::inner_or-returns
expressions::inner_or-returns t c = rw (or_at c.args.depth c.args.tokens.now c.if-depth-eq0.false) c.or.ensures

pub expressions::inner_or-returns-then-depth-eq0 : goal.expressions::inner_or-returns-then-depth-eq0
expressions::inner_or-returns-then-depth-eq0 t c = (none_at c.args.depth c.args.tokens.now (omega arith)).or

pub expressions::inner_not-returns : goal.expressions::inner_not-returns
expressions::inner_not-returns t c = rw (not_at c.args.depth c.args.tokens.now c.if-depth-eq0.false) c.not.ensures

pub expressions::inner_not-returns-then-depth-eq0 : goal.expressions::inner_not-returns-then-depth-eq0
expressions::inner_not-returns-then-depth-eq0 t c = (none_at c.args.depth c.args.tokens.now (omega arith)).not

pub expressions::inner_unary-returns : goal.expressions::inner_unary-returns
expressions::inner_unary-returns t c = rw (unary_at c.args.depth c.args.tokens.now c.if-depth-eq0.false) c.unary.ensures

pub expressions::inner_unary-returns-then-depth-eq0 : goal.expressions::inner_unary-returns-then-depth-eq0
expressions::inner_unary-returns-then-depth-eq0 t c = (none_at c.args.depth c.args.tokens.now (omega arith)).unary

pub expressions::inner_primary-returns : goal.expressions::inner_primary-returns
expressions::inner_primary-returns t c = rw (primary_at c.args.depth c.args.tokens.now c.if-depth-eq0.false) c.primary.ensures

pub expressions::inner_primary-returns-then-depth-eq0 : goal.expressions::inner_primary-returns-then-depth-eq0
expressions::inner_primary-returns-then-depth-eq0 t c = (none_at c.args.depth c.args.tokens.now (omega arith)).primary

-- ---- loops over items

pub clauses::ifs-items-init : goal.clauses::ifs-items-init
unfolding reading.ifs
clauses::ifs-items-init t c = begin_none views.view_expr tree.expr _ _ c.new-found.ensures.items

pub clauses::ifs-items-preserved : goal.clauses::ifs-items-preserved
clauses::ifs-items-preserved t c =
    let rest = c.items.rest.now in
    let begun : (reading.at token_tests.is_if) rest ≡ true = sym c.is_if.ensures ∙ c.items-test.true in
    let read : (reading.behind (reading.readers c.args.depth).or) rest ≡ Some (views.view_expr c.in_ok-item.item, c.in_ok-item.after.now) = ap (reading.readers c.args.depth).or (sym c.skip.ensures) ∙ c.in_ok-item.ensures in
    many_keeps tree.no_exprs tree.expr (reading.at token_tests.is_if) (reading.behind (reading.readers c.args.depth).or) (ifs_short c.args.depth) views.view_expr _ c.items.found.items c.push.new.self.items c.in_ok-item.item rest c.in_ok-item.after.now c.in_ok-push.ensures.items c.items.invariant begun read

pub clauses::ifs-items-smaller : goal.clauses::ifs-items-smaller
clauses::ifs-items-smaller t c =
    let rest = c.items.rest.now in
    let begun : (reading.at token_tests.is_if) rest ≡ true = sym c.is_if.ensures ∙ c.items-test.true in
    let read : (reading.behind (reading.readers c.args.depth).or) rest ≡ Some (views.view_expr c.in_ok-item.item, c.in_ok-item.after.now) = ap (reading.readers c.args.depth).or (sym c.skip.ensures) ∙ c.in_ok-item.ensures in
    ifs_short c.args.depth rest (views.view_expr c.in_ok-item.item, c.in_ok-item.after.now) begun read

pub clauses::ifs-returns : goal.clauses::ifs-returns
clauses::ifs-returns t c =
    let rest = c.items.rest.now in
    let over : (reading.at token_tests.is_if) rest ≡ false = sym c.is_if.ensures ∙ c.items-test.false in
    many_ends tree.no_exprs tree.expr (reading.at token_tests.is_if) (reading.behind (reading.readers c.args.depth).or) (ifs_short c.args.depth) _ (map views.view_expr c.items.found.items) rest c.items.invariant over ∙ ap (λ (l : tree.Exprs). answered l rest) (front_exprs (map views.view_expr c.items.found.items))

pub clauses::ifs-returns-in_err-item : goal.clauses::ifs-returns-in_err-item
clauses::ifs-returns-in_err-item t c =
    let rest = c.items.rest.now in
    let begun : (reading.at token_tests.is_if) rest ≡ true = sym c.is_if.ensures ∙ c.items-test.true in
    let p = err_from_is_err_and c.from_residual.result c.from_residual.ensures.1 in
    rw (p.1, p.2) (many_fails tree.no_exprs tree.expr (reading.at token_tests.is_if) (reading.behind (reading.readers c.args.depth).or) (ifs_short c.args.depth) c.in_err-item.field-0.0 _ (map views.view_expr c.items.found.items) rest c.items.invariant begun (subst (λ (us : Tokens). Fails c.in_err-item.field-0.0 ((reading.readers c.args.depth).or us)) c.skip.ensures c.in_err-item.ensures))

pub clauses::clauses-items-init : goal.clauses::clauses-items-init
unfolding reading.clauses
clauses::clauses-items-init t c = begin_none views.view_clause tree.clause _ _ c.new-found.ensures.items

pub clauses::clauses-items-preserved : goal.clauses::clauses-items-preserved
clauses::clauses-items-preserved t c =
    let rest = c.items.rest.now in
    let begun : (reading.at token_tests.is_for) rest ≡ true = sym c.is_for.ensures ∙ c.items-test.true in
    let read : (reading.behind (reading.clause (reading.readers c.args.depth))) rest ≡ Some (views.view_clause c.in_ok-item.item, c.in_ok-item.after.now) = ap (reading.clause (reading.readers c.args.depth)) (sym c.skip.ensures) ∙ c.in_ok-item.ensures in
    many_keeps tree.no_clauses tree.clause (reading.at token_tests.is_for) (reading.behind (reading.clause (reading.readers c.args.depth))) (clauses_short c.args.depth) views.view_clause _ c.items.found.items c.push.new.self.items c.in_ok-item.item rest c.in_ok-item.after.now c.in_ok-push.ensures.items c.items.invariant begun read

pub clauses::clauses-items-smaller : goal.clauses::clauses-items-smaller
clauses::clauses-items-smaller t c =
    let rest = c.items.rest.now in
    let begun : (reading.at token_tests.is_for) rest ≡ true = sym c.is_for.ensures ∙ c.items-test.true in
    let read : (reading.behind (reading.clause (reading.readers c.args.depth))) rest ≡ Some (views.view_clause c.in_ok-item.item, c.in_ok-item.after.now) = ap (reading.clause (reading.readers c.args.depth)) (sym c.skip.ensures) ∙ c.in_ok-item.ensures in
    clauses_short c.args.depth rest (views.view_clause c.in_ok-item.item, c.in_ok-item.after.now) begun read

pub clauses::clauses-returns : goal.clauses::clauses-returns
clauses::clauses-returns t c =
    let rest = c.items.rest.now in
    let over : (reading.at token_tests.is_for) rest ≡ false = sym c.is_for.ensures ∙ c.items-test.false in
    many_ends tree.no_clauses tree.clause (reading.at token_tests.is_for) (reading.behind (reading.clause (reading.readers c.args.depth))) (clauses_short c.args.depth) _ (map views.view_clause c.items.found.items) rest c.items.invariant over ∙ ap (λ (l : tree.Clauses). answered l rest) (front_clauses (map views.view_clause c.items.found.items))

pub clauses::clauses-returns-in_err-item : goal.clauses::clauses-returns-in_err-item
clauses::clauses-returns-in_err-item t c =
    let rest = c.items.rest.now in
    let begun : (reading.at token_tests.is_for) rest ≡ true = sym c.is_for.ensures ∙ c.items-test.true in
    let p = err_from_is_err_and c.from_residual.result c.from_residual.ensures.1 in
    rw (p.1, p.2) (many_fails tree.no_clauses tree.clause (reading.at token_tests.is_for) (reading.behind (reading.clause (reading.readers c.args.depth))) (clauses_short c.args.depth) c.in_err-item.field-0.0 _ (map views.view_clause c.items.found.items) rest c.items.invariant begun (subst (λ (us : Tokens). Fails c.in_err-item.field-0.0 ((reading.clause (reading.readers c.args.depth)) us)) c.skip.ensures c.in_err-item.ensures))

pub trailers::trailers-items-init : goal.trailers::trailers-items-init
unfolding reading.trailers
trailers::trailers-items-init t c = begin_none views.view_trailer tree.trailer _ _ c.in_ok-found.ensures.items

pub trailers::trailers-items-preserved : goal.trailers::trailers-items-preserved
trailers::trailers-items-preserved t c =
    let rest = c.items.rest.now in
    let begun : (reading.at token_tests.starts_trailer) rest ≡ true = sym c.starts_trailer.ensures ∙ c.items-test.true in
    let read : (reading.trailer (reading.readers c.args.depth)) rest ≡ Some (views.view_trailer c.in_ok-item.item, c.in_ok-item.after.now) = c.in_ok-item.ensures in
    many_keeps tree.no_trailers tree.trailer (reading.at token_tests.starts_trailer) (reading.trailer (reading.readers c.args.depth)) (trailers_short c.args.depth) views.view_trailer _ c.items.found.items c.push.new.self.items c.in_ok-item.item rest c.in_ok-item.after.now c.in_ok-push.ensures.items c.items.invariant begun read

pub trailers::trailers-items-smaller : goal.trailers::trailers-items-smaller
trailers::trailers-items-smaller t c =
    let rest = c.items.rest.now in
    let begun : (reading.at token_tests.starts_trailer) rest ≡ true = sym c.starts_trailer.ensures ∙ c.items-test.true in
    let read : (reading.trailer (reading.readers c.args.depth)) rest ≡ Some (views.view_trailer c.in_ok-item.item, c.in_ok-item.after.now) = c.in_ok-item.ensures in
    trailers_short c.args.depth rest (views.view_trailer c.in_ok-item.item, c.in_ok-item.after.now) begun read

pub trailers::trailers-returns : goal.trailers::trailers-returns
trailers::trailers-returns t c =
    let rest = c.items.rest.now in
    let over : (reading.at token_tests.starts_trailer) rest ≡ false = sym c.starts_trailer.ensures ∙ c.items-test.false in
    many_ends tree.no_trailers tree.trailer (reading.at token_tests.starts_trailer) (reading.trailer (reading.readers c.args.depth)) (trailers_short c.args.depth) _ (map views.view_trailer c.items.found.items) rest c.items.invariant over ∙ ap (λ (l : tree.Trailers). answered l rest) (front_trailers (map views.view_trailer c.items.found.items))

pub trailers::trailers-returns-in_err-item : goal.trailers::trailers-returns-in_err-item
trailers::trailers-returns-in_err-item t c =
    let rest = c.items.rest.now in
    let begun : (reading.at token_tests.starts_trailer) rest ≡ true = sym c.starts_trailer.ensures ∙ c.items-test.true in
    let p = err_from_is_err_and c.from_residual-in_err-item.result c.from_residual-in_err-item.ensures.1 in
    rw (p.1, p.2) (many_fails tree.no_trailers tree.trailer (reading.at token_tests.starts_trailer) (reading.trailer (reading.readers c.args.depth)) (trailers_short c.args.depth) c.in_err-item.field-0.0 _ (map views.view_trailer c.items.found.items) rest c.items.invariant begun c.in_err-item.ensures)

pub operators::tests-items-init : goal.operators::tests-items-init
unfolding reading.tests
operators::tests-items-init t c = begin_none views.view_test reading.with_test _ _ c.in_ok-found.ensures.items

pub operators::tests-items-preserved : goal.operators::tests-items-preserved
operators::tests-items-preserved t c =
    let rest = c.items.rest.now in
    let begun : reading.at_test rest ≡ true = sym c.at_test.ensures ∙ c.items-test.true in
    let read : (reading.comparison (reading.readers c.args.depth)) rest ≡ Some (views.view_test c.in_ok-item.item, c.in_ok-item.after.now) = c.in_ok-item.ensures in
    many_keeps tree.no_tests reading.with_test reading.at_test (reading.comparison (reading.readers c.args.depth)) (tests_short c.args.depth) views.view_test _ c.items.found.items c.push.new.self.items c.in_ok-item.item rest c.in_ok-item.after.now c.in_ok-push.ensures.items c.items.invariant begun read

pub operators::tests-items-smaller : goal.operators::tests-items-smaller
operators::tests-items-smaller t c =
    let rest = c.items.rest.now in
    let begun : reading.at_test rest ≡ true = sym c.at_test.ensures ∙ c.items-test.true in
    let read : (reading.comparison (reading.readers c.args.depth)) rest ≡ Some (views.view_test c.in_ok-item.item, c.in_ok-item.after.now) = c.in_ok-item.ensures in
    tests_short c.args.depth rest (views.view_test c.in_ok-item.item, c.in_ok-item.after.now) begun read

pub operators::tests-returns : goal.operators::tests-returns
operators::tests-returns t c =
    let rest = c.items.rest.now in
    let over : reading.at_test rest ≡ false = sym c.at_test.ensures ∙ c.items-test.false in
    many_ends tree.no_tests reading.with_test reading.at_test (reading.comparison (reading.readers c.args.depth)) (tests_short c.args.depth) _ (map views.view_test c.items.found.items) rest c.items.invariant over ∙ ap (λ (l : tree.Tests). answered l rest) (front_tests (map views.view_test c.items.found.items))

pub operators::tests-returns-in_err-item : goal.operators::tests-returns-in_err-item
operators::tests-returns-in_err-item t c =
    let rest = c.items.rest.now in
    let begun : reading.at_test rest ≡ true = sym c.at_test.ensures ∙ c.items-test.true in
    let p = err_from_is_err_and c.from_residual-in_err-item.result c.from_residual-in_err-item.ensures.1 in
    rw (p.1, p.2) (many_fails tree.no_tests reading.with_test reading.at_test (reading.comparison (reading.readers c.args.depth)) (tests_short c.args.depth) c.in_err-item.field-0.0 _ (map views.view_test c.items.found.items) rest c.items.invariant begun c.in_err-item.ensures)

pub operators::ands-items-init : goal.operators::ands-items-init
unfolding reading.ands
operators::ands-items-init t c = begin_one views.view_expr tree.expr _ _ _ c.args.first c.in_ok-push.ensures.items c.in_ok-found.ensures.items

pub operators::ands-items-preserved : goal.operators::ands-items-preserved
operators::ands-items-preserved t c =
    let rest = c.items.rest.now in
    let begun : (reading.at token_tests.is_and) rest ≡ true = sym c.is_and.ensures ∙ c.items-test.true in
    let read : (reading.behind (reading.not (reading.readers c.args.depth))) rest ≡ Some (views.view_expr c.in_ok-item.item, c.in_ok-item.after.now) = ap (reading.not (reading.readers c.args.depth)) (sym c.skip.ensures) ∙ c.in_ok-item.ensures in
    many_keeps tree.no_exprs tree.expr (reading.at token_tests.is_and) (reading.behind (reading.not (reading.readers c.args.depth))) (ands_short c.args.depth) views.view_expr _ c.items.found.items c.push-in-items.new.self.items c.in_ok-item.item rest c.in_ok-item.after.now c.in_ok-push-2.ensures.items c.items.invariant begun read

pub operators::ands-items-smaller : goal.operators::ands-items-smaller
operators::ands-items-smaller t c =
    let rest = c.items.rest.now in
    let begun : (reading.at token_tests.is_and) rest ≡ true = sym c.is_and.ensures ∙ c.items-test.true in
    let read : (reading.behind (reading.not (reading.readers c.args.depth))) rest ≡ Some (views.view_expr c.in_ok-item.item, c.in_ok-item.after.now) = ap (reading.not (reading.readers c.args.depth)) (sym c.skip.ensures) ∙ c.in_ok-item.ensures in
    ands_short c.args.depth rest (views.view_expr c.in_ok-item.item, c.in_ok-item.after.now) begun read

pub operators::ands-returns : goal.operators::ands-returns
operators::ands-returns t c =
    let rest = c.items.rest.now in
    let over : (reading.at token_tests.is_and) rest ≡ false = sym c.is_and.ensures ∙ c.items-test.false in
    many_ends tree.no_exprs tree.expr (reading.at token_tests.is_and) (reading.behind (reading.not (reading.readers c.args.depth))) (ands_short c.args.depth) _ (map views.view_expr c.items.found.items) rest c.items.invariant over ∙ ap (λ (l : tree.Exprs). answered l rest) (front_exprs (map views.view_expr c.items.found.items))

pub operators::ands-returns-in_err-item : goal.operators::ands-returns-in_err-item
operators::ands-returns-in_err-item t c =
    let rest = c.items.rest.now in
    let begun : (reading.at token_tests.is_and) rest ≡ true = sym c.is_and.ensures ∙ c.items-test.true in
    let p = err_from_is_err_and c.from_residual-in_err-item.result c.from_residual-in_err-item.ensures.1 in
    rw (p.1, p.2) (many_fails tree.no_exprs tree.expr (reading.at token_tests.is_and) (reading.behind (reading.not (reading.readers c.args.depth))) (ands_short c.args.depth) c.in_err-item.field-0.0 _ (map views.view_expr c.items.found.items) rest c.items.invariant begun (subst (λ (us : Tokens). Fails c.in_err-item.field-0.0 ((reading.not (reading.readers c.args.depth)) us)) c.skip.ensures c.in_err-item.ensures))

pub operators::ors-items-init : goal.operators::ors-items-init
unfolding reading.ors
operators::ors-items-init t c = begin_one views.view_expr tree.expr _ _ _ c.args.first c.in_ok-push.ensures.items c.in_ok-found.ensures.items

pub operators::ors-items-preserved : goal.operators::ors-items-preserved
operators::ors-items-preserved t c =
    let rest = c.items.rest.now in
    let begun : (reading.at token_tests.is_or) rest ≡ true = sym c.is_or.ensures ∙ c.items-test.true in
    let read : (reading.behind (reading.and (reading.readers c.args.depth))) rest ≡ Some (views.view_expr c.in_ok-item.item, c.in_ok-item.after.now) = ap (reading.and (reading.readers c.args.depth)) (sym c.skip.ensures) ∙ c.in_ok-item.ensures in
    many_keeps tree.no_exprs tree.expr (reading.at token_tests.is_or) (reading.behind (reading.and (reading.readers c.args.depth))) (ors_short c.args.depth) views.view_expr _ c.items.found.items c.push-in-items.new.self.items c.in_ok-item.item rest c.in_ok-item.after.now c.in_ok-push-2.ensures.items c.items.invariant begun read

pub operators::ors-items-smaller : goal.operators::ors-items-smaller
operators::ors-items-smaller t c =
    let rest = c.items.rest.now in
    let begun : (reading.at token_tests.is_or) rest ≡ true = sym c.is_or.ensures ∙ c.items-test.true in
    let read : (reading.behind (reading.and (reading.readers c.args.depth))) rest ≡ Some (views.view_expr c.in_ok-item.item, c.in_ok-item.after.now) = ap (reading.and (reading.readers c.args.depth)) (sym c.skip.ensures) ∙ c.in_ok-item.ensures in
    ors_short c.args.depth rest (views.view_expr c.in_ok-item.item, c.in_ok-item.after.now) begun read

pub operators::ors-returns : goal.operators::ors-returns
operators::ors-returns t c =
    let rest = c.items.rest.now in
    let over : (reading.at token_tests.is_or) rest ≡ false = sym c.is_or.ensures ∙ c.items-test.false in
    many_ends tree.no_exprs tree.expr (reading.at token_tests.is_or) (reading.behind (reading.and (reading.readers c.args.depth))) (ors_short c.args.depth) _ (map views.view_expr c.items.found.items) rest c.items.invariant over ∙ ap (λ (l : tree.Exprs). answered l rest) (front_exprs (map views.view_expr c.items.found.items))

pub operators::ors-returns-in_err-item : goal.operators::ors-returns-in_err-item
operators::ors-returns-in_err-item t c =
    let rest = c.items.rest.now in
    let begun : (reading.at token_tests.is_or) rest ≡ true = sym c.is_or.ensures ∙ c.items-test.true in
    let p = err_from_is_err_and c.from_residual-in_err-item.result c.from_residual-in_err-item.ensures.1 in
    rw (p.1, p.2) (many_fails tree.no_exprs tree.expr (reading.at token_tests.is_or) (reading.behind (reading.and (reading.readers c.args.depth))) (ors_short c.args.depth) c.in_err-item.field-0.0 _ (map views.view_expr c.items.found.items) rest c.items.invariant begun (subst (λ (us : Tokens). Fails c.in_err-item.field-0.0 ((reading.and (reading.readers c.args.depth)) us)) c.skip.ensures c.in_err-item.ensures))

-- ---- operations

pub operators::operations-items-init : goal.operators::operations-items-init
operators::operations-items-init t c = begin_none views.view_op reading.with_op _ _ c.in_ok-found.ensures.items

pub operators::operations-items-preserved : goal.operators::operations-items-preserved
operators::operations-items-preserved t c =
    let rest = c.items.rest.now in
    let found : reading.operator_of (suc c.args.level) (first rest) ≡ Some c.in-Some.op = sym c.operator.ensures ∙ c.in-Some.is in
    let read = operation_reads (suc c.args.level) (reading.chain (reading.readers c.args.depth) c.args.level) rest c.in_ok-operand.after.now c.in-Some.op (views.view_expr c.in_ok-operand.operand) found (ap (reading.chain (reading.readers c.args.depth) c.args.level) (sym c.skip.ensures) ∙ c.in_ok-operand.ensures) in
    many_keeps tree.no_ops reading.with_op (reading.at (λ j. reading.is_some (reading.operator_of (suc c.args.level) j))) (reading.operation (suc c.args.level) (reading.chain (reading.readers c.args.depth) c.args.level)) (operations_short c.args.depth c.args.level) views.view_op _ c.items.found.items c.push.new.self.items (c.in-Some.op, c.in_ok-operand.operand) rest c.in_ok-operand.after.now c.in_ok-push.ensures.items c.items.invariant (operation_begins _ c.in-Some.op found) read

pub operators::operations-items-smaller : goal.operators::operations-items-smaller
operators::operations-items-smaller t c =
    let rest = c.items.rest.now in
    let found : reading.operator_of (suc c.args.level) (first rest) ≡ Some c.in-Some.op = sym c.operator.ensures ∙ c.in-Some.is in
    let read = operation_reads (suc c.args.level) (reading.chain (reading.readers c.args.depth) c.args.level) rest c.in_ok-operand.after.now c.in-Some.op (views.view_expr c.in_ok-operand.operand) found (ap (reading.chain (reading.readers c.args.depth) c.args.level) (sym c.skip.ensures) ∙ c.in_ok-operand.ensures) in
    operations_short c.args.depth c.args.level rest (views.view_op (c.in-Some.op, c.in_ok-operand.operand), c.in_ok-operand.after.now) (operation_begins _ c.in-Some.op found) read

pub operators::operations-returns : goal.operators::operations-returns
operators::operations-returns t c =
    let rest = c.items.rest.now in
    let none : reading.operator_of (suc c.args.level) (first rest) ≡ None = sym c.operator.ensures ∙ c.in_default.is in
    many_ends tree.no_ops reading.with_op (reading.at (λ j. reading.is_some (reading.operator_of (suc c.args.level) j))) (reading.operation (suc c.args.level) (reading.chain (reading.readers c.args.depth) c.args.level)) (operations_short c.args.depth c.args.level) _ (map views.view_op c.items.found.items) rest c.items.invariant (ap reading.is_some none) ∙ ap (λ (l : tree.Ops). answered l rest) (front_ops (map views.view_op c.items.found.items))

pub operators::operations-returns-in_err-operand : goal.operators::operations-returns-in_err-operand
operators::operations-returns-in_err-operand t c =
    let rest = c.items.rest.now in
    let found : reading.operator_of (suc c.args.level) (first rest) ≡ Some c.in-Some.op = sym c.operator.ensures ∙ c.in-Some.is in
    let bad = operation_fails c.in_err-operand.field-0.0 (suc c.args.level) (reading.chain (reading.readers c.args.depth) c.args.level) rest c.in-Some.op found (subst (λ (us : Tokens). Fails c.in_err-operand.field-0.0 ((reading.chain (reading.readers c.args.depth) c.args.level) us)) c.skip.ensures c.in_err-operand.ensures) in
    let p = err_from_is_err_and c.from_residual-in_err-operand.result c.from_residual-in_err-operand.ensures.1 in
    rw (p.1, p.2) (many_fails tree.no_ops reading.with_op (reading.at (λ j. reading.is_some (reading.operator_of (suc c.args.level) j))) (reading.operation (suc c.args.level) (reading.chain (reading.readers c.args.depth) c.args.level)) (operations_short c.args.depth c.args.level) c.in_err-operand.field-0.0 _ (map views.view_op c.items.found.items) rest c.items.invariant (operation_begins _ c.in-Some.op found) bad)

-- ---- loops over lists

pub lists::exprs-items-init : goal.lists::exprs-items-init
unfolding reading.exprs
lists::exprs-items-init t c = begin_one views.view_expr tree.expr _ _ _ c.args.first c.in_ok-push.ensures.items c.in_ok-found.ensures.items

pub lists::exprs-items-preserved : goal.lists::exprs-items-preserved
lists::exprs-items-preserved t c =
    let rest = c.items.rest.now in
    let begun : token_tests.starts (first rest) ≡ true = sym c.starts.ensures ∙ c.items-test.true in
    let comma : token_tests.is_comma (first c.in_ok-item.after.now) ≡ true = sym c.is_comma.ensures ∙ c.if-not-is_comma.false in
    let read = alike_reads (reading.readers c.args.depth).expr rest c.in_ok-item.after.now (views.view_expr c.in_ok-item.item) c.in_ok-item.ensures in
    rw c.skip-rest.ensures (listed_keeps tree.no_exprs tree.no_exprs tree.expr token_tests.starts (reading.alike (reading.readers c.args.depth).expr) (exprs_short c.args.depth) views.view_expr _ c.items.found.items c.push-in-items.new.self.items c.in_ok-item.item tt tt rest c.in_ok-item.after.now c.in_ok-push-2.ensures.items c.items.invariant begun read comma)

pub lists::exprs-items-smaller : goal.lists::exprs-items-smaller
lists::exprs-items-smaller t c =
    let rest = c.items.rest.now in
    let read = alike_reads (reading.readers c.args.depth).expr rest c.in_ok-item.after.now (views.view_expr c.in_ok-item.item) c.in_ok-item.ensures in
    rw c.skip-rest.ensures (omega (arith, exprs_short c.args.depth tt rest ((views.view_expr c.in_ok-item.item, tt), c.in_ok-item.after.now) read, skip_within c.in_ok-item.after.now))

pub lists::exprs-returns : goal.lists::exprs-returns
lists::exprs-returns t c =
    let rest = c.items.rest.now in
    let over : token_tests.starts (first rest) ≡ false = sym c.starts.ensures ∙ c.items-test.false in
    listed_ends tree.no_exprs tree.no_exprs tree.expr token_tests.starts (reading.alike (reading.readers c.args.depth).expr) (exprs_short c.args.depth) _ (map views.view_expr c.items.found.items) tt rest c.items.invariant over ∙ ap (λ (l : tree.Exprs). answered l rest) (front_exprs (map views.view_expr c.items.found.items))

pub lists::exprs-returns-then-not-is_comma : goal.lists::exprs-returns-then-not-is_comma
lists::exprs-returns-then-not-is_comma t c =
    let rest = c.items.rest.now in
    let begun : token_tests.starts (first rest) ≡ true = sym c.starts.ensures ∙ c.items-test.true in
    let over : token_tests.is_comma (first c.in_ok-item.after.now) ≡ false = sym c.is_comma.ensures ∙ c.if-not-is_comma.true in
    let read = alike_reads (reading.readers c.args.depth).expr rest c.in_ok-item.after.now (views.view_expr c.in_ok-item.item) c.in_ok-item.ensures in
    listed_shuts tree.no_exprs tree.no_exprs tree.expr token_tests.starts (reading.alike (reading.readers c.args.depth).expr) (exprs_short c.args.depth) views.view_expr _ c.items.found.items c.push-in-items.new.self.items c.in_ok-item.item tt tt rest c.in_ok-item.after.now c.in_ok-push-2.ensures.items c.items.invariant begun read over ∙ ap (λ (l : tree.Exprs). answered l c.in_ok-item.after.now) (front_exprs (map views.view_expr c.push-in-items.new.self.items))

pub lists::exprs-returns-in_err-item : goal.lists::exprs-returns-in_err-item
lists::exprs-returns-in_err-item t c =
    let rest = c.items.rest.now in
    let begun : token_tests.starts (first rest) ≡ true = sym c.starts.ensures ∙ c.items-test.true in
    let p = err_from_is_err_and c.from_residual-in_err-item.result c.from_residual-in_err-item.ensures.1 in
    rw (p.1, p.2) (listed_fails tree.no_exprs tree.no_exprs tree.expr token_tests.starts (reading.alike (reading.readers c.args.depth).expr) (exprs_short c.args.depth) c.in_err-item.field-0.0 _ (map views.view_expr c.items.found.items) tt rest c.items.invariant begun (alike_fails c.in_err-item.field-0.0 (reading.readers c.args.depth).expr rest c.in_err-item.ensures))

pub lists::pairs-items-init : goal.lists::pairs-items-init
unfolding reading.pairs
lists::pairs-items-init t c = begin_one views.view_pair reading.with_pair _ _ _ c.args.first c.in_ok-push.ensures.items c.in_ok-found.ensures.items

pub lists::pairs-items-preserved : goal.lists::pairs-items-preserved
lists::pairs-items-preserved t c =
    let rest = c.items.rest.now in
    let begun : token_tests.starts (first rest) ≡ true = sym c.starts.ensures ∙ c.items-test.true in
    let comma : token_tests.is_comma (first c.in_ok-item.after.now) ≡ true = sym c.is_comma.ensures ∙ c.if-not-is_comma.false in
    let read = alike_reads (reading.pair (reading.readers c.args.depth)) rest c.in_ok-item.after.now (views.view_pair c.in_ok-item.item) c.in_ok-item.ensures in
    rw c.skip-rest.ensures (listed_keeps tree.no_pairs tree.no_pairs reading.with_pair token_tests.starts (reading.alike (reading.pair (reading.readers c.args.depth))) (pairs_short c.args.depth) views.view_pair _ c.items.found.items c.push-in-items.new.self.items c.in_ok-item.item tt tt rest c.in_ok-item.after.now c.in_ok-push-2.ensures.items c.items.invariant begun read comma)

pub lists::pairs-items-smaller : goal.lists::pairs-items-smaller
lists::pairs-items-smaller t c =
    let rest = c.items.rest.now in
    let read = alike_reads (reading.pair (reading.readers c.args.depth)) rest c.in_ok-item.after.now (views.view_pair c.in_ok-item.item) c.in_ok-item.ensures in
    rw c.skip-rest.ensures (omega (arith, pairs_short c.args.depth tt rest ((views.view_pair c.in_ok-item.item, tt), c.in_ok-item.after.now) read, skip_within c.in_ok-item.after.now))

pub lists::pairs-returns : goal.lists::pairs-returns
lists::pairs-returns t c =
    let rest = c.items.rest.now in
    let over : token_tests.starts (first rest) ≡ false = sym c.starts.ensures ∙ c.items-test.false in
    listed_ends tree.no_pairs tree.no_pairs reading.with_pair token_tests.starts (reading.alike (reading.pair (reading.readers c.args.depth))) (pairs_short c.args.depth) _ (map views.view_pair c.items.found.items) tt rest c.items.invariant over ∙ ap (λ (l : tree.Pairs). answered l rest) (front_pairs (map views.view_pair c.items.found.items))

pub lists::pairs-returns-then-not-is_comma : goal.lists::pairs-returns-then-not-is_comma
lists::pairs-returns-then-not-is_comma t c =
    let rest = c.items.rest.now in
    let begun : token_tests.starts (first rest) ≡ true = sym c.starts.ensures ∙ c.items-test.true in
    let over : token_tests.is_comma (first c.in_ok-item.after.now) ≡ false = sym c.is_comma.ensures ∙ c.if-not-is_comma.true in
    let read = alike_reads (reading.pair (reading.readers c.args.depth)) rest c.in_ok-item.after.now (views.view_pair c.in_ok-item.item) c.in_ok-item.ensures in
    listed_shuts tree.no_pairs tree.no_pairs reading.with_pair token_tests.starts (reading.alike (reading.pair (reading.readers c.args.depth))) (pairs_short c.args.depth) views.view_pair _ c.items.found.items c.push-in-items.new.self.items c.in_ok-item.item tt tt rest c.in_ok-item.after.now c.in_ok-push-2.ensures.items c.items.invariant begun read over ∙ ap (λ (l : tree.Pairs). answered l c.in_ok-item.after.now) (front_pairs (map views.view_pair c.push-in-items.new.self.items))

pub lists::pairs-returns-in_err-item : goal.lists::pairs-returns-in_err-item
lists::pairs-returns-in_err-item t c =
    let rest = c.items.rest.now in
    let begun : token_tests.starts (first rest) ≡ true = sym c.starts.ensures ∙ c.items-test.true in
    let p = err_from_is_err_and c.from_residual-in_err-item.result c.from_residual-in_err-item.ensures.1 in
    rw (p.1, p.2) (listed_fails tree.no_pairs tree.no_pairs reading.with_pair token_tests.starts (reading.alike (reading.pair (reading.readers c.args.depth))) (pairs_short c.args.depth) c.in_err-item.field-0.0 _ (map views.view_pair c.items.found.items) tt rest c.items.invariant begun (alike_fails c.in_err-item.field-0.0 (reading.pair (reading.readers c.args.depth)) rest c.in_err-item.ensures))

pub clauses::parts-items-init : goal.clauses::parts-items-init
unfolding reading.parts
clauses::parts-items-init t c = begin_one views.view_target tree.target _ _ _ c.args.first c.in_ok-push.ensures.items c.in_ok-found.ensures.items

pub clauses::parts-items-preserved : goal.clauses::parts-items-preserved
clauses::parts-items-preserved t c =
    let rest = c.items.rest.now in
    let begun : token_tests.starts (first rest) ≡ true = sym c.starts.ensures ∙ c.items-test.true in
    let comma : token_tests.is_comma (first c.in_ok-item.after.now) ≡ true = sym c.is_comma.ensures ∙ c.if-not-is_comma.false in
    let read = alike_reads (reading.part (reading.readers c.args.depth)) rest c.in_ok-item.after.now (views.view_target c.in_ok-item.item) c.in_ok-item.ensures in
    rw c.skip-rest.ensures (listed_keeps tree.no_targets tree.no_targets tree.target token_tests.starts (reading.alike (reading.part (reading.readers c.args.depth))) (parts_short c.args.depth) views.view_target _ c.items.found.items c.push-in-items.new.self.items c.in_ok-item.item tt tt rest c.in_ok-item.after.now c.in_ok-push-2.ensures.items c.items.invariant begun read comma)

pub clauses::parts-items-smaller : goal.clauses::parts-items-smaller
clauses::parts-items-smaller t c =
    let rest = c.items.rest.now in
    let read = alike_reads (reading.part (reading.readers c.args.depth)) rest c.in_ok-item.after.now (views.view_target c.in_ok-item.item) c.in_ok-item.ensures in
    rw c.skip-rest.ensures (omega (arith, parts_short c.args.depth tt rest ((views.view_target c.in_ok-item.item, tt), c.in_ok-item.after.now) read, skip_within c.in_ok-item.after.now))

pub clauses::parts-returns : goal.clauses::parts-returns
clauses::parts-returns t c =
    let rest = c.items.rest.now in
    let over : token_tests.starts (first rest) ≡ false = sym c.starts.ensures ∙ c.items-test.false in
    listed_ends tree.no_targets tree.no_targets tree.target token_tests.starts (reading.alike (reading.part (reading.readers c.args.depth))) (parts_short c.args.depth) _ (map views.view_target c.items.found.items) tt rest c.items.invariant over ∙ ap (λ (l : tree.Targets). answered l rest) (front_targets (map views.view_target c.items.found.items))

pub clauses::parts-returns-then-not-is_comma : goal.clauses::parts-returns-then-not-is_comma
clauses::parts-returns-then-not-is_comma t c =
    let rest = c.items.rest.now in
    let begun : token_tests.starts (first rest) ≡ true = sym c.starts.ensures ∙ c.items-test.true in
    let over : token_tests.is_comma (first c.in_ok-item.after.now) ≡ false = sym c.is_comma.ensures ∙ c.if-not-is_comma.true in
    let read = alike_reads (reading.part (reading.readers c.args.depth)) rest c.in_ok-item.after.now (views.view_target c.in_ok-item.item) c.in_ok-item.ensures in
    listed_shuts tree.no_targets tree.no_targets tree.target token_tests.starts (reading.alike (reading.part (reading.readers c.args.depth))) (parts_short c.args.depth) views.view_target _ c.items.found.items c.push-in-items.new.self.items c.in_ok-item.item tt tt rest c.in_ok-item.after.now c.in_ok-push-2.ensures.items c.items.invariant begun read over ∙ ap (λ (l : tree.Targets). answered l c.in_ok-item.after.now) (front_targets (map views.view_target c.push-in-items.new.self.items))

pub clauses::parts-returns-in_err-item : goal.clauses::parts-returns-in_err-item
clauses::parts-returns-in_err-item t c =
    let rest = c.items.rest.now in
    let begun : token_tests.starts (first rest) ≡ true = sym c.starts.ensures ∙ c.items-test.true in
    let p = err_from_is_err_and c.from_residual-in_err-item.result c.from_residual-in_err-item.ensures.1 in
    rw (p.1, p.2) (listed_fails tree.no_targets tree.no_targets tree.target token_tests.starts (reading.alike (reading.part (reading.readers c.args.depth))) (parts_short c.args.depth) c.in_err-item.field-0.0 _ (map views.view_target c.items.found.items) tt rest c.items.invariant begun (alike_fails c.in_err-item.field-0.0 (reading.part (reading.readers c.args.depth)) rest c.in_err-item.ensures))

pub trailers::args-items-init : goal.trailers::args-items-init
unfolding reading.args
trailers::args-items-init t c = begin_none views.view_arg tree.arg _ _ c.in_ok-found.ensures.items

pub trailers::args-items-preserved : goal.trailers::args-items-preserved
trailers::args-items-preserved t c =
    let rest = c.items.rest.now in
    let begun : token_tests.starts_arg (first rest) ≡ true = sym c.starts_arg.ensures ∙ c.items-test.true in
    let comma : token_tests.is_comma (first c.in_ok-item.after.now) ≡ true = sym c.is_comma.ensures ∙ c.if-not-is_comma.false in
    let read = c.in_ok-item.ensures in
    rw c.skip-rest.ensures (listed_keeps tree.no_args tree.no_args tree.arg token_tests.starts_arg (reading.arg (reading.readers c.args.depth)) (args_short c.args.depth) views.view_arg _ c.items.found.items c.push.new.self.items c.in_ok-item.item c.items.named c.in_ok-item.has_name rest c.in_ok-item.after.now c.in_ok-push.ensures.items c.items.invariant begun read comma)

pub trailers::args-items-smaller : goal.trailers::args-items-smaller
trailers::args-items-smaller t c =
    let rest = c.items.rest.now in
    let read = c.in_ok-item.ensures in
    rw c.skip-rest.ensures (omega (arith, args_short c.args.depth c.items.named rest ((views.view_arg c.in_ok-item.item, c.in_ok-item.has_name), c.in_ok-item.after.now) read, skip_within c.in_ok-item.after.now))

pub trailers::args-returns : goal.trailers::args-returns
trailers::args-returns t c =
    let rest = c.items.rest.now in
    let over : token_tests.starts_arg (first rest) ≡ false = sym c.starts_arg.ensures ∙ c.items-test.false in
    listed_ends tree.no_args tree.no_args tree.arg token_tests.starts_arg (reading.arg (reading.readers c.args.depth)) (args_short c.args.depth) _ (map views.view_arg c.items.found.items) c.items.named rest c.items.invariant over ∙ ap (λ (l : tree.Args). answered l rest) (front_args (map views.view_arg c.items.found.items))

pub trailers::args-returns-then-not-is_comma : goal.trailers::args-returns-then-not-is_comma
trailers::args-returns-then-not-is_comma t c =
    let rest = c.items.rest.now in
    let begun : token_tests.starts_arg (first rest) ≡ true = sym c.starts_arg.ensures ∙ c.items-test.true in
    let over : token_tests.is_comma (first c.in_ok-item.after.now) ≡ false = sym c.is_comma.ensures ∙ c.if-not-is_comma.true in
    let read = c.in_ok-item.ensures in
    listed_shuts tree.no_args tree.no_args tree.arg token_tests.starts_arg (reading.arg (reading.readers c.args.depth)) (args_short c.args.depth) views.view_arg _ c.items.found.items c.push.new.self.items c.in_ok-item.item c.items.named c.in_ok-item.has_name rest c.in_ok-item.after.now c.in_ok-push.ensures.items c.items.invariant begun read over ∙ ap (λ (l : tree.Args). answered l c.in_ok-item.after.now) (front_args (map views.view_arg c.push.new.self.items))

pub trailers::args-returns-in_err-item : goal.trailers::args-returns-in_err-item
trailers::args-returns-in_err-item t c =
    let rest = c.items.rest.now in
    let begun : token_tests.starts_arg (first rest) ≡ true = sym c.starts_arg.ensures ∙ c.items-test.true in
    let p = err_from_is_err_and c.from_residual-in_err-item.result c.from_residual-in_err-item.ensures.1 in
    rw (p.1, p.2) (listed_fails tree.no_args tree.no_args tree.arg token_tests.starts_arg (reading.arg (reading.readers c.args.depth)) (args_short c.args.depth) c.in_err-item.field-0.0 _ (map views.view_arg c.items.found.items) c.items.named rest c.items.invariant begun c.in_err-item.ensures)

pub parameters::plains-items-init : goal.parameters::plains-items-init
unfolding reading.plains
parameters::plains-items-init t c = begin_none plain_view reading.with_plain _ _ c.new-found.ensures.items

pub parameters::plains-items-preserved : goal.parameters::plains-items-preserved
parameters::plains-items-preserved t c =
    let rest = c.items.rest.now in
    let begun : token_tests.is_name (first rest) ≡ true = sym c.is_name.ensures ∙ c.items-test.true in
    let comma : token_tests.is_comma (first c.in_ok-item.after.now) ≡ true = sym c.is_comma.ensures ∙ c.if-not-is_comma.false in
    let read = c.in_ok-item.ensures in
    rw c.skip-rest.ensures (listed_keeps (tree.no_plain, true) (tree.no_plain, false) reading.with_plain token_tests.is_name (reading.plain (reading.readers c.args.depth)) (plains_short c.args.depth) plain_view _ c.items.found.items c.push.new.self.items c.in_ok-item.item c.items.defaults c.in_ok-item.has_default rest c.in_ok-item.after.now c.in_ok-push.ensures.items c.items.invariant begun read comma)

pub parameters::plains-items-smaller : goal.parameters::plains-items-smaller
parameters::plains-items-smaller t c =
    let rest = c.items.rest.now in
    let read = c.in_ok-item.ensures in
    rw c.skip-rest.ensures (omega (arith, plains_short c.args.depth c.items.defaults rest ((plain_view c.in_ok-item.item, c.in_ok-item.has_default), c.in_ok-item.after.now) read, skip_within c.in_ok-item.after.now))

pub parameters::plains-returns : goal.parameters::plains-returns
parameters::plains-returns t c =
    let rest = c.items.rest.now in
    let over : token_tests.is_name (first rest) ≡ false = sym c.is_name.ensures ∙ c.items-test.false in
    listed_ends (tree.no_plain, true) (tree.no_plain, false) reading.with_plain token_tests.is_name (reading.plain (reading.readers c.args.depth)) (plains_short c.args.depth) _ (map plain_view c.items.found.items) c.items.defaults rest c.items.invariant over ∙ ap (λ (l : reading.Plains). answered l rest) (plains_found c.items.found.items true)

pub parameters::plains-returns-then-not-is_comma : goal.parameters::plains-returns-then-not-is_comma
parameters::plains-returns-then-not-is_comma t c =
    let rest = c.items.rest.now in
    let begun : token_tests.is_name (first rest) ≡ true = sym c.is_name.ensures ∙ c.items-test.true in
    let over : token_tests.is_comma (first c.in_ok-item.after.now) ≡ false = sym c.is_comma.ensures ∙ c.if-not-is_comma.true in
    let read = c.in_ok-item.ensures in
    listed_shuts (tree.no_plain, true) (tree.no_plain, false) reading.with_plain token_tests.is_name (reading.plain (reading.readers c.args.depth)) (plains_short c.args.depth) plain_view _ c.items.found.items c.push.new.self.items c.in_ok-item.item c.items.defaults c.in_ok-item.has_default rest c.in_ok-item.after.now c.in_ok-push.ensures.items c.items.invariant begun read over ∙ ap (λ (l : reading.Plains). answered l c.in_ok-item.after.now) (plains_found c.push.new.self.items false)

pub parameters::plains-returns-in_err-item : goal.parameters::plains-returns-in_err-item
parameters::plains-returns-in_err-item t c =
    let rest = c.items.rest.now in
    let begun : token_tests.is_name (first rest) ≡ true = sym c.is_name.ensures ∙ c.items-test.true in
    let p = err_from_is_err_and c.from_residual.result c.from_residual.ensures.1 in
    rw (p.1, p.2) (listed_fails (tree.no_plain, true) (tree.no_plain, false) reading.with_plain token_tests.is_name (reading.plain (reading.readers c.args.depth)) (plains_short c.args.depth) c.in_err-item.field-0.0 _ (map plain_view c.items.found.items) c.items.defaults rest c.items.invariant begun c.in_err-item.ensures)

-- ---- the levels of a chain

pub operators::chain-returns-then-not-is_binary : goal.operators::chain-returns-then-not-is_binary
operators::chain-returns-then-not-is_binary t c =
    chain_alone (reading.readers c.args.depth) c.args.level c.args.tokens.now c.in_ok-first.rest.now (views.view_expr c.in_ok-first.first) c.in_ok-first.ensures (sym c.is_binary.ensures ∙ c.if-not-is_binary.true)

pub operators::chain-levels-init : goal.operators::chain-levels-init
operators::chain-levels-init t c = record { within = omega arith; so_far = chain_begins (reading.readers c.args.depth) c.args.tokens.now c.in_ok-first.rest.now (views.view_expr c.in_ok-first.first) c.in_ok-first.ensures }

pub operators::chain-levels-preserved : goal.operators::chain-levels-preserved
operators::chain-levels-preserved t c = record {
  within = omega arith;
  so_far = chain_step (reading.readers c.args.depth) c.levels.below c.args.tokens.now c.levels.rest.now (views.view_expr c.levels.operand) (views.view_expr c.in_ok-next.next, c.in_ok-next.after.now) c.levels.invariant.so_far c.in_ok-next.ensures;
}

pub operators::chain-returns : goal.operators::chain-returns
operators::chain-returns t c =
    let same : c.levels.below ≡ c.args.level = omega arith in
    subst (λ (n : ℕ). reading.chain (reading.readers c.args.depth) n c.args.tokens.now ≡ Some (views.view_expr c.levels.operand, c.levels.rest.now)) same c.levels.invariant.so_far

pub operators::chain-returns-in_err-first : goal.operators::chain-returns-in_err-first
operators::chain-returns-in_err-first t c =
    let p = err_from_is_err_and c.from_residual.result c.from_residual.ensures.1 in
    rw (p.1, p.2) (chain_unread c.in_err-first.field-0.0 (reading.readers c.args.depth) c.args.level c.args.tokens.now c.in_err-first.ensures)

pub operators::chain-returns-in_err-next : goal.operators::chain-returns-in_err-next
operators::chain-returns-in_err-next t c =
    let p = err_from_is_err_and c.from_residual-in_err-next.result c.from_residual-in_err-next.ensures.1 in
    rw (p.1, p.2) (chain_fails c.in_err-next.field-0.0 (reading.readers c.args.depth) c.levels.below c.args.level c.args.tokens.now c.levels.rest.now (views.view_expr c.levels.operand) c.levels.invariant.so_far (omega arith) c.in_err-next.ensures)
