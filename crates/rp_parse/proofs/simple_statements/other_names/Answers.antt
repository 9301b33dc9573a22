use Rattle.std.proofs.Common.{◌≡◌, List, [], ◌∷◌, map, true, false, Some, sym, ap, subst, ◌∙◌}
use Rattle.std.proofs.lemmas.Result.{err_from_is_err_and}
use Rattle.rp_tree.specs.Expressions.{Named}
use Rattle.rp_grammar.specs.Front as token_tests
use Rattle.rp_expr.specs.Gives.{Fails}
use Rattle.rp_grammar.specs.Kinds.{Tokens, first, skip}
use Rattle.rp_grammar.specs.ExpressionReading as reading
use Rattle.rp_grammar.specs.ExpressionReading.{Read}
use Rattle.rp_grammar.proofs.Loops.{begin_one, answered, many_keeps, many_ends}
use Rattle.rp_parse.proofs.Turns.{front_list, map_same, names_short}
use Rattle.rp_expr.proofs.Faults.{many_fails}
use Rattle.rp_parse.proofs.simple_statements.other_names.Goals as goal

abbrev cons : Named → List Named → List Named
cons n ns = n ∷ ns

abbrev same : Named → Named
same n = n

abbrev next_name : Tokens → Read Named
next_name us = reading.name_by (first (skip us)) (skip us)

pub items-init : goal.items-init
items-init c = begin_one same cons _ _ _ c.args.first c.in_ok-push.ensures.items c.in_ok-found.ensures.items

pub items-preserved : goal.items-preserved
items-preserved c =
    let rest = c.items.rest.now in
    let begun : (reading.at token_tests.is_comma) rest ≡ true = sym c.is_comma.ensures ∙ c.items-test.true in
    let read : next_name rest ≡ Some (c.in_ok-item.item, c.in_ok-item.after.now) = ap (λ (us : Tokens). reading.name_by (first us) us) (sym c.skip.ensures) ∙ c.in_ok-item.ensures in
    many_keeps [] cons (reading.at token_tests.is_comma) next_name names_short same _ c.items.found.items c.push-in-items.new.self.items c.in_ok-item.item rest c.in_ok-item.after.now c.in_ok-push-2.ensures.items c.items.invariant begun read

pub items-smaller : goal.items-smaller
items-smaller c =
    let rest = c.items.rest.now in
    let begun : (reading.at token_tests.is_comma) rest ≡ true = sym c.is_comma.ensures ∙ c.items-test.true in
    let read : next_name rest ≡ Some (c.in_ok-item.item, c.in_ok-item.after.now) = ap (λ (us : Tokens). reading.name_by (first us) us) (sym c.skip.ensures) ∙ c.in_ok-item.ensures in
    names_short rest (c.in_ok-item.item, c.in_ok-item.after.now) begun read

pub returns : goal.returns
returns c =
    let rest = c.items.rest.now in
    let over : (reading.at token_tests.is_comma) rest ≡ false = sym c.is_comma.ensures ∙ c.items-test.false in
    many_ends [] cons (reading.at token_tests.is_comma) next_name names_short _ (map same c.items.found.items) rest c.items.invariant over ∙ ap (λ (l : List Named). answered l rest) (front_list (map same c.items.found.items) ∙ map_same c.items.found.items)

pub returns-in_err-item : goal.returns-in_err-item
returns-in_err-item c =
    let rest = c.items.rest.now in
    let begun : (reading.at token_tests.is_comma) rest ≡ true = sym c.is_comma.ensures ∙ c.items-test.true in
    let p = err_from_is_err_and c.from_residual-in_err-item.result c.from_residual-in_err-item.ensures.1 in
    rw (p.1, p.2) (many_fails [] cons (reading.at token_tests.is_comma) next_name names_short c.in_err-item.field-0.0 _ (map same c.items.found.items) rest c.items.invariant begun (subst (λ (us : Tokens). Fails c.in_err-item.field-0.0 (reading.name_by (first us) us)) c.skip.ensures c.in_err-item.ensures))
