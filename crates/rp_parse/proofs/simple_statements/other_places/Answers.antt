use Rattle.std.proofs.Common.{◌≡◌, List, [], ◌∷◌, map, true, false, sym, ap, ◌∙◌, arith}
use Rattle.std.proofs.lemmas.Result.{err_from_is_err_and}
use Rattle.rp_tree.specs.Expressions.{Place}
use Rattle.rp_tree.specs.ExpressionViews as views
use Rattle.rp_grammar.specs.Front as token_tests
use Rattle.rp_grammar.specs.Kinds.{first}
use Rattle.rp_grammar.specs.ExpressionReading as reading
use Rattle.rp_grammar.proofs.Loops.{begin_one, answered, listed_keeps, listed_shuts, listed_ends}
use Rattle.rp_grammar.proofs.ExpressionTakes.{skip_within}
use Rattle.rp_parse.specs.Gives.{deep}
use Rattle.rp_grammar.specs.StatementReading.{place}
use Rattle.rp_parse.proofs.Turns.{front_list, places_short}
use Rattle.rp_expr.proofs.Faults.{listed_fails, alike_fails}
use Rattle.rp_grammar.proofs.Basics.{alike_reads}
use Rattle.rp_parse.proofs.simple_statements.other_places.Goals as goal

abbrev cons : Place → List Place → List Place
cons p ps = p ∷ ps

pub items-init : goal.items-init
items-init c = begin_one views.view_place cons _ _ _ c.args.first c.in_ok-push.ensures.items c.in_ok-found.ensures.items

pub items-preserved : goal.items-preserved
items-preserved c =
    let rest = c.items.rest.now in
    let begun : token_tests.starts (first rest) ≡ true = sym c.starts.ensures ∙ c.items-test.true in
    let comma : token_tests.is_comma (first c.in_ok-item.after.now) ≡ true = sym c.is_comma.ensures ∙ c.if-not-is_comma.false in
    let read = alike_reads (place deep) rest c.in_ok-item.after.now (views.view_place c.in_ok-item.item) c.in_ok-item.ensures in
    rw c.skip-rest.ensures (listed_keeps [] [] cons token_tests.starts (reading.alike (place deep)) places_short views.view_place _ c.items.found.items c.push-in-items.new.self.items c.in_ok-item.item tt tt rest c.in_ok-item.after.now c.in_ok-push-2.ensures.items c.items.invariant begun read comma)

pub items-smaller : goal.items-smaller
items-smaller c =
    let rest = c.items.rest.now in
    let read = alike_reads (place deep) rest c.in_ok-item.after.now (views.view_place c.in_ok-item.item) c.in_ok-item.ensures in
    rw c.skip-rest.ensures (omega (arith, places_short tt rest ((views.view_place c.in_ok-item.item, tt), c.in_ok-item.after.now) read, skip_within c.in_ok-item.after.now))

pub returns : goal.returns
returns c =
    let rest = c.items.rest.now in
    let over : token_tests.starts (first rest) ≡ false = sym c.starts.ensures ∙ c.items-test.false in
    listed_ends [] [] cons token_tests.starts (reading.alike (place deep)) places_short _ (map views.view_place c.items.found.items) tt rest c.items.invariant over ∙ ap (λ (l : List Place). answered l rest) (front_list (map views.view_place c.items.found.items))

pub returns-then-not-is_comma : goal.returns-then-not-is_comma
returns-then-not-is_comma c =
    let rest = c.items.rest.now in
    let begun : token_tests.starts (first rest) ≡ true = sym c.starts.ensures ∙ c.items-test.true in
    let over : token_tests.is_comma (first c.in_ok-item.after.now) ≡ false = sym c.is_comma.ensures ∙ c.if-not-is_comma.true in
    let read = alike_reads (place deep) rest c.in_ok-item.after.now (views.view_place c.in_ok-item.item) c.in_ok-item.ensures in
    listed_shuts [] [] cons token_tests.starts (reading.alike (place deep)) places_short views.view_place _ c.items.found.items c.push-in-items.new.self.items c.in_ok-item.item tt tt rest c.in_ok-item.after.now c.in_ok-push-2.ensures.items c.items.invariant begun read over ∙ ap (λ (l : List Place). answered l c.in_ok-item.after.now) (front_list (map views.view_place c.push-in-items.new.self.items))

pub returns-in_err-item : goal.returns-in_err-item
returns-in_err-item c =
    let rest = c.items.rest.now in
    let begun : token_tests.starts (first rest) ≡ true = sym c.starts.ensures ∙ c.items-test.true in
    let p = err_from_is_err_and c.from_residual-in_err-item.result c.from_residual-in_err-item.ensures.1 in
    rw (p.1, p.2) (listed_fails [] [] cons token_tests.starts (reading.alike (place deep)) places_short c.in_err-item.field-0.0 _ (map views.view_place c.items.found.items) tt rest c.items.invariant begun (alike_fails c.in_err-item.field-0.0 (place deep) rest c.in_err-item.ensures))
