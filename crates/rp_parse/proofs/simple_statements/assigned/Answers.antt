use Rattle.std.proofs.Common.{◌≡◌, map, true, false, sym, ap, ◌∙◌, arith}
use Rattle.std.proofs.lemmas.List.{map_push}
use Rattle.std.proofs.lemmas.Result.{err_from_is_err_and}
use Rattle.rp_tree.specs.ExpressionViews as views
use Rattle.rp_grammar.specs.Front.{is_equal}
use Rattle.rp_grammar.specs.Kinds.{first}
use Rattle.rp_parse.proofs.Turns.{assigned_ends, assigned_keeps, assigned_unread, assigned_unplaced, assigned_over}
use Rattle.rp_parse.proofs.simple_statements.assigned.Goals as goal

pub returns-in_err-value : goal.returns-in_err-value
returns-in_err-value c =
    let p = err_from_is_err_and c.from_residual.result c.from_residual.ensures.1 in
    rw (p.1, p.2) (assigned_unread c.in_err-value.field-0.0 _ c.values.turns (map views.view_place c.values.places.items) c.values.rest.now c.values.invariant (λ none. omega (arith, c.values-test.true)) c.in_err-value.ensures.gives)

pub returns-then-not-is_equal : goal.returns-then-not-is_equal
returns-then-not-is_equal c =
    let over : is_equal (first c.in_ok-value.after.now) ≡ false = sym c.is_equal.ensures ∙ c.if-not-is_equal.true in
    assigned_ends _ c.values.turns (map views.view_place c.values.places.items) (views.view_expr c.in_ok-value.value) c.values.rest.now c.in_ok-value.after.now c.values.invariant (λ none. omega (arith, c.values-test.true)) c.in_ok-value.ensures.gives over

pub returns-in_err-place_of : goal.returns-in_err-place_of
returns-in_err-place_of c =
    let equal : is_equal (first c.in_ok-value.after.now) ≡ true = sym c.is_equal.ensures ∙ c.if-not-is_equal.false in
    let p = err_from_is_err_and c.from_residual-in_err-place_of.result c.from_residual-in_err-place_of.ensures.1 in
    rw (p.1, p.2) (assigned_unplaced c.in_err-place_of.field-0.0 _ c.values.turns (map views.view_place c.values.places.items) (views.view_expr c.in_ok-value.value) c.values.rest.now c.in_ok-value.after.now c.values.invariant (λ none. omega (arith, c.values-test.true)) c.in_ok-value.ensures.gives equal c.in_err-place_of.ensures)

pub values-preserved : goal.values-preserved
values-preserved c =
    let equal : is_equal (first c.in_ok-value.after.now) ≡ true = sym c.is_equal.ensures ∙ c.if-not-is_equal.false in
    let found = ap (map views.view_place) c.in_ok-push.ensures.items ∙ map_push views.view_place c.values.places.items c.in_ok-place_of.field-0 in
    rw c.skip-rest.ensures (assigned_keeps _ c.values.turns (map views.view_place c.values.places.items) (map views.view_place c.push.new.self.items) (views.view_expr c.in_ok-value.value) (views.view_place c.in_ok-place_of.field-0) c.values.rest.now c.in_ok-value.after.now c.values.invariant (λ none. omega (arith, c.values-test.true)) c.in_ok-value.ensures.gives equal c.in_ok-place_of.ensures found)

pub returns : goal.returns
returns c = assigned_over _ c.values.turns (map views.view_place c.values.places.items) c.values.rest.now c.values.invariant (omega (arith, c.values-test.false))
