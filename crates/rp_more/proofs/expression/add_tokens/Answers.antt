use Rattle.std.proofs.Common.{◌≡◌, ◌∙◌, ◌∷◌, ◌++◌, [], length, map, ap, arith}
use Rattle.std.proofs.lemmas.List.{nil_from_length}
use Rattle.std.specs.Vec.Iter.{into_iter_items}
use Rattle.rp_token.specs.View.{item_view}
use Rattle.rp_more.specs.Expression.{kept}
use Rattle.rp_more.specs.Forms.{placed}
use Rattle.rp_more.specs.LiteralSteps.{items_of, place_item}
use Rattle.rp_more.proofs.Kept.{kept-all, kept-turn, one-yielded}
use Rattle.rp_more.proofs.expression.add_tokens.Goals as goal

pub loop-token-preserved : goal.loop-token-preserved
loop-token-preserved c =
    let at = c.loop-token in
    let x = c.in-Some.token in
    let rest = into_iter_items c.next.new.self in
    let steps : into_iter_items at.token-iterator ≡ x ∷ rest = c.in-Some.ensures.steps.0 in (
      one-yielded at.yielded (into_iter_items at.token-iterator) rest _ x steps at.invariant.0,
      (let was = at.invariant.1 in
          let gone = c.in-Some.ensures.steps.1 in
          let short = ap length steps in
          omega arith),
      λ names. kept-turn (place_item c.args.place) (items_of names at.written.items) (items_of names c.add_token.new.written.items) (item_view names x) (items_of names rest)
          (items_of names (into_iter_items at.token-iterator)) _ (c.in_ok-add_token.ensures names) (ap (items_of names) steps) (at.invariant.2 names),
    )

pub returns : goal.returns
returns c =
    let at = c.loop-token in
    let gone = c.in-None.ensures.steps in
    let left = at.invariant.1 in
    let none : into_iter_items at.token-iterator ≡ [] = nil_from_length (into_iter_items at.token-iterator) (omega arith) in
    let t = place_item c.args.place in
    λ names.
    let w = items_of names c.args.written.now.items in
    kept-all t (items_of names at.written.items) (items_of names (into_iter_items at.token-iterator)) (w ++ map (placed t) (kept (items_of names (into_iter_items c.into_iter-token-iterator.result))))
    (ap (items_of names) none) (at.invariant.2 names)
    ∙ (λ k. w ++ map (placed t) (kept (items_of names (c.into_iter-token-iterator.ensures.into_iter_gives.0 k))))
