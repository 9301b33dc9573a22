use Rattle.std.proofs.Common.{◌≡◌, ◌∙◌, ◌∷◌, ◌++◌, [], false, refl, length, ap, arith}
use Rattle.std.proofs.lemmas.List.{nil_from_length}
use Rattle.std.specs.Vec.Iter.{into_iter_items}
use Rattle.rp_token.specs.Form.{newline}
use Rattle.rp_more.specs.LiteralSteps.{items_of}
use Rattle.rp_more.specs.SetSteps.{groups_ahead, set_tokens}
use Rattle.rp_more.proofs.Kept.{one-yielded, set-all, set-turn}
use Rattle.rp_more.proofs.SetItems.{set_items}
use Rattle.rp_more.proofs.sets.each_written_out.Goals as goal

pub loop-token-preserved : goal.loop-token-preserved
loop-token-preserved c =
    let at = c.loop-token in
    let x = c.in-Some.token in
    let rest = into_iter_items c.next.new.self in
    let old = at.sets in
    let new = c.take.new.self in
    let steps : into_iter_items at.token-iterator ≡ x ∷ rest = c.in-Some.ensures.steps.0 in
    let took = c.in_ok-take.ensures in (
      one-yielded at.yielded (into_iter_items at.token-iterator) rest _ x steps at.invariant.0,
      (let was = at.invariant.1 in
          let gone = c.in-Some.ensures.steps.1 in
          let short = ap length steps in
          omega arith),
      set-turn old.written.items new.written.items old.coming old.opened new.coming new.opened old.separated old.behind_in new.separated new.behind_in x rest
          (into_iter_items at.token-iterator) _ took.written took.opened took.coming took.separated took.behind_in steps at.invariant.2,
    )

pub returns : goal.returns
returns c =
    let at = c.loop-token in
    let ts = c.args.tokens.items in
    let gone = c.in-None.ensures.steps in
    let left = at.invariant.1 in
    let none : into_iter_items at.token-iterator ≡ [] = nil_from_length (into_iter_items at.token-iterator) (omega arith) in
    let start = c.in_ok-with_capacity.field-0.items in
    let coming = c.in_ok-coming_groups.field-0 in
    let total = start ++ set_tokens coming c.new.result false false (into_iter_items c.into_iter-token-iterator.result) in
    let written : at.sets.written.items ≡ total =
    set-all at.sets.written.items at.sets.coming at.sets.opened at.sets.separated at.sets.behind_in (into_iter_items at.token-iterator) total none at.invariant.2 in
    let ahead : coming ≡ groups_ahead ts = c.in_ok-coming_groups.ensures ∙ ap groups_ahead c.as_slice.ensures.value in
    let all : total ≡ set_tokens (groups_ahead ts) [] false false ts =
    (λ k. c.in_ok-with_capacity.ensures.items k ++ set_tokens (ahead k) (c.new.ensures k) false false (c.into_iter-token-iterator.ensures.into_iter_gives.0 k)) in
    λ names. ap (items_of names) (written ∙ all) ∙ set_items names [] newline false false ts refl refl
