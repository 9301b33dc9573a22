use Rattle.std.proofs.Common.{◌≡◌, ◌<◌, ◌∙◌, [], ap, arith, count_by, drop, get_or, length, refl}
use Rattle.std.proofs.lemmas.List.{drop_all}
use Rattle.rp_decl.specs.Ring.{is_place}
use Rattle.rp_decl.proofs.RingLinks.{count-turn}
use Rattle.rp_decl.proofs.ring.count_all.Goals as goal

pub loop-place-init : goal.loop-place-init
loop-place-init c = record {
  as_many = c.requires.as_many;
  counted = λ other inside.
      let zero = c.requires.none other (omega (arith, inside, c.requires.as_many)) in
      omega (arith, zero);
}

pub loop-place-preserved : goal.loop-place-preserved
loop-place-preserved c =
    let likes = c.args.likes.now in
    let at = c.loop-place in
    record {
      as_many = c.count_link.ensures.as_many ∙ at.invariant.as_many;
      counted = λ other inside.
          let there : other < length at.waits = omega (arith, inside, at.invariant.as_many) in
          count-turn likes at.place other (get_or at.waits other 0) (get_or c.count_link.new.waits other 0) (length likes)
          c.next-like.result c.loop-place-test.true c.next-like.ensures refl (c.count_link.ensures.counted other there)
          (at.invariant.counted other inside);
    }

pub returns : goal.returns
returns c = λ other inside.
    let likes = c.args.likes.now in
    let at = c.loop-place in
    let none : drop at.place likes ≡ [] = drop_all at.place likes (omega arith) in
    let over : count_by (is_place other) (drop at.place likes) ≡ 0 = ap (count_by (is_place other)) none in
    let counted = at.invariant.counted other inside in
    omega (arith, over, counted)
