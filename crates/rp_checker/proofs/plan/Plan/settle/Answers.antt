use Rattle.std.proofs.Common.{◌≡◌, ◌<◌, length, arith}
use Rattle.rp_checker.proofs.Plans.{chain-inside, chain-popped, chain-ready, done-more, right-more}
use Rattle.rp_checker.proofs.Within.{made-within}
use Rattle.rp_checker.proofs.plan.Plan.settle.Goals as goal

pub loop-place-preserved : goal.loop-place-preserved
loop-place-preserved c =
    let chain = rw c.in-Some.ensures.items at c.loop-place.invariant.0 in
    let as_many : length c.loop-place.done ≡ length c.args.self.now.classes = omega arith in
    let as_many_rows : length c.loop-place.rows ≡ length c.args.self.now.classes = omega arith in
    let inside : c.in-Some.place < length c.args.self.now.classes = chain-inside _ _ _ _ _ chain in
    let rows_inside : c.in-Some.place < length c.loop-place.rows = omega arith in
    let as_long : length c.loop-place.done ≡ length c.loop-place.rows = omega arith in
    let declared = c.loop-place.invariant.2 in (
      chain-popped _ _ _ _ _ as_many chain,
      λ all right. right-more _ _ _ _ _ rows_inside as_long as_many all (chain-ready _ _ _ _ _ all chain) c.in_ok-rows.ensures (c.loop-place.invariant.1 all right),
      λ classes old. made-within _ _ _ _ classes c.in_ok-rows.ensures (declared classes old),
      λ p here. done-more c.loop-place.done c.in-Some.place p (c.loop-place.invariant.3 p here),
    )
