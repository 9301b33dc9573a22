use Rattle.std.proofs.Common.{◌∙◌, ◌+◌, ap, sym, false, get_or, drop}
use Rattle.rp_interact.specs.ReasonsSteps.{by_group, by_groups, lowered}
use Rattle.rp_interact.proofs.Mentions.{lowered-turn}
use Rattle.rp_interact.proofs.reasons.Reasons.lower_by_groups.Goals as goal

pub loop-place-preserved : goal.loop-place-preserved
loop-place-preserved c =
    let x = c.index-groups-place.result in
    let turn = lowered-turn (λ place g. by_group (get_or c.args.marks.now place false) place g) c.args.groups.now c.loop-place.place x c.loop-place.self c.loop-place-test.true c.index-groups-place.is in
    ap (lowered (by_groups c.args.marks.now (c.loop-place.place + 1) (drop (c.loop-place.place + 1) c.args.groups.now))) (c.lower_by_group.ensures ∙ (λ k. lowered (by_group (c.is_marked.ensures k) c.loop-place.place c.index-groups-place.result) c.loop-place.self))
    ∙ sym turn
    ∙ c.loop-place.invariant
