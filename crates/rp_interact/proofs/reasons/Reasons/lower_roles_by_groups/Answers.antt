use Rattle.std.proofs.Common.{◌∙◌, ◌+◌, ap, sym, false, get_or, drop}
use Rattle.rp_interact.specs.ReasonsSteps.{roles_by_group, roles_by_groups, lowered}
use Rattle.rp_interact.proofs.Mentions.{lowered-turn}
use Rattle.rp_interact.proofs.reasons.Reasons.lower_roles_by_groups.Goals as goal

pub loop-place-preserved : goal.loop-place-preserved
loop-place-preserved c =
    let x = c.index-groups-place.result in
    let turn = lowered-turn (λ place g. roles_by_group (get_or c.args.marks.now place false) place g.roles.items) c.args.groups.now c.loop-place.place x c.loop-place.self c.loop-place-test.true c.index-groups-place.is in
    ap (lowered (roles_by_groups c.args.marks.now (c.loop-place.place + 1) (drop (c.loop-place.place + 1) c.args.groups.now))) (c.lower_roles_by_group.ensures ∙ (λ k. lowered (roles_by_group (c.is_marked.ensures k) c.loop-place.place (c.deref.ensures.value k)) c.loop-place.self))
    ∙ sym turn
    ∙ c.loop-place.invariant
