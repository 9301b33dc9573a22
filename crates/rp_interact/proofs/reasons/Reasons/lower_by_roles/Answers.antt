use Rattle.std.proofs.Common.{◌∙◌, ◌+◌, ap, sym, get_or, drop}
use Rattle.rp_interact.specs.ReasonsSteps.{by_role, by_roles, lowered}
use Rattle.rp_interact.specs.declared.reason.Reason.TheVariants.{Nothing}
use Rattle.rp_interact.proofs.Mentions.{lowered-turn}
use Rattle.rp_interact.proofs.reasons.Reasons.lower_by_roles.Goals as goal

pub loop-place-preserved : goal.loop-place-preserved
loop-place-preserved c =
    let x = c.index-roles-place.result in
    let turn = lowered-turn (λ place r. by_role (get_or c.args.of_roles.now place Nothing) r.permissions.items) c.args.roles.now c.loop-place.place x c.loop-place.self c.loop-place-test.true c.index-roles-place.is in
    ap (lowered (by_roles c.args.of_roles.now (c.loop-place.place + 1) (drop (c.loop-place.place + 1) c.args.roles.now))) (c.lower_by_role.ensures ∙ (λ k. lowered (by_role (c.at.ensures k) (c.deref.ensures.value k)) c.loop-place.self))
    ∙ sym turn
    ∙ c.loop-place.invariant
