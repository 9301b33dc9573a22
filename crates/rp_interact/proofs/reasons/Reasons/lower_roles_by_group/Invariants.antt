use Rattle.std.proofs.Common.{◌≡◌, drop, map}
use Rattle.rp_interact.specs.ReasonsSteps.{lowered}
use Rattle.rp_interact.specs.declared.reason.Reason.TheVariants.{GroupRole}
use Rattle.rp_interact.proofs.reasons.Reasons.lower_roles_by_group.Given as goal

abbrev pub invariant-loop-role : goal.invariant-loop-role
invariant-loop-role l = lowered (map (λ r. (r, GroupRole l.place r)) (drop l.role-index l.roles)) l.self ≡ lowered (map (λ r. (r, GroupRole l.place r)) l.roles) l.initial.self
