use Rattle.std.proofs.Common.{◌≡◌, drop}
use Rattle.rp_interact.specs.ReasonsSteps.{lowered, own_roles}
use Rattle.rp_interact.proofs.reasons.Reasons.lower_own_roles.Given as goal

abbrev pub invariant-loop-role : goal.invariant-loop-role
invariant-loop-role l = lowered (own_roles (drop l.role-index l.roles)) l.self ≡ lowered (own_roles l.roles) l.initial.self
