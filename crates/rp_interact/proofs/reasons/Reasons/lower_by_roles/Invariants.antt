use Rattle.std.proofs.Common.{◌≡◌, drop}
use Rattle.rp_interact.specs.ReasonsSteps.{by_roles, lowered}
use Rattle.rp_interact.proofs.reasons.Reasons.lower_by_roles.Given as goal

abbrev pub invariant-loop-place : goal.invariant-loop-place
invariant-loop-place l = lowered (by_roles l.of_roles l.place (drop l.place l.roles)) l.self ≡ lowered (by_roles l.of_roles 0 l.roles) l.initial.self
