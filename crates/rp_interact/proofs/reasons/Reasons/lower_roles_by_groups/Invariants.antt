use Rattle.std.proofs.Common.{◌≡◌, drop}
use Rattle.rp_interact.specs.ReasonsSteps.{roles_by_groups, lowered}
use Rattle.rp_interact.proofs.reasons.Reasons.lower_roles_by_groups.Given as goal

abbrev pub invariant-loop-place : goal.invariant-loop-place
invariant-loop-place l = lowered (roles_by_groups l.marks l.place (drop l.place l.groups)) l.self ≡ lowered (roles_by_groups l.marks 0 l.groups) l.initial.self
