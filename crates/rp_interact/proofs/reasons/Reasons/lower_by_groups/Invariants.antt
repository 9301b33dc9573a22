use Rattle.std.proofs.Common.{◌≡◌, drop}
use Rattle.rp_interact.specs.ReasonsSteps.{by_groups, lowered}
use Rattle.rp_interact.proofs.reasons.Reasons.lower_by_groups.Given as goal

abbrev pub invariant-loop-place : goal.invariant-loop-place
invariant-loop-place l = lowered (by_groups l.marks l.place (drop l.place l.groups)) l.self ≡ lowered (by_groups l.marks 0 l.groups) l.initial.self
