use Rattle.std.proofs.Common.{◌≡◌, drop}
use Rattle.rp_interact.specs.ReasonsSteps.{granting, lowered}
use Rattle.rp_interact.proofs.reasons.Reasons.lower_all.Given as goal

abbrev pub invariant-loop-permission : goal.invariant-loop-permission
invariant-loop-permission l = lowered (granting l.reason (drop l.permission-index l.permissions)) l.self ≡ lowered (granting l.reason l.permissions) l.initial.self
