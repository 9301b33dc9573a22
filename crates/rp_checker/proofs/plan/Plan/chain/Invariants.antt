use Rattle.std.proofs.Common.{◌-◌, length, vec_len}
use Rattle.rp_checker.proofs.Plans.{IsFollowed}
use Rattle.rp_checker.proofs.plan.Plan.chain.Given as goal

abbrev pub invariant-loop-next : goal.invariant-loop-next
invariant-loop-next l = IsFollowed l.self l.first l.chain.items l.next

abbrev pub decreases-loop-next : goal.decreases-loop-next
decreases-loop-next l = length l.self.classes - vec_len l.chain
