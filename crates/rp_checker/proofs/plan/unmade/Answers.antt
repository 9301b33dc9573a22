use Rattle.std.proofs.Common.{rules, subst, sym}
use Rattle.rp_checker.specs.Chain.{HaveRowsWithin}
use Rattle.rp_checker.proofs.Within.{none-more}
use Rattle.rp_checker.proofs.plan.unmade.Goals as goal

pub loop-preserved : goal.loop-preserved
loop-preserved c = (search rules, λ n. subst (HaveRowsWithin n) (sym c.in_ok-push.ensures.items) (none-more n c.loop.rows.items c.empty.result c.empty.ensures.get c.empty.ensures.set (c.loop.invariant.1 n)))
