use Rattle.rp_enter.proofs.Entered.{filled_next}
use Rattle.rp_enter.proofs.entering.filled.Goals as goal

pub loop-preserved : goal.loop-preserved
loop-preserved c = filled_next c.args.slots.items c.loop.slots.items c.push.new.self.items c.loop.counter c.loop.invariant c.in_ok-push.ensures.items
