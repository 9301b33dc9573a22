use Rattle.rp_engine.proofs.Passing.{popped}
use Rattle.rp_engine.proofs.machine.Machine.forget.Goals as goal

pub loop-preserved : goal.loop-preserved
loop-preserved c = popped c.args.self.now c.loop.self c.loop.counter c.pop-value.new.self c.loop.invariant c.pop-value.ensures.left
