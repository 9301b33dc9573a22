use Rattle.std.proofs.Common.{◌∙◌, arith}
use Rattle.rp_world.proofs.Filled.{slots-all, slots-turn}
use Rattle.rp_world.proofs.exposing.fill_slots.Goals as goal

pub loop-slots-preserved : goal.loop-slots-preserved
loop-slots-preserved c = slots-turn c.args.locals c.loop-slots.slots.items _ (omega arith) c.in_ok-push.ensures.items ∙ c.loop-slots.invariant

pub returns : goal.returns
returns c = slots-all c.args.locals c.loop-slots.slots.items (omega arith) ∙ c.loop-slots.invariant
