use Rattle.std.proofs.Common.{take}
use Rattle.rp_enter.specs.Entering.{AreSlotsFit}
use Rattle.rp_enter.proofs.entering.are_fit.Given as goal

abbrev pub invariant-loop-slot : goal.invariant-loop-slot
invariant-loop-slot l = AreSlotsFit l.store.heap l.side (take l.slot-index l.slots)
