use Rattle.std.proofs.Common.{◌≡◌, take}
use Rattle.rp_enter.specs.Entering.{AreSlotsFit}
use Rattle.rp_meaning.specs.Running.{slots_taken}
use Rattle.rp_enter.proofs.entering.each_taken.Given as goal

abbrev pub invariant-loop-slot : goal.invariant-loop-slot
invariant-loop-slot l =
    (l.all.items ≡ slots_taken l.world.store.heap l.side (take l.slot-index l.slots)) × AreSlotsFit l.world.store.heap l.side l.all.items
