use Rattle.std.proofs.Common.{◌≡◌, map, take}
use Rattle.rp_proxy.specs.Taken.{taken}
use Rattle.rp_store.specs.Kept.{AreSound}
use Rattle.rp_enter.proofs.entering.taken_all.Given as goal

abbrev pub invariant-loop-value : goal.invariant-loop-value
invariant-loop-value l =
    (l.all.items ≡ map (taken l.world.store.heap l.side) (take l.value-index l.values)) × AreSound l.world.store.heap l.all.items
