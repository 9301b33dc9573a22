use Rattle.std.proofs.Common.{◌≡◌, map, take}
use Rattle.rp_proxy.specs.Taken.{taken}
use Rattle.rp_store.specs.Kept.{AreFit}
use Rattle.rp_access.proofs.spreading.all_taken.Given as goal

abbrev pub invariant-loop-value : goal.invariant-loop-value
invariant-loop-value l =
    (l.all.items ≡ map (taken l.world.store.heap l.side) (take l.value-index l.values)) × AreFit l.world.store.heap l.side l.all.items
