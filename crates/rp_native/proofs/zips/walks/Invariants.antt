use Rattle.std.proofs.Common.{◌≡◌, length, drop}
use Rattle.std.specs.List.{All}
use Rattle.rp_ops.specs.Walk.{IsWalkHeld}
use Rattle.rp_native.specs.Zips.{walks}
use Rattle.rp_native.proofs.ZipRows.{walks_behind}
use Rattle.rp_native.proofs.zips.walks.Given as goal

-- the walks so far, and the values that are left
abbrev pub invariant-loop-value : goal.invariant-loop-value
invariant-loop-value l = (walks l.store.heap l.values ≡ walks_behind l.walks.items (walks l.store.heap (drop l.value-index l.values)))
    × All (IsWalkHeld l.store.heap) l.walks.items
    × (length l.walks.items ≡ l.value-index)
