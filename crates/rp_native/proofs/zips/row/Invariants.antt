use Rattle.std.proofs.Common.{◌≡◌, ℕ, length, take, drop}
use Rattle.std.specs.List.{All}
use Rattle.rp_store.specs.Counters.{KeepsCounters}
use Rattle.rp_store.specs.Kept.{AreSound}
use Rattle.rp_ops.specs.Outcome.{state_of}
use Rattle.rp_ops.specs.Walk.{IsWalkHeld}
use Rattle.rp_native.specs.Zips.{row}
use Rattle.rp_native.proofs.ZipRows.{row_behind}
use Rattle.rp_native.proofs.zips.row.Given as goal

-- the elements so far, and the walks that are left
abbrev pub invariant-loop-walk : goal.invariant-loop-walk
invariant-loop-walk l = ((steps : ℕ) → row l.initial.walks (state_of l.initial.store steps)
    ≡ row_behind l.row.items (take l.walk-index l.walks) (row (drop l.walk-index l.walks) (state_of l.store steps)))
    × (l.store.heap ≡ l.initial.store.heap)
    × All (IsWalkHeld l.store.heap) l.walks
    × (length l.row.items ≡ l.walk-index)
    × AreSound l.store.heap l.row.items
    × KeepsCounters l.initial.store l.store
