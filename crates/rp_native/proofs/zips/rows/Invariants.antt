use Rattle.std.proofs.Common.{◌≡◌, ◌-◌, ◌≤◌, List, length}
use Rattle.std.specs.List.{All}
use Rattle.rp_base.specs.declared.value.Value.{Value}
use Rattle.rp_store.specs.Counters.{KeepsCounters}
use Rattle.rp_store.specs.Kept.{AreSound}
use Rattle.rp_ops.specs.Outcome.{state_of}
use Rattle.rp_ops.specs.Walk.{IsWalkHeld}
use Rattle.rp_native.specs.TableView.{rows_of}
use Rattle.rp_native.specs.Zips.{rows}
use Rattle.rp_native.proofs.ZipRows.{rows_behind}
use Rattle.rp_native.proofs.zips.rows.Given as goal

-- the rows so far, and what is left of them
abbrev pub invariant-loop : goal.invariant-loop
invariant-loop l = (rows l.count l.initial.walks (state_of l.initial.store l.initial.meter.left)
    ≡ rows_behind (rows_of l.rows.items) (rows (l.count - l.counter) l.walks (state_of l.store l.meter.left)))
    × (l.store.heap ≡ l.initial.store.heap)
    × All (IsWalkHeld l.store.heap) l.walks
    × (length l.walks ≡ length l.initial.walks)
    × All (λ (row : List Value). length row ≡ length l.initial.walks) (rows_of l.rows.items)
    × All (AreSound l.store.heap) (rows_of l.rows.items)
    × (l.meter.left ≤ l.initial.meter.left)
    × KeepsCounters l.initial.store l.store
