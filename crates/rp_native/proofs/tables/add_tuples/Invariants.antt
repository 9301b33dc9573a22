use Rattle.std.proofs.Common.{◌≡◌, ◌++◌, length}
use Rattle.std.specs.List.{All}
use Rattle.std.specs.Vec.Iter.{into_iter_items, into_iter_len}
use Rattle.rp_store.specs.Counters.{KeepsCounters}
use Rattle.rp_store.specs.Kept.{AreSound}
use Rattle.rp_native.specs.Tables.{references, with_tuples}
use Rattle.rp_native.specs.TableView.{rows_of}
use Rattle.rp_native.proofs.tables.add_tuples.Given as goal

-- the tuples of the rows so far, the references to them, and the rows that are left
abbrev pub invariant-loop-row : goal.invariant-loop-row
invariant-loop-row l = (l.yielded ++ into_iter_items l.row-iterator ≡ into_iter_items l.initial.row-iterator)
    × (into_iter_len l.row-iterator ≡ length (into_iter_items l.row-iterator))
    × (l.store ≡ with_tuples l.side (rows_of l.yielded) l.initial.store)
    × (l.tuples.items ≡ references (length l.initial.store.heap) (length l.yielded))
    × AreSound l.store.heap l.tuples.items
    × All (AreSound l.store.heap) (rows_of (into_iter_items l.row-iterator))
    × KeepsCounters l.initial.store l.store
