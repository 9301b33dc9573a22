use Rattle.std.proofs.Common.{◌≡◌, ◌++◌, length}
use Rattle.std.specs.Vec.Iter.{into_iter_items, into_iter_len}
use Rattle.rp_store.specs.Counters.{KeepsCounters}
use Rattle.rp_store.specs.Kept.{AreSound}
use Rattle.rp_native.specs.Tables.{numbered, references, with_tuples}
use Rattle.rp_native.proofs.tables.add_pairs.Given as goal

-- the tuples of the values so far, the references to them, and the values that are left
abbrev pub invariant-loop-value : goal.invariant-loop-value
invariant-loop-value l = (l.yielded ++ into_iter_items l.value-iterator ≡ into_iter_items l.initial.value-iterator)
    × (into_iter_len l.value-iterator ≡ length (into_iter_items l.value-iterator))
    × (l.store ≡ with_tuples l.side (numbered 0 l.yielded) l.initial.store)
    × (l.tuples.items ≡ references (length l.initial.store.heap) (length l.yielded))
    × AreSound l.store.heap l.tuples.items
    × AreSound l.store.heap (into_iter_items l.value-iterator)
    × KeepsCounters l.initial.store l.store
