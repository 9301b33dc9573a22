use Rattle.std.proofs.Common.{◌≡◌, ◌≤◌, List, map, vec_capacity, vec_len}
use Rattle.std.specs.List.{range_with_len}
use Rattle.rp_store.specs.Heap.{Owned}
use Rattle.rp_store.specs.Kept.{AreSound}
use Rattle.rp_native.specs.Ranges.{member}
use Rattle.rp_native.proofs.ranges.numbers.Given as goal

-- the numbers so far, and there is room for all
abbrev pub invariant-loop-m : goal.invariant-loop-m
invariant-loop-m l = (l.numbers.items ≡ map (member l.bounds) (range_with_len 0 l.m)) × ((heap : List Owned) → AreSound heap l.numbers.items)
    × (vec_len l.numbers ≡ l.m) × (l.count ≤ vec_capacity l.numbers)
