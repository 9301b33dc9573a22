use Rattle.std.proofs.Common.{◌≡◌, ◌+◌, ◌*◌, ◌≤◌, length}
use Rattle.std.specs.List.{zip}
use Rattle.std.specs.Slice.Iter.{iter_rest}
use Rattle.std.specs.Iterator.Adapters.{zip_first, zip_second}
use Rattle.rp_ops.specs.Outcome.{state_of}
use Rattle.rp_compare.specs.Equality.{all_equal, entry_equal, equal, pair_equal}
use Rattle.rp_compare.proofs.equality.+equality.Given as goal

-- each call goes down in depth, or in rank at the same depth; what is held lies one deeper than what holds it
abbrev pub decreases-equal_values : goal.decreases-equal_values
decreases-equal_values l = 6 * l.depth + 3

abbrev pub decreases-equal_objects : goal.decreases-equal_objects
decreases-equal_objects l = 6 * l.depth + 2

abbrev pub decreases-equal_contents : goal.decreases-equal_contents
decreases-equal_contents l = 6 * l.depth + 1

abbrev pub decreases-equal_elements : goal.decreases-equal_elements
decreases-equal_elements l = 6 * l.depth + 6

abbrev pub decreases-equal_entries : goal.decreases-equal_entries
decreases-equal_entries l = 6 * l.depth + 6

abbrev pub decreases-equal_found : goal.decreases-equal_found
decreases-equal_found l = 6 * l.depth + 5

abbrev pub decreases-equal_pair : goal.decreases-equal_pair
decreases-equal_pair l = 6 * l.depth + 4

-- what is left to compare answers for the whole
abbrev pub invariant-equal_elements-loop-x : goal.invariant-equal_elements-loop-x
invariant-equal_elements-loop-x l = record {
  can_next : (goal.iterator-equal_elements-loop-x).can_next l.x-iterator;
  is_finite : (goal.iterator-equal_elements-loop-x).is_finite l.x-iterator;
  same : all_equal (pair_equal (equal l.depth)) (zip l.xs l.ys) (state_of l.store l.initial.meter.left)
      ≡ all_equal (pair_equal (equal l.depth)) (zip (iter_rest (zip_first l.x-iterator)) (iter_rest (zip_second l.x-iterator))) (state_of l.store l.meter.left);
  fewer : l.meter.left ≤ l.initial.meter.left;
}

abbrev pub invariant-equal_entries-loop-key : goal.invariant-equal_entries-loop-key
invariant-equal_entries-loop-key l = record {
  same : all_equal (entry_equal (equal l.depth) l.fs) l.es (state_of l.store l.initial.meter.left) ≡ all_equal (entry_equal (equal l.depth) l.fs) l.walk (state_of l.store l.meter.left);
  fewer : l.meter.left ≤ l.initial.meter.left;
}

abbrev pub decreases-equal_entries-loop-key : goal.decreases-equal_entries-loop-key
decreases-equal_entries-loop-key l = length l.walk
