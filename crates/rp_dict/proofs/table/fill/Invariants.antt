use Rattle.std.proofs.Common.{◌≡◌, ◌+◌, ◌≤◌, length}
use Rattle.indexmap.specs.IndexMap.{insert_all, spare}
use Rattle.rp_dict.specs.Places.{AreCounted, live}
use Rattle.rp_dict.proofs.table.fill.Given as goal

abbrev pub invariant-loop-key : goal.invariant-loop-key
invariant-loop-key g l =
    (live l.map.entries ≡ insert_all g.K.PartialEq.eq (live l.fn.map.entries) l.yielded) × (spare l.fn.map ≤ spare l.map + length l.yielded) × AreCounted 0 0 l.map.entries
