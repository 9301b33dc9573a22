use Rattle.std.proofs.Common.{◌≡◌, ◌+◌, ◌≤◌}
use Rattle.rp_dict.specs.Ranks.{rank}
use Rattle.rp_dict.proofs.ranks.pairs_in.Given as goal

abbrev pub invariant-loop-place : goal.invariant-loop-place
invariant-loop-place g l = (rank l.map.entries l.fn.from + l.count ≡ rank l.map.entries l.place) × (l.count + l.fn.from ≤ l.place)
