use Rattle.std.proofs.Common.{◌≡◌, ◌+◌}
use Rattle.rp_dict.specs.Ranks.{rank}
use Rattle.rp_dict.proofs.ranks.passed.Given as goal

abbrev pub invariant-loop-place : goal.invariant-loop-place
invariant-loop-place g l = rank l.map.entries l.place + l.left ≡ rank l.map.entries l.fn.from + l.fn.pairs
