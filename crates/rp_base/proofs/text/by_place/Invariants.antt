use Rattle.std.proofs.Common.{◌≡◌}
use Rattle.rp_base.proofs.text.by_place.Given as goal

-- the characters so far
abbrev pub invariant-loop-letter : goal.invariant-loop-letter
invariant-loop-letter l = l.letters.items ≡ l.yielded
