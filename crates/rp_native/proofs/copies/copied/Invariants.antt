use Rattle.std.proofs.Common.{◌≡◌, ◌++◌, length, map}
use Rattle.rp_native.specs.Copies.{entry_handed}
use Rattle.rp_native.proofs.copies.copied.Given as goal

-- what is copied so far, and what is left to copy
abbrev pub invariant-loop-key : goal.invariant-loop-key
invariant-loop-key l = l.copy ++ map (entry_handed l.lent) l.rest ≡ map (entry_handed l.lent) l.entries

abbrev pub decreases-loop-key : goal.decreases-loop-key
decreases-loop-key l = length l.rest
