use Rattle.std.proofs.Common.{◌≡◌, drop}
use Rattle.rp_native.specs.Extremes.{before, foremost}
use Rattle.rp_native.proofs.extremes.foremost.Given as goal

-- the first of all is that of the best so far and those that are left
abbrev pub invariant-loop-value : goal.invariant-loop-value
invariant-loop-value l = foremost (before l.which) l.fn.first l.rest ≡ foremost (before l.which) l.best (drop l.value-index l.rest)
