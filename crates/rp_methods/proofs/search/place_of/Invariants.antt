use Rattle.std.proofs.Common.{◌≡◌, ◌≤◌, drop}
use Rattle.rp_ops.specs.Outcome.{state_of}
use Rattle.rp_methods.specs.Lists.{sought}
use Rattle.rp_methods.proofs.search.place_of.Given as goal

-- what is left to search answers for the whole
abbrev pub invariant-loop-place : goal.invariant-loop-place
invariant-loop-place l = record {
  same : sought 0 l.a l.elements (state_of l.store l.initial.meter.left) ≡ sought l.place l.a (drop l.place l.elements) (state_of l.store l.meter.left);
  fewer : l.meter.left ≤ l.initial.meter.left;
}
