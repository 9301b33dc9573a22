use Rattle.std.proofs.Common.{◌≡◌, ◌≤◌, drop}
use Rattle.rp_ops.specs.Outcome.{state_of}
use Rattle.rp_methods.specs.Lists.{counted}
use Rattle.rp_methods.proofs.search.count_of.Given as goal

-- what is left to count answers for the whole
abbrev pub invariant-loop-element : goal.invariant-loop-element
invariant-loop-element l = record {
  same : counted 0 l.a l.elements (state_of l.store l.initial.meter.left) ≡ counted l.count l.a (drop l.element-index l.elements) (state_of l.store l.meter.left);
  within : l.count ≤ l.element-index;
  fewer : l.meter.left ≤ l.initial.meter.left;
}
