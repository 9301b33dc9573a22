use Rattle.std.proofs.Common.{◌≡◌, ◌≤◌, drop}
use Rattle.rp_ops.specs.Outcome.{state_of}
use Rattle.rp_compare.specs.Membership.{found_in}
use Rattle.rp_compare.proofs.membership.is_among.Given as goal

-- what is left to search answers for the whole
abbrev pub invariant-loop-element : goal.invariant-loop-element
invariant-loop-element l = record {
  same : found_in l.a l.elements (state_of l.store l.initial.meter.left) ≡ found_in l.a (drop l.element-index l.elements) (state_of l.store l.meter.left);
  fewer : l.meter.left ≤ l.initial.meter.left;
}
