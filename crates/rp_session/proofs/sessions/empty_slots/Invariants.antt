use Rattle.std.proofs.Common.{◌≡◌, ◌-◌, ◌≤◌, length}
use Rattle.rp_meaning.specs.Expressions.{empty_slots}
use Rattle.rp_session.proofs.sessions.empty_slots.Given as goal

abbrev pub decreases-loop-slots : goal.decreases-loop-slots
decreases-loop-slots l = l.count - length l.slots.items

abbrev pub invariant-loop-slots : goal.invariant-loop-slots
invariant-loop-slots l = record {
  few : length l.slots.items ≤ l.count;
  empty : l.slots.items ≡ empty_slots (length l.slots.items);
}
