use Rattle.std.proofs.Common.{◌≡◌, ◌+◌, ◌≤◌, drop}
use Rattle.rp_methods.proofs.Turns.{bytes_in}
use Rattle.rp_methods.proofs.text_lists.bytes_within.Given as goal

-- the bytes so far, and those of what is left
abbrev pub invariant-loop-value : goal.invariant-loop-value
invariant-loop-value l = record {
  whole : l.bytes + bytes_in (drop l.value-index l.values) ≡ bytes_in l.values;
  within : l.bytes ≤ l.room;
}
