use Rattle.std.proofs.Common.{◌≡◌, ◌≤◌, drop}
use Rattle.rp_methods.specs.Dicts.{new_keys}
use Rattle.rp_methods.proofs.dict_pairs.new_keys.Given as goal

-- what is left to count answers for the whole
abbrev pub invariant-loop-rock : goal.invariant-loop-rock
invariant-loop-rock l = record {
  same : new_keys l.store.heap l.at 0 l.entries ≡ new_keys l.store.heap l.at l.count (drop l.rock-index l.entries);
  within : l.count ≤ l.rock-index;
}
