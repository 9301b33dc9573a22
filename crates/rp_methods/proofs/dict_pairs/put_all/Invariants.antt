use Rattle.std.proofs.Common.{◌≡◌, ℕ, drop}
use Rattle.rp_store.specs.Counters.{KeepsCounters}
use Rattle.rp_store.specs.Shape.{KeepsShape}
use Rattle.rp_ops.specs.Outcome.{state_of}
use Rattle.rp_methods.specs.Dicts.{put_all}
use Rattle.rp_methods.specs.Classes.{AddsNoClass}
use Rattle.rp_methods.proofs.dict_pairs.put_all.Given as goal

-- what is left to put answers for the whole
abbrev pub invariant-loop-rock : goal.invariant-loop-rock
invariant-loop-rock l = record {
  same : (steps : ℕ) → put_all l.at l.entries (state_of l.initial.store steps) ≡ put_all l.at (drop l.rock-index l.entries) (state_of l.store steps);
  shape : KeepsShape l.initial.store.heap l.store.heap;
  classes : AddsNoClass l.initial.store.heap l.store.heap;
  counters : KeepsCounters l.initial.store l.store;
}
