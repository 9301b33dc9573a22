use Rattle.std.proofs.Common.{◌≡◌, ℕ, [], drop}
use Rattle.rp_store.specs.Counters.{KeepsCounters}
use Rattle.rp_store.specs.Kept.{AreSound}
use Rattle.rp_store.specs.Shape.{KeepsShape}
use Rattle.rp_ops.specs.Outcome.{state_of}
use Rattle.rp_methods.specs.Dicts.{tuples_listed}
use Rattle.rp_methods.specs.Classes.{AddsNoClass}
use Rattle.rp_methods.proofs.dict_pairs.make_tuples.Given as goal

-- what is left to make answers for the whole
abbrev pub invariant-loop-rock : goal.invariant-loop-rock
invariant-loop-rock l = record {
  same : (steps : ℕ) → tuples_listed l.side l.entries [] (state_of l.initial.store steps) ≡ tuples_listed l.side (drop l.rock-index l.entries) l.made.items (state_of l.store steps);
  made : AreSound l.store.heap l.made.items;
  shape : KeepsShape l.initial.store.heap l.store.heap;
  classes : AddsNoClass l.initial.store.heap l.store.heap;
  counters : KeepsCounters l.initial.store l.store;
}
