use Rattle.std.proofs.Common.{◌≡◌, ◌≤◌, drop}
use Rattle.rp_proxy.specs.Faithful.{IsFaithful}
use Rattle.rp_store.specs.Shape.{KeepsShape}
use Rattle.rp_access.specs.CallSteps.{all_asked}
use Rattle.rp_access.specs.Moment.{state_of}
use Rattle.rp_access.proofs.functions.ask_all.Given as goal

-- what is left to be asked answers for the whole
abbrev pub invariant-loop-value : goal.invariant-loop-value
invariant-loop-value l = record {
  same : all_asked l.name l.values (state_of l.initial.world) ≡ all_asked l.name (drop l.value-index l.values) (state_of l.world);
  faithful : IsFaithful l.world;
  shape : KeepsShape l.initial.world.store.heap l.world.store.heap;
  fewer : l.world.running.meter.left ≤ l.initial.world.running.meter.left;
}
