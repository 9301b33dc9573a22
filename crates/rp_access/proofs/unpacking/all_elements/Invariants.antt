use Rattle.std.proofs.Common.{◌≡◌, ◌≤◌, ◌-◌, length}
use Rattle.rp_meaning.specs.Frame.{Frame}
use Rattle.rp_meaning.specs.Statements.{exactly}
use Rattle.rp_proxy.specs.Faithful.{IsFaithful}
use Rattle.rp_store.specs.Kept.{AreFit}
use Rattle.rp_store.specs.Shape.{KeepsShape}
use Rattle.rp_access.specs.Moment.{decided_frame, state_of}
use Rattle.rp_access.specs.Spots.{cursor_at}
use Rattle.rp_access.specs.Unpacking.{exactly_behind}
use Rattle.rp_access.proofs.unpacking.all_elements.Given as goal

-- what is left to be taken answers for the whole
abbrev pub invariant-loop : goal.invariant-loop
invariant-loop l = record {
  same : (frame : Frame) → frame.side ≡ l.side → exactly l.count (cursor_at l.value l.initial.spot) (decided_frame frame) (state_of l.initial.world)
      ≡ exactly_behind l.elements.items (l.count - l.counter) (cursor_at l.value l.spot) (decided_frame frame) (state_of l.world);
  taken : length l.elements.items ≡ l.counter;
  faithful : IsFaithful l.world;
  shape : KeepsShape l.initial.world.store.heap l.world.store.heap;
  fit : AreFit l.world.store.heap l.side l.elements.items;
  fewer : l.world.running.meter.left ≤ l.initial.world.running.meter.left;
}
