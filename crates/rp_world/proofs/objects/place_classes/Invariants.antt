use Rattle.std.proofs.Common.{◌≡◌, drop}
use Rattle.rp_store.specs.Shape.{KeepsShape}
use Rattle.rp_world.specs.PlacingSteps.{AreBound, classes_placed}
use Rattle.rp_world.proofs.objects.place_classes.Given as goal

abbrev pub invariant-loop-class : goal.invariant-loop-class
invariant-loop-class l = record {
  placed : classes_placed (drop l.class-index l.classes) (l.slots.items, l.store) ≡ classes_placed l.classes (l.initial.slots.items, l.initial.store);
  bound : AreBound l.store.heap l.slots.items;
  shape : KeepsShape l.initial.store.heap l.store.heap;
}
