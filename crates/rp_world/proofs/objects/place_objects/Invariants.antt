use Rattle.std.proofs.Common.{◌≡◌, drop}
use Rattle.rp_store.specs.Shape.{KeepsShape}
use Rattle.rp_world.specs.PlacingSteps.{AreBound, objects_placed}
use Rattle.rp_world.proofs.objects.place_objects.Given as goal

abbrev pub invariant-loop-object : goal.invariant-loop-object
invariant-loop-object l = record {
  placed : objects_placed l.decl.classes (drop l.object-index l.object-items) (l.slots.items, l.store)
      ≡ objects_placed l.decl.classes l.decl.objects (l.initial.slots.items, l.initial.store);
  bound : AreBound l.store.heap l.slots.items;
  shape : KeepsShape l.initial.store.heap l.store.heap;
}
