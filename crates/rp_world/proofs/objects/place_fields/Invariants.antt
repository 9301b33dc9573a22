use Rattle.std.proofs.Common.{◌≡◌, [], drop}
use Rattle.std.specs.List.{All}
use Rattle.rp_store.specs.Kept.{IsSound}
use Rattle.rp_store.specs.Shape.{KeepsShape}
use Rattle.rp_world.specs.PlacingSteps.{fields_placed}
use Rattle.rp_world.proofs.objects.place_fields.Given as goal

abbrev pub invariant-loop-name : goal.invariant-loop-name
invariant-loop-name l = record {
  placed : fields_placed (drop l.name-index l.declared) (l.fields, l.store) ≡ fields_placed l.declared ([], l.initial.store);
  sound : All (λ field. IsSound l.store.heap field.1) l.fields;
  shape : KeepsShape l.initial.store.heap l.store.heap;
}
