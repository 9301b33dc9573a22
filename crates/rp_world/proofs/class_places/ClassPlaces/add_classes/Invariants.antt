use Rattle.std.proofs.Common.{◌≡◌, position, take}
use Rattle.std.specs.Map.{lookup}
use Rattle.std.specs.Option.{option_or}
use Rattle.rp_base.specs.declared.value.Name.{Name}
use Rattle.rp_store.specs.Key.{same_name}
use Rattle.rp_world.proofs.class_places.ClassPlaces.add_classes.Given as goal

abbrev pub invariant-loop-place : goal.invariant-loop-place
invariant-loop-place l = (name : Name) → lookup (same_name name) l.self ≡ option_or (lookup (same_name name) l.initial.self) (position (λ c. same_name name c.name) (take l.place l.classes))
