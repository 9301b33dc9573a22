use Rattle.std.proofs.Common.{◌≡◌, take}
use Rattle.std.specs.Map.{lookup}
use Rattle.rp_base.specs.declared.value.Name.{Name}
use Rattle.rp_checker.specs.Lookup.{is_name}
use Rattle.rp_checker.specs.Tables.{class_place}
use Rattle.rp_checker.proofs.places.Places.new.Given as goal

abbrev pub invariant-loop-name : goal.invariant-loop-name
invariant-loop-name l = (other : Name) → class_place l.places other ≡ lookup (is_name other) (take l.name-index l.name-items)
