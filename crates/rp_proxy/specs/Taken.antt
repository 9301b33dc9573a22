-- Values as code of a side gets them (zope.security, proxies).
use Rattle.std.specs.Prelude.{Bool, false, nat_eq, if◌then◌else◌, List}
use Rattle.std.specs.Option.{option_map_or}
use Rattle.rp_base.specs.declared.value.Oid.{Oid}
use Rattle.rp_base.specs.declared.value.Side.{Side}
use Rattle.rp_base.specs.declared.value.Value.{Value}
use Rattle.rp_base.specs.declared.value.Value.TheVariants as value
use Rattle.rp_store.specs.Heap.{Owned, owner_at}

-- the side owns the object
abbrev pub owns : List Owned → Side → Oid → Bool
owns heap side at = option_map_or (λ owner. nat_eq owner.0 side.0) (owner_at heap at) false

-- a script's own object plainly, and that of another as a proxy
abbrev pub reference_for : List Owned → Side → Oid → Value
reference_for heap side at = if owns heap side at then value.Ref at else value.Prox at

-- what a script gets: a rock as it is
abbrev pub taken_by_script : List Owned → Side → Value → Value
taken_by_script heap side (value.Rock rock) = value.Rock rock
taken_by_script heap side (value.Ref at) = reference_for heap side at
taken_by_script heap side (value.Prox at) = reference_for heap side at

-- trusted code gets each value as it is
abbrev pub taken : List Owned → Side → Value → Value
taken heap side v = if nat_eq side.0 0 then v else taken_by_script heap side v

-- the value without its proxy
abbrev pub bare : Value → Value
bare (value.Rock rock) = value.Rock rock
bare (value.Ref at) = value.Ref at
bare (value.Prox at) = value.Ref at
