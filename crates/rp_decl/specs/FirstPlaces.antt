-- Where a name stands first among some.
use Rattle.std.specs.Prelude.{◌≡◌, ℕ, nat_eq, List, length, slice_index_or}
use Rattle.std.specs.List.{position_or_len}
use Rattle.rp_base.specs.declared.value.Name.{Name}

-- the first place of the name with this number among some names; as many as these are, where it is none of them
abbrev pub first_place : ℕ → List Name → ℕ
first_place number names = position_or_len (λ (name : Name). nat_eq number name.0) names

-- the table has it for each name, by its number
pub record AreFirstPlaces (names : List Name) (table : List ℕ) : Type 0 where
  pub each : (name : Name) → slice_index_or table name.0 (length names) ≡ first_place name.0 names
