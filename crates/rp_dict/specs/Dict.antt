-- Dicts as the lists of their pairs (Python Library Reference, "Mapping Types": a dict keeps the order of insertion).
-- `insert_entry eq pairs key value` gives a held key the value in its place, or puts a new one last.
pub use Rattle.indexmap.specs.IndexMap.{insert_entry}
use Rattle.std.specs.Prelude.{Bool, List, [], ◌∷◌, if◌then◌else◌}
use Rattle.std.specs.List.{IsDistinct}
use Rattle.std.specs.Map.{keys_of}

-- no two pairs have equal keys
abbrev pub HasDistinctKeys : {K V : Type 0} → (K → K → Bool) → List (K × V) → Type 0
HasDistinctKeys eq pairs = IsDistinct eq (keys_of pairs)

-- the pairs, where the first whose key passes has another second part of what it has
abbrev pub with_second : {K A B : Type 0} → (K → Bool) → B → List (K × (A × B)) → List (K × (A × B))
with_second test value [] = []
with_second test value (e ∷ es) = if test e.0 then (e.0, (e.1.0, value)) ∷ es else e ∷ with_second test value es
