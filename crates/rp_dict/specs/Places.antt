-- The pairs of a hash table whose places are keys and marks.
use Rattle.std.specs.Prelude.{◌≡◌, ℕ, ◌<◌, ◌+◌, Bool, true, false, List, [], ◌∷◌, Option, None, Some}
use Rattle.std.specs.Option.{option_map}
use Rattle.rp_dict.specs.declared.slot.Slot.{Slot}
use Rattle.rp_dict.specs.declared.slot.Slot.TheVariants.{Live, Dead}

abbrev pub flat : {V : Type 0} → Option (Option V) → Option V
flat None = None
flat (Some v) = v

abbrev pub is_live : {K : Type 0} → Slot K → Bool
is_live (Live k) = true
is_live (Dead m) = false

abbrev pub dead_at : {K : Type 0} → Slot K → ℕ
dead_at (Live k) = 0
dead_at (Dead m) = 1

module _ {K V : Type 0} where
  -- the pair at a place, before those of the places after it
  abbrev pub before : Slot K → Option V → List (K × V) → List (K × V)
  before (Live k) (Some v) ps = (k, v) ∷ ps
  before (Live k) None ps = ps
  before (Dead m) v ps = ps

  -- the pairs, in order
  abbrev pub live : List (Slot K × Option V) → List (K × V)
  live [] = []
  live (e ∷ es) = before e.0 e.1 (live es)

  -- a key has a value; a mark has none, and its number was given out before
  abbrev pub Fits : ℕ → Slot K → Option V → Type 0
  Fits next (Live k) (Some v) = Unit {0}
  Fits next (Live k) None = ⊥
  Fits next (Dead m) (Some v) = ⊥
  Fits next (Dead m) None = m < next

  abbrev pub AreKept : ℕ → List (Slot K × Option V) → Type 0
  AreKept next [] = Unit {0}
  AreKept next (e ∷ es) = Fits next e.0 e.1 × AreKept next es

  -- how many marks there are
  abbrev pub dead_count : List (Slot K × Option V) → ℕ
  dead_count [] = 0
  dead_count (e ∷ es) = dead_at e.0 + dead_count es

  -- what is true of the places of a table
  pub record AreCounted (next dead : ℕ) (es : List (Slot K × Option V)) : Type 0 where
    pub kept : AreKept next es
    pub counted : dead ≡ dead_count es

-- a place whose value has another second part
abbrev pub second_changed : {K A B : Type 0} → B → Slot K × Option (A × B) → Slot K × Option (A × B)
second_changed value e = (e.0, option_map (λ pair. (pair.0, value)) e.1)
