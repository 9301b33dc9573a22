-- The least of some places.
use Rattle.std.specs.Prelude.{ℕ, Bool, nat_lt, if◌then◌else◌, List, [], ◌∷◌, filter, map, Option, Some, None}

-- a place, or one that is lower
abbrev pub lower : Option ℕ → ℕ → ℕ
lower None place = place
lower (Some least) place = if nat_lt least place then least else place

-- the lower one, where the second counts
abbrev pub lowered : Option ℕ → Bool → ℕ → Option ℕ
lowered least counts place = if counts then Some (lower least place) else least

abbrev pub least_place : List ℕ → Option ℕ
least_place [] = None
least_place (place ∷ places) = Some (lower (least_place places) place)

-- the least place of what passes
abbrev pub least_of : {X : Type 0} → (X → Bool) → (X → ℕ) → List X → Option ℕ
least_of test place xs = least_place (map place (filter test xs))
