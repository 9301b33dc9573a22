-- Rings of `like`, by the places of the classes.
use Rattle.std.specs.Prelude.{ℕ, suc, zero, Bool, false, ◌||◌, ◌==◌, List, Option, Some, slice_get, option_and_then}
use Rattle.std.specs.Option.{option_map_or}
use Rattle.rp_decl.specs.Order.{place_of}
use Rattle.rp_decl.specs.Records.{Class}

-- the place of the class that a class is like
abbrev pub like_place : List (List ℕ) → Class → Option ℕ
like_place names c = option_and_then (place_of names) c.like

-- the place that a place leads to
abbrev pub next : List (Option ℕ) → ℕ → Option ℕ
next likes place = option_and_then (λ like. like) (slice_get likes place)

-- the place so many steps on
abbrev pub follow_places : List (Option ℕ) → ℕ → ℕ → Option ℕ
follow_places likes zero place = Some place
follow_places likes (suc n) place = option_and_then (follow_places likes n) (next likes place)

abbrev pub is_place : ℕ → Option ℕ → Bool
is_place place found = option_map_or (λ p. p == place) found false

-- the place is reached again in so many steps, at most
abbrev pub is_reached : List (Option ℕ) → ℕ → ℕ → Bool
is_reached likes zero place = false
is_reached likes (suc n) place = is_place place (follow_places likes (suc n) place) || is_reached likes n place
