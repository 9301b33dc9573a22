-- Links from place to place that are taken away where none leads to the place that they come from.
use Rattle.std.specs.Prelude.{◌≡◌, ℕ, ◌<◌, true, List, length, nat_lt, slice_index_or, slice_set, if◌then◌else◌, Option, None, Some, is_some}
use Rattle.std.specs.List.{count_by}
use Rattle.rp_decl.specs.Ring.{is_place, is_reached, next}

-- the link of a place, where nothing is counted that leads there
abbrev pub free_link : List ℕ → List (Option ℕ) → ℕ → Option ℕ
free_link waits links place = if nat_lt 0 (slice_index_or waits place 0) then None else next links place

-- the links without the one of a place, if one was taken
abbrev pub without_link : List (Option ℕ) → ℕ → Option ℕ → List (Option ℕ)
without_link links place None = links
without_link links place (Some to) = slice_set links place None

-- to a place that has a link one leads
abbrev pub IsSettled : List (Option ℕ) → List ℕ → ℕ → Type 0
IsSettled links waits place = is_some (next links place) ≡ true → 0 < slice_index_or waits place 0

-- the links that are left of the first ones, all that are on rings among them, and how many of them lead to each place
pub record AreLeft (likes links : List (Option ℕ)) (waits : List ℕ) : Type 0 where
  pub as_many : length links ≡ length likes
  pub counted : (place : ℕ) → place < length likes → slice_index_or waits place 0 ≡ count_by (is_place place) links
  pub among : (place to : ℕ) → next links place ≡ Some to → next likes place ≡ Some to
  pub kept : (place : ℕ) → is_reached likes (length likes) place ≡ true → next links place ≡ next likes place
