use Rattle.std.proofs.Common.{◌≡◌, ◌<◌, ◌≤◌, ℕ, get_or, length}
use Rattle.rp_decl.specs.FirstPlaces.{first_place}
use Rattle.rp_decl.proofs.FirstNoted.{noted_or_left}
use Rattle.rp_decl.proofs.name_table.note_all.Given as goal

-- what is noted, and what is left to note
abbrev pub invariant-loop-place : goal.invariant-loop-place
invariant-loop-place l = record {
  within : l.place ≤ length l.names;
  as_many : length l.places ≡ length l.initial.places;
  noted : (number : ℕ) → number < length l.initial.places
      → noted_or_left number l.place l.names (get_or l.places number (length l.names)) ≡ first_place number l.names;
}
