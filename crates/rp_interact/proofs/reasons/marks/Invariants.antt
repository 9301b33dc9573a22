use Rattle.std.proofs.Common.{◌≡◌, ◌||◌, ◌<◌, ℕ, drop, false, get_or, length}
use Rattle.rp_interact.specs.ReasonsSteps.{has_place}
use Rattle.rp_interact.proofs.reasons.marks.Given as goal

abbrev pub invariant-loop-place : goal.invariant-loop-place
invariant-loop-place l =
    (length l.marks.items ≡ l.count)
    × ((other : ℕ) → other < l.count → (has_place (drop l.place-index l.places) other || get_or l.marks.items other false) ≡ has_place l.places other)
