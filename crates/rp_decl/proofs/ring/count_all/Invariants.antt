use Rattle.std.proofs.Common.{◌≡◌, ◌<◌, ◌+◌, ℕ, count_by, drop, get_or, length}
use Rattle.rp_decl.specs.Ring.{is_place}
use Rattle.rp_decl.proofs.ring.count_all.Given as goal

-- what is counted, and what is left to count
abbrev pub invariant-loop-place : goal.invariant-loop-place
invariant-loop-place l = record {
  as_many : length l.waits ≡ length l.likes;
  counted : (other : ℕ) → other < length l.likes
      → get_or l.waits other 0 + count_by (is_place other) (drop l.place l.likes) ≡ count_by (is_place other) l.likes;
}
