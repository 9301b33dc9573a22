use Rattle.std.proofs.Common.{◌≡◌, ◌-◌, drop, length}
use Rattle.rp_dict.specs.Places.{live}
use Rattle.rp_dict.proofs.walk.next_pair.Given as goal

-- the places so far are marks
abbrev pub invariant-loop-at : goal.invariant-loop-at
invariant-loop-at g l = live (drop l.at l.map.entries) ≡ live (drop l.fn.place l.map.entries)

abbrev pub decreases-loop-at : goal.decreases-loop-at
decreases-loop-at g l = length l.map.entries - l.at
