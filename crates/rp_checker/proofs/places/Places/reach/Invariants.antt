use Rattle.std.proofs.Common.{◌≡◌, ◌-◌, ◌+◌, length}
use Rattle.rp_base.specs.declared.value.Name.{Name}
use Rattle.rp_checker.specs.Tables.{class_place}
use Rattle.rp_checker.proofs.places.Places.reach.Given as goal

abbrev pub invariant-loop-self : goal.invariant-loop-self
invariant-loop-self l = (other : Name) → class_place l.self-inside.each.items other ≡ class_place l.initial.self-inside.each.items other

abbrev pub decreases-loop-self : goal.decreases-loop-self
decreases-loop-self l = l.last + 1 - length l.self-inside.each.items
