use Rattle.std.proofs.Common.{◌≡◌, ◌-◌, length}
use Rattle.rp_world.specs.PlacingSteps.{slots_to}
use Rattle.rp_world.proofs.exposing.fill_slots.Given as goal

abbrev pub decreases-loop-slots : goal.decreases-loop-slots
decreases-loop-slots l = l.locals - length l.slots.items

abbrev pub invariant-loop-slots : goal.invariant-loop-slots
invariant-loop-slots l = slots_to l.locals l.slots.items ≡ slots_to l.locals l.initial.slots.items
