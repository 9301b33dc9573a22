use Rattle.std.proofs.Common.{◌≡◌, ℕ, List, chars, drop, length}
use Rattle.rp_store.specs.Heap.{Owned}
use Rattle.rp_show.specs.Show.{printed}
use Rattle.rp_show.specs.ShowView.{KeepsRoom, added, moment}
use Rattle.rp_show.proofs.purse.Purse.charge_each.Given as goal

-- what is charged so far, and what is left to charge
abbrev pub invariant-loop-c : goal.invariant-loop-c
invariant-loop-c l =
    ((heap : List Owned) (steps : ℕ) → printed (chars l.text) (moment heap l.initial.self steps) ≡ added l.yielded (printed (drop (length l.yielded) (chars l.text)) (moment heap l.self steps)))
    × KeepsRoom l.initial.self l.self
