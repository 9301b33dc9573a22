use Rattle.std.proofs.Common.{◌≡◌, ℕ, chars, drop, length}
use Rattle.rp_store.specs.Counters.{KeepsCounters}
use Rattle.rp_ops.specs.Outcome.{state_of}
use Rattle.rp_show.specs.Show.{printed}
use Rattle.rp_show.specs.ShowView.{added}
use Rattle.rp_native.proofs.print.charge_text.Given as goal

-- what is charged so far, and what is left to charge
abbrev pub invariant-loop-letter : goal.invariant-loop-letter
invariant-loop-letter l =
    ((steps : ℕ) → printed (chars l.text) (state_of l.initial.store steps) ≡ added l.yielded (printed (drop (length l.yielded) (chars l.text)) (state_of l.store steps)))
    × (l.store.heap ≡ l.initial.store.heap)
    × KeepsCounters l.initial.store l.store
