use Rattle.std.proofs.Common.{◌≡◌, ◌≤◌, drop}
use Rattle.rp_store.specs.Counters.{KeepsCounters}
use Rattle.rp_ops.specs.Outcome.{state_of}
use Rattle.rp_show.specs.ShowView.{added}
use Rattle.rp_native.specs.Print.{further}
use Rattle.rp_native.proofs.print.print_further.Given as goal

-- what is printed so far, and what is left to print
abbrev pub invariant-loop-value : goal.invariant-loop-value
invariant-loop-value l =
    (added l.initial.line (further l.names l.args (state_of l.initial.store l.initial.meter.left))
    ≡ added l.line (further l.names (drop l.value-index l.args) (state_of l.store l.meter.left)))
    × (l.store.heap ≡ l.initial.store.heap)
    × (l.meter.left ≤ l.initial.meter.left)
    × KeepsCounters l.initial.store l.store
