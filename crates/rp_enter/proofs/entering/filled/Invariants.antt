use Rattle.std.proofs.Common.{◌≡◌, ◌++◌, replicate, None}
use Rattle.rp_enter.proofs.entering.filled.Given as goal

abbrev pub invariant-loop : goal.invariant-loop
invariant-loop l = l.slots.items ≡ l.initial.slots.items ++ replicate l.counter None
