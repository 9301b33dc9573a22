use Rattle.std.proofs.Common.{◌≡◌, length}
use Rattle.rp_unwind.specs.Innermost.{next}
use Rattle.rp_unwind.proofs.handlers.Handlers.next.Given as goal

abbrev pub invariant-loop-handler : goal.invariant-loop-handler
invariant-loop-handler l = next l.leaving l.initial.self ≡ next l.leaving l.self

abbrev pub decreases-loop-handler : goal.decreases-loop-handler
decreases-loop-handler l = length l.self
