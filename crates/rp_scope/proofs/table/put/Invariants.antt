use Rattle.std.proofs.Common.{◌≡◌}
use Rattle.rp_scope.proofs.table.put.Given as goal

abbrev pub invariant-tries : goal.invariant-tries
invariant-tries l = l.cells ≡ l.fn.cells
