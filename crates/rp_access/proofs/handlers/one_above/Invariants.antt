use Rattle.std.proofs.Common.{◌≡◌, false, drop}
use Rattle.rp_access.proofs.Excepted.{found_in}
use Rattle.rp_access.proofs.handlers.one_above.Given as goal

abbrev pub invariant-loop-value : goal.invariant-loop-value
invariant-loop-value l = found_in l.kind false l.values ≡ found_in l.kind l.found (drop l.value-index l.values)
