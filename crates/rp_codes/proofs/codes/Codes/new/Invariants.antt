use Rattle.std.proofs.Common.{◌≡◌, replicate, None}
use Rattle.rp_codes.proofs.codes.Codes.new.Given as goal

abbrev pub invariant-loop : goal.invariant-loop
invariant-loop l = l.codes.items ≡ replicate l.counter None
