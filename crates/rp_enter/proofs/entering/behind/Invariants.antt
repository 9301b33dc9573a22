use Rattle.std.proofs.Common.{◌≡◌, ◌∷◌, take}
use Rattle.rp_enter.proofs.entering.behind.Given as goal

abbrev pub invariant-loop-arg : goal.invariant-loop-arg
invariant-loop-arg l = l.all.items ≡ l.fn.receiver ∷ take l.arg-index l.args
