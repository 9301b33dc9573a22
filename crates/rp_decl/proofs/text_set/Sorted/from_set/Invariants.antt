use Rattle.std.proofs.Common.{◌≡◌}
use Rattle.rp_decl.proofs.text_set.Sorted.from_set.Given as goal

abbrev pub invariant-loop-text : goal.invariant-loop-text
invariant-loop-text l = l.texts.items ≡ l.yielded
