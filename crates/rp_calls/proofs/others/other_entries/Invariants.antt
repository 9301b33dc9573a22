use Rattle.std.proofs.Common.{◌≡◌, [], drop}
use Rattle.rp_calls.specs.Binding.{other_entries}
use Rattle.rp_calls.proofs.others.other_entries.Given as goal

abbrev pub invariant-loop-name : goal.invariant-loop-name
invariant-loop-name l = other_entries l.names l.plain l.entries (drop l.name-index l.named) ≡ other_entries l.names l.plain [] l.named
