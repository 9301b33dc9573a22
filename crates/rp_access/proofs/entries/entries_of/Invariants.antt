use Rattle.std.proofs.Common.{◌≡◌, ◌*◌, [], drop}
use Rattle.rp_access.specs.Entries.{dict_from}
use Rattle.rp_access.proofs.entries.entries_of.Given as goal

-- what is left fills the dict as the whole does
abbrev pub invariant-loop-i : goal.invariant-loop-i
invariant-loop-i l = dict_from l.entries (drop (2 * l.i) l.elements) ≡ dict_from [] l.elements
