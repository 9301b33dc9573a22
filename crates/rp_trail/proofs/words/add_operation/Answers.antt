use Rattle.std.proofs.Common.{append_assoc, rules}
use Rattle.std.specs.Str.{chars}
use Rattle.rp_trail.proofs.words.add_operation.Goals as goal

pub told_name-requires : goal.told_name-requires
told_name-requires c = rw c.name_of.ensures c.requires.name

pub returns : goal.returns
unfolding chars
returns c = search (rules, append_assoc)
