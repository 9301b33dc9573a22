use Rattle.std.proofs.Common.{append_assoc, rules}
use Rattle.std.specs.Str.{chars}
use Rattle.rp_trail.proofs.trail.Trail.line.Goals as goal

pub returns : goal.returns
unfolding chars
returns c = search (rules, append_assoc)
