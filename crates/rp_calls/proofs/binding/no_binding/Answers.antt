use Rattle.std.specs.Str.{chars}
use Rattle.rp_calls.proofs.binding.no_binding.Goals as goal

pub returns : goal.returns
unfolding chars
returns c = c.raised.ensures
