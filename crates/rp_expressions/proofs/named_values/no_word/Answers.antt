use Rattle.std.specs.Str.{chars}
use Rattle.rp_expressions.proofs.named_values.no_word.Goals as goal

pub returns : goal.returns
unfolding chars
returns c = c.new.ensures
