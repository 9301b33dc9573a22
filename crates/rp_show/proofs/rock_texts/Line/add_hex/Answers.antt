use Rattle.std.proofs.Common.{arith}
use Rattle.std.specs.Str.{chars}
use Rattle.std.proofs.lemmas.Grind.{common_steps}
use Rattle.rp_show.proofs.rock_texts.Line.add_hex.Goals as goal

pub returns : goal.returns
unfolding chars
returns c = grind (arith, common_steps)
