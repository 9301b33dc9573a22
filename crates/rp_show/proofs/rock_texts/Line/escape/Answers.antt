use Rattle.std.proofs.Common.{arith}
use Rattle.std.specs.Str.{chars}
use Rattle.std.proofs.lemmas.Grind.{common_steps}
use Rattle.rp_show.proofs.rock_texts.Line.escape.Goals as goal

pub returns-in-10 : goal.returns-in-10
unfolding chars
returns-in-10 c = grind (arith, common_steps)

pub returns-in-13 : goal.returns-in-13
unfolding chars
returns-in-13 c = grind (arith, common_steps)

pub returns-in-9 : goal.returns-in-9
unfolding chars
returns-in-9 c = grind (arith, common_steps)
