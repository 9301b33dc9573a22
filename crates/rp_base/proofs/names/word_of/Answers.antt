use Rattle.std.proofs.Common.{arith, sym, ◌∙◌, []}
use Rattle.std.proofs.lemmas.List.{get_or_past}
use Rattle.std.proofs.lemmas.Str.{chars-nil}
use Rattle.rp_base.proofs.names.word_of.Goals as goal

pub returns-else-name-len : goal.returns-else-name-len
returns-else-name-len c = chars-nil ∙ sym (get_or_past c.args.names.now c.args.name.0 [] (omega arith))
