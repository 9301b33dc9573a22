use Rattle.std.proofs.Common.{rules}
use Rattle.std.proofs.lemmas.Str.{chars-nil}
use Rattle.rp_show.proofs.object_names.class_word.Goals as goal

pub returns-in_default : goal.returns-in_default
returns-in_default c = rw chars-nil (search rules)
