use Rattle.std.proofs.Common.{sym, ◌∙◌}
use Rattle.std.proofs.lemmas.Str.{chars-nil}
use Rattle.rp_decl.proofs.Paths.{path_of-Root}
use Rattle.rp_decl.proofs.path.Path.+keys.Goals as goal

pub returns-in-Root : goal.returns-in-Root
returns-in-Root t c = rw (c.new.ensures.bytes, c.in-Root.is) (chars-nil ∙ sym path_of-Root)
