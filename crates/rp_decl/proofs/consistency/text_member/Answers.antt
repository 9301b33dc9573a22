use Rattle.std.proofs.lemmas.Str.{chars-nil}
use Rattle.rp_decl.proofs.consistency.text_member.Goals as goal

pub returns-in-None : goal.returns-in-None
returns-in-None c = rw (← c.in-None.ensures) chars-nil
