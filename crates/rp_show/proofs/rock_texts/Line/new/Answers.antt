use Rattle.std.proofs.lemmas.Str.{chars-nil}
use Rattle.rp_show.proofs.rock_texts.Line.new.Goals as goal

pub returns : goal.returns
returns c = rw c.new.ensures.bytes chars-nil
