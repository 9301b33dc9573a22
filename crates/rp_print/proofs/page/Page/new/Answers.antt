use Rattle.std.proofs.lemmas.Str.{chars-nil}
use Rattle.rp_print.proofs.page.Page.new.Goals as goal

pub returns : goal.returns
returns c = rw c.new.ensures.bytes chars-nil
