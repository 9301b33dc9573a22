use Rattle.rp_methods.proofs.Blanks.{chars-trimmed}
use Rattle.rp_methods.proofs.text_makers.stripped.Goals as goal

pub returns : goal.returns
returns c = chars-trimmed c.args.text.now c.trim.result.now c.utf8.text c.trim.ensures.trim
