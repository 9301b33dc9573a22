use Rattle.rp_show.proofs.Runs.{contains-holds}
use Rattle.rp_show.proofs.rock_texts.holds.Goals as goal

pub returns : goal.returns
returns c = contains-holds c.args.c c.args.text.now c.contains.result c.utf8.text c.requires c.contains.ensures.cases
