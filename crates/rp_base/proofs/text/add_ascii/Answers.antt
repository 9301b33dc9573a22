use Rattle.rp_base.proofs.Texts.{chars-ascii}
use Rattle.rp_base.proofs.text.add_ascii.Goals as goal

pub returns : goal.returns
returns c = rw (chars-ascii c.args.piece.now c.requires) at c.add.ensures.added
