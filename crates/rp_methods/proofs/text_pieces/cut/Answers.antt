use Rattle.rp_methods.proofs.Pieces.{cut-missing}
use Rattle.rp_methods.proofs.text_pieces.cut.Goals as goal

pub returns-in-None-clause-cut : goal.returns-in-None-clause-cut
returns-in-None-clause-cut c = cut-missing c.args.part.now c.args.text.now c.utf8.part c.utf8.text c.in-None.ensures.cases
