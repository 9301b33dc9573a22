use Rattle.rp_decl.proofs.Documents.{AreAscending-nil}
use Rattle.rp_decl.proofs.reading.records_at.Goals as goal

pub returns-in-None-clause-ordered : goal.returns-in-None-clause-ordered
returns-in-None-clause-ordered g c = rw (← c.in-None.ensures) AreAscending-nil
