use Rattle.std.proofs.Common.{sym, ◌∙◌}
use Rattle.rp_decl.proofs.Laws.{least-none}
use Rattle.rp_decl.proofs.read.check_roles.Goals as goal

pub returns-in-None-clause-ok : goal.returns-in-None-clause-ok
returns-in-None-clause-ok c = least-none _ (sym c.in-None.is ∙ c.in_ok-id.ensures)
