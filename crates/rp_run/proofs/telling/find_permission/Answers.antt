use Rattle.rp_run.proofs.Reasons.{among-None}
use Rattle.std.proofs.Common.{sym}
use Rattle.rp_run.proofs.telling.find_permission.Goals as goal

pub returns-in_ok-labelled-in-None-clause-refused : goal.returns-in_ok-labelled-in-None-clause-refused
returns-in_ok-labelled-in-None-clause-refused c =
    let said = c.in_ok-labelled-in-None.ensures in
    (among-None c.args.permissions.now c.args.id.now (sym c.in-None.ensures), said.0, said.1)
