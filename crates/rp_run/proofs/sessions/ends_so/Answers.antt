use Rattle.rp_run.proofs.Blocks.{ends-nowhere, ends-there}
use Rattle.rp_run.proofs.sessions.ends_so.Goals as goal

pub returns-in-Some : goal.returns-in-Some
returns-in-Some c =
    ends-there c.args.status c.end_status.result.0 c.args.session.now c.in-Some.end c.in-Some.is
    c.end_status.ensures

pub returns-in-None : goal.returns-in-None
returns-in-None c = ends-nowhere c.args.status c.args.session.now c.in-None.is
