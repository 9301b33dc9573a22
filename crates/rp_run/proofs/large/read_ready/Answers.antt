use Rattle.rp_run.proofs.LargeSteps.{never_failed}
use Rattle.rp_run.proofs.large.read_ready.Goals as goal

pub returns-clause-unfailed : goal.returns-clause-unfailed
returns-clause-unfailed c = never_failed c.make_ready.result c.make_ready.ensures.failed
