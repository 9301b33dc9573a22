use Rattle.std.proofs.Common.{ap, length}
use Rattle.rp_step.proofs.runner.Runner.count_plain.Goals as goal

pub returns : goal.returns
returns c = ap length c.plain_args.ensures
