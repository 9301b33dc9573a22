use Rattle.std.proofs.Common.{ap, length, ◌∙◌}
use Rattle.rp_step.proofs.runner.Runner.count_named.Goals as goal

pub returns : goal.returns
returns c = ap length (c.as_slice.ensures.value ∙ c.in_ok-named.ensures)
