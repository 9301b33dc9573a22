use Rattle.std.proofs.Common.{Option, ap}
use Rattle.rp_base.specs.declared.value.Raised.{Raised}
use Rattle.rp_step.proofs.runner.Runner.inner_frame.Goals as goal

pub returns : goal.returns
returns c = ap (λ (h : Option Raised). record c.args.self.now.machine.frame { block = c.args.parts.block; scope = c.args.scope; handling = h }) c.in_ok-handling.ensures
