use Rattle.std.specs.Str.{chars}
use Rattle.rp_step.proofs.Runs.{over_ready, refuses_init}
use Rattle.std.proofs.Common.{ap}
use Rattle.rp_engine.specs.declared.machine.Machine.{Machine}
use Rattle.rp_step.proofs.RunWeights.{gets_none}
use Rattle.rp_step.specs.RunLoads.{waits}
use Rattle.rp_step.proofs.runner.Runner.refuse_init.Goals as goal

pub returns-clause-law : goal.returns-clause-law
unfolding chars
returns-clause-law c =
    refuses_init c.args.self.now.machine c.take_over.new.machine c.args.self.now.callers.items c.args.caller c.take_over.ensures c.no_value.new.self c.no_value.result c.raised-end.result
    c.raised-end.ensures c.no_value.ensures.law

pub returns-clause-ready : goal.returns-clause-ready
returns-clause-ready c = λ w h waits. record {
  machine = c.no_value.ensures.ready w (over_ready c.args.self.now.machine c.take_over.new.machine c.args.self.now.callers.items c.args.caller c.take_over.ensures w waits);
  callers = h.callers;
}

pub returns-clause-less : goal.returns-clause-less
returns-clause-less c =
    gets_none c.no_value.result c.no_value.new.self c.take_over.new.machine c.args.caller.tasks (waits c.args.self.now.callers.items) (ap (λ (m : Machine). m.tasks) c.take_over.ensures) c.no_value.ensures.less
