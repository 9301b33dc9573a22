use Rattle.rp_base.specs.declared.value.Value.TheVariants as value
use Rattle.rp_step.proofs.Runs.{filled_fit, fills, over_ready}
use Rattle.std.proofs.Common.{ap}
use Rattle.rp_engine.specs.declared.machine.Machine.{Machine}
use Rattle.rp_step.proofs.RunWeights.{gets_value}
use Rattle.rp_step.specs.RunLoads.{waits}
use Rattle.rp_step.proofs.runner.Runner.give_filled.Goals as goal

pub returns-clause-law : goal.returns-clause-law
returns-clause-law c =
    fills c.args.self.now.machine c.take_over.new.machine c.args.self.now.callers.items c.args.caller c.take_over.ensures c.back.new.self c.back.result (value.Ref c.args.at) c.back.ensures.law

pub returns-clause-ready : goal.returns-clause-ready
returns-clause-ready c = λ w h waits is. record {
  machine = c.back.ensures.ready w (over_ready c.args.self.now.machine c.take_over.new.machine c.args.self.now.callers.items c.args.caller c.take_over.ensures w waits)
      (filled_fit c.args.self.now.machine c.take_over.new.machine c.args.self.now.callers.items c.args.caller c.take_over.ensures w c.args.at is waits);
  callers = h.callers;
}

pub returns-clause-less : goal.returns-clause-less
returns-clause-less c =
    gets_value c.back.result c.back.new.self c.take_over.new.machine c.args.caller.tasks (waits c.args.self.now.callers.items) (ap (λ (m : Machine). m.tasks) c.take_over.ensures) c.back.ensures.less
