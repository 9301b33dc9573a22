use Rattle.rp_engine.proofs.Doings.{always}
use Rattle.rp_step.proofs.Runs.{cuts, over_ready}
use Rattle.std.proofs.Common.{ap}
use Rattle.rp_engine.specs.declared.machine.Machine.{Machine}
use Rattle.rp_step.proofs.RunWeights.{gets_cut}
use Rattle.rp_step.specs.RunLoads.{waits}
use Rattle.rp_step.proofs.runner.Runner.cut.Goals as goal

pub returns-clause-law : goal.returns-clause-law
returns-clause-law c =
    always c.go.result _ (cuts c.args.self.now.machine c.take_over.new.machine c.args.self.now.callers.items c.args.caller c.take_over.ensures c.go.new.self c.go.ensures.law)

pub returns-clause-ready : goal.returns-clause-ready
returns-clause-ready c = λ w h waits. record {
  machine = c.go.ensures.ready w (over_ready c.args.self.now.machine c.take_over.new.machine c.args.self.now.callers.items c.args.caller c.take_over.ensures w waits);
  callers = h.callers;
}

pub returns-clause-less : goal.returns-clause-less
returns-clause-less c =
    always c.go.result _ (gets_cut c.go.new.self c.take_over.new.machine c.args.caller.tasks (waits c.args.self.now.callers.items) (ap (λ (m : Machine). m.tasks) c.take_over.ensures) c.go.ensures.less)
