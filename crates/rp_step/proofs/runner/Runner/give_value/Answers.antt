use Rattle.rp_step.proofs.Runs.{gives_on}
use Rattle.std.proofs.Common.{ap}
use Rattle.rp_engine.specs.declared.machine.Machine.{Machine}
use Rattle.rp_step.proofs.RunWeights.{gets_value}
use Rattle.rp_step.specs.RunLoads.{waits}
use Rattle.rp_step.proofs.runner.Runner.give_value.Goals as goal

pub returns-clause-law : goal.returns-clause-law
returns-clause-law c =
    gives_on c.args.self.now.machine c.take_over.new.machine c.args.self.now.callers.items c.args.caller c.take_over.ensures c.back.new.self c.args.world.now c.back.result c.args.value c.given-value.result
    c.given-value.ensures.value c.back.ensures.law

pub returns-clause-less : goal.returns-clause-less
returns-clause-less c =
    gets_value c.back.result c.back.new.self c.take_over.new.machine c.args.caller.tasks (waits c.args.self.now.callers.items) (ap (λ (m : Machine). m.tasks) c.take_over.ensures) c.back.ensures.less
