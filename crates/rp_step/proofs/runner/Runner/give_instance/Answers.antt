use Rattle.std.proofs.Common.{◌≡◌, ◌+◌, suc, arith, ap}
use Rattle.rp_expressions.proofs.Callings.{fit_dropped, ready_dropped}
use Rattle.rp_engine.proofs.Doings.{always}
use Rattle.rp_step.proofs.Instancing.{instance_given}
use Rattle.rp_engine.specs.HandSteps.{size_of}
use Rattle.rp_engine.specs.declared.machine.Machine.{Machine}
use Rattle.rp_step.proofs.RunWeights.{given_under}
use Rattle.rp_step.specs.RunLoads.{waits}
use Rattle.rp_step.proofs.runner.Runner.give_instance.Goals as goal

pub returns-clause-law : goal.returns-clause-law
returns-clause-law c =
    let more : c.size.result + 1 ≡ suc (size_of c.args.hand) = omega (arith, c.size.ensures) in
    instance_given c.args.self.now c.forget.new.self c.back.new.self c.args.world.now (size_of c.args.hand) (c.size.result + 1) c.args.at c.args.lent c.back.result c.given-value.result c.forget.ensures more
    c.given-value.ensures.value c.back.ensures.law

pub returns-clause-ready : goal.returns-clause-ready
returns-clause-ready c =
    let r = c.args.self.now in
    let w = c.args.world.now in
    let more : c.size.result + 1 ≡ suc (size_of c.args.hand) = omega (arith, c.size.ensures) in
    always c.back.result _ (record {
      machine = c.back.ensures.ready w
          (ready_dropped r.machine c.forget.new.self c.back.new.self c.back.result (size_of c.args.hand) (c.size.result + 1) c.forget.ensures more w c.requires.ready.machine)
          (fit_dropped r.machine c.forget.new.self c.back.new.self c.back.result (size_of c.args.hand) (c.size.result + 1) c.forget.ensures more w c.given-value.result c.given-value.ensures.fit);
      callers = c.requires.ready.callers;
    })

pub returns-clause-less : goal.returns-clause-less
returns-clause-less c =
    let r = c.args.self.now in
    given_under c.back.result r.machine c.forget.new.self c.back.new.self (waits r.callers.items) (ap (λ (m : Machine). m.tasks) c.forget.ensures) c.back.ensures.less
