use Rattle.rp_engine.proofs.Moves.{on_ok}
use Rattle.rp_step.proofs.Runs.{goes_trans, machine_goes, runnable_goes}
use Rattle.rp_step.specs.Running.{GoesOn}
use Rattle.rp_step.specs.declared.runner.Runner.{Runner}
use Rattle.std.proofs.Common.{Ok, ap}
use Rattle.rp_step.proofs.RunWeights.{back_falls, enter_falls, machine_falls}
use Rattle.rp_step.proofs.runner.Runner.step.Goals as goal

pub returns-in-More-clause-law : goal.returns-in-More-clause-law
returns-in-More-clause-law c = machine_goes c.args.self.now c.step.new.machine c.args.world.now c.step.new.world c.in_ok-step.ensures.law

pub returns-in-More-clause-ready : goal.returns-in-More-clause-ready
returns-in-More-clause-ready c = runnable_goes c.args.self.now c.step.new.machine c.args.world.now c.step.new.world c.requires.ready c.step.ensures.ready c.step.ensures.shape

pub enter-requires-clause-ready : goal.enter-requires-clause-ready
enter-requires-clause-ready c = runnable_goes c.args.self.now c.step.new.machine c.args.world.now c.step.new.world c.requires.ready c.step.ensures.ready c.step.ensures.shape

pub returns-in_ok-enter-in-Call-clause-law : goal.returns-in_ok-enter-in-Call-clause-law
returns-in_ok-enter-in-Call-clause-law c =
    let r = c.args.self.now in
    let q : Runner = record r { machine = c.step.new.machine } in
    let w = c.args.world.now in
    let v = c.step.new.world in
    goes_trans r q c.enter.new.self w v c.enter.new.world (machine_goes r c.step.new.machine w v c.in_ok-step.ensures.law) c.in_ok-enter-in-Call.ensures.law

pub come_back-requires-clause-ready : goal.come_back-requires-clause-ready
come_back-requires-clause-ready c = runnable_goes c.args.self.now c.step.new.machine c.args.world.now c.step.new.world c.requires.ready c.step.ensures.ready c.step.ensures.shape

pub returns-in-Ended-clause-law : goal.returns-in-Ended-clause-law
returns-in-Ended-clause-law c =
    let r = c.args.self.now in
    let q : Runner = record r { machine = c.step.new.machine } in
    let w = c.args.world.now in
    let v = c.step.new.world in
    on_ok c.come_back.result (GoesOn q v c.come_back.new.self v) (GoesOn r w c.come_back.new.self v)
    (goes_trans r q c.come_back.new.self w v v (machine_goes r c.step.new.machine w v c.in_ok-step.ensures.law)) c.come_back.ensures.law

pub returns-in-More-clause-fell : goal.returns-in-More-clause-fell
returns-in-More-clause-fell c = λ h.
    machine_falls c.args.self.now c.step.new.machine c.args.world.now c.step.new.world c.step.ensures.fewer (c.in_ok-step.ensures.less (ap Ok c.in-More.is))

pub returns-in_ok-enter-in-Call-clause-fell : goal.returns-in_ok-enter-in-Call-clause-fell
returns-in_ok-enter-in-Call-clause-fell c = λ h.
    enter_falls c.args.self.now c.enter.new.self c.step.new.machine c.args.world.now c.step.new.world c.enter.new.world (c.in_ok-step.ensures.same (ap Ok c.in-Call.is))
    c.step.ensures.fewer c.enter.ensures.fewer c.in_ok-enter-in-Call.ensures.less

pub returns-in-Ended-clause-fell : goal.returns-in-Ended-clause-fell
returns-in-Ended-clause-fell c = λ h.
    back_falls c.args.self.now c.come_back.new.self c.step.new.machine c.args.world.now c.step.new.world (c.in_ok-step.ensures.load (ap Ok c.in-Ended.is))
    c.step.ensures.fewer (c.come_back.ensures.less h)
