use Rattle.rp_step.proofs.Entries.{refuses}
use Rattle.rp_engine.specs.HandSteps.{size_of}
use Rattle.rp_step.proofs.RunWeights.{refuse_under}
use Rattle.rp_step.specs.RunLoads.{waits}
use Rattle.rp_step.proofs.runner.Runner.refuse.Goals as goal

pub returns-clause-law : goal.returns-clause-law
returns-clause-law c = refuses c.args.self.now c.without_hand.new.machine c.without_hand.result (size_of c.args.hand) c.args.kind _ c.raised-end.result c.raised-end.ensures c.without_hand.ensures.law

pub returns-clause-ready : goal.returns-clause-ready
returns-clause-ready c = λ w h. record { machine = c.without_hand.ensures.ready w h.machine; callers = h.callers }

pub returns-clause-less : goal.returns-clause-less
returns-clause-less c =
    let r = c.args.self.now in
    refuse_under c.without_hand.result r.machine c.without_hand.new.machine (waits r.callers.items) c.without_hand.ensures.less
