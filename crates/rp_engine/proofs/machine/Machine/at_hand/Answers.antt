use Rattle.rp_engine.proofs.AtHand.{below_ready}
use Rattle.rp_engine.proofs.machine.Machine.at_hand.Goals as goal

pub returns-clause-ready : goal.returns-clause-ready
returns-clause-ready c = λ w h. rw c.pop.ensures.left (below_ready c.args.self.now.units.now c.args.self.now.frame c.args.self.now.values w h)
