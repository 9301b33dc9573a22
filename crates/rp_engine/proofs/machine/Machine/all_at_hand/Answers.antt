use Rattle.rp_engine.proofs.Lasts.{taken_fit, taken_ready}
use Rattle.rp_engine.proofs.machine.Machine.all_at_hand.Goals as goal

pub returns-clause-ready : goal.returns-clause-ready
returns-clause-ready c = λ w h.
    taken_ready c.take.result c.args.self.now.units.now c.args.self.now.frame c.args.count c.args.self.now.values c.take.new.self w c.take.ensures.left c.take.ensures.same h

pub returns-clause-fit : goal.returns-clause-fit
returns-clause-fit c = λ w h. taken_fit c.take.result c.args.self.now.units.now c.args.self.now.frame c.args.count c.args.self.now.values w c.take.ensures.taken h
