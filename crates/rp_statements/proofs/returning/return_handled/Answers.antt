use Rattle.rp_statements.proofs.Handlings.{ended_fit, ended_ready, ended_return}
use Rattle.rp_engine.proofs.Worlds.{IsReady-goes}
use Rattle.rp_statements.proofs.returning.return_handled.Goals as goal

pub returns-clause-law : goal.returns-clause-law
returns-clause-law c =
    ended_return c.args.machine.now c.handle_before.new.machine c.handle_before.ensures c.returns.new.machine c.returns.result c.args.value c.unbind_as.new.world c.args.name c.args.world.now
    c.unbind_as.ensures.law c.returns.ensures.law

pub returns-clause-ready : goal.returns-clause-ready
returns-clause-ready c =
    let m = c.args.machine.now in
    let u = c.unbind_as.new.world in
    c.returns.ensures.ready u
    (ended_ready m c.handle_before.new.machine c.handle_before.ensures u (IsReady-goes _ _ _ c.args.world.now u c.requires.ready c.unbind_as.ensures.shape c.unbind_as.ensures.faithful))
    (ended_fit m c.handle_before.new.machine c.handle_before.ensures u c.args.value (c.unbind_as.ensures.shape.fit m.frame.side c.args.value c.requires.value))
