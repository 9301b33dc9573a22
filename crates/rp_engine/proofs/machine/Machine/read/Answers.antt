use Rattle.std.proofs.Common.{sym, ap, subst}
use Rattle.rp_proxy.specs.Faithful.{IsFaithful}
use Rattle.rp_proxy.specs.declared.world.World.{World}
use Rattle.rp_engine.proofs.Worlds.{left_same, shape_stored}
use Rattle.rp_engine.specs.Ready.{IsReady}
use Rattle.rp_engine.proofs.machine.Machine.read.Goals as goal

pub returns-in-None-clause-faithful : goal.returns-in-None-clause-faithful
returns-in-None-clause-faithful c = subst IsFaithful (sym c.behind.ensures.same) c.requires.ready.faithful

pub returns-in-None-clause-store : goal.returns-in-None-clause-store
returns-in-None-clause-store c = ap (λ (v : World). v.store) c.behind.ensures.same

pub returns-in-None-clause-ready : goal.returns-in-None-clause-ready
returns-in-None-clause-ready c =
    let m = c.args.self.now in
    subst (λ (v : World). IsReady m.units.now m.frame m.values v) (sym c.behind.ensures.same) c.requires.ready

pub returns-in-None-clause-shape : goal.returns-in-None-clause-shape
returns-in-None-clause-shape c = shape_stored c.args.world.now.store c.behind.new.world.store (ap (λ (v : World). v.store) c.behind.ensures.same)

pub returns-in-None-clause-fewer : goal.returns-in-None-clause-fewer
returns-in-None-clause-fewer c = left_same c.args.world.now c.behind.new.world c.behind.ensures.same
