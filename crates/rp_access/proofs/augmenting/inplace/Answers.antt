use Rattle.rp_ops.specs.Inplace.{inplace}
use Rattle.rp_ops.specs.Outcome as plain
use Rattle.rp_proxy.proofs.LaterStores.{with_store}
use Rattle.rp_access.proofs.Going.{Comes-lifted}
use Rattle.rp_access.proofs.Inplaces.{inplace_named}
use Rattle.rp_access.proofs.Naming.{stored}
use Rattle.rp_access.proofs.Worlds.{IsFaithful-metered}
use Rattle.rp_access.specs.Moment.{state_of}
use Rattle.rp_access.proofs.augmenting.inplace.Goals as goal

pub returns-clause-law : goal.returns-clause-law
returns-clause-law c =
    let w = c.args.world.now in
    Comes-lifted c.inplace.result (state_of w) (plain.state_of c.inplace.new.store c.inplace.new.meter.left)
    (inplace c.args.side c.args.op c.args.a.now c.args.b.now (plain.state_of w.store w.running.meter.left)) c.inplace.ensures.plain

pub returns-clause-faithful : goal.returns-clause-faithful
returns-clause-faithful c =
    let w = c.args.world.now in
    let s = plain.state_of w.store w.running.meter.left in
    IsFaithful-metered (with_store w c.inplace.new.store) c.inplace.new.meter
    (stored w c.inplace.new.store c.inplace.new.meter.left c.inplace.result (inplace c.args.side c.args.op c.args.a.now c.args.b.now s) c.inplace.ensures.plain
    (inplace_named w.names c.args.side c.args.op c.args.a.now c.args.b.now s c.requires.faithful.classes) c.inplace.ensures.same c.requires.faithful)
