use Rattle.std.proofs.Common.{ap}
use Rattle.rp_store.specs.Object as object
use Rattle.rp_enter.proofs.Entered.{made_comes, made_faithful, no_field}
use Rattle.rp_enter.proofs.entering.new_instance.Goals as goal

pub make_instance-requires-clause-holds : goal.make_instance-requires-clause-holds
make_instance-requires-clause-holds c = (c.requires.class, no_field c.args.world.now.store.heap _ c.new-fields.ensures)

pub returns-clause-law : goal.returns-clause-law
returns-clause-law c =
    let w = c.args.world.now in
    made_comes w c.make_instance.new.store c.make_instance.result c.args.owner _ _
    (ap (λ fields. object.instance c.args.class fields) c.new-fields.ensures) (c.make_instance.ensures.plain w.running.meter.left)

pub returns-clause-faithful : goal.returns-clause-faithful
returns-clause-faithful c =
    made_faithful c.args.world.now c.make_instance.new.store c.make_instance.result c.args.owner
    (object.instance c.args.class c.new-fields.result) tt c.make_instance.ensures.made c.make_instance.ensures.same c.requires.faithful
