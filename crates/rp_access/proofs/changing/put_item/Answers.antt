use Rattle.rp_ops.specs.Outcome as plain
use Rattle.rp_items.specs.Items as items
use Rattle.rp_access.proofs.Going.{Comes-lifted}
use Rattle.rp_access.proofs.Naming.{item_set_named, stored_same}
use Rattle.rp_access.specs.Moment.{state_of}
use Rattle.rp_access.proofs.changing.put_item.Goals as goal

pub returns-clause-law : goal.returns-clause-law
returns-clause-law c =
    let w = c.args.world.now in
    let left = w.running.meter.left in
    Comes-lifted c.set_item.result (state_of w) (plain.state_of c.set_item.new.store left) (items.set_item c.args.o.now c.args.key.now c.args.value (plain.state_of w.store left)) (c.set_item.ensures.plain left)

pub returns-clause-faithful : goal.returns-clause-faithful
returns-clause-faithful c =
    let w = c.args.world.now in
    stored_same w c.set_item.new.store 0 c.set_item.result (items.set_item c.args.o.now c.args.key.now c.args.value (plain.state_of w.store 0)) (c.set_item.ensures.plain 0)
    (item_set_named w.names c.args.o.now c.args.key.now c.args.value (plain.state_of w.store 0) c.requires.faithful.classes) c.set_item.ensures.same c.requires.faithful
