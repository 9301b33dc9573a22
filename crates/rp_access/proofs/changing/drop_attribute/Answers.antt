use Rattle.rp_base.specs.Names.{word_of}
use Rattle.rp_ops.specs.Outcome as plain
use Rattle.rp_attributes.specs.Attributes as attributes
use Rattle.rp_access.proofs.Going.{Comes-lifted}
use Rattle.rp_access.proofs.Naming.{attribute_deleted_named, stored_same}
use Rattle.rp_access.specs.Moment.{state_of}
use Rattle.rp_access.proofs.changing.drop_attribute.Goals as goal

pub returns-clause-law : goal.returns-clause-law
returns-clause-law c =
    let w = c.args.world.now in
    let left = w.running.meter.left in
    Comes-lifted c.del_attribute.result (state_of w) (plain.state_of c.del_attribute.new.store left) (attributes.del_attribute c.args.o.now c.args.name (word_of c.args.world.now.names c.args.name) (plain.state_of w.store left)) (c.del_attribute.ensures.plain left)

pub returns-clause-faithful : goal.returns-clause-faithful
returns-clause-faithful c =
    let w = c.args.world.now in
    stored_same w c.del_attribute.new.store 0 c.del_attribute.result (attributes.del_attribute c.args.o.now c.args.name (word_of c.args.world.now.names c.args.name) (plain.state_of w.store 0)) (c.del_attribute.ensures.plain 0)
    (attribute_deleted_named w.names c.args.o.now c.args.name (word_of c.args.world.now.names c.args.name) (plain.state_of w.store 0) c.requires.faithful.classes) c.del_attribute.ensures.same c.requires.faithful
