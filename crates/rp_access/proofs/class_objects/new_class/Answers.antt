use Rattle.std.specs.Prelude.{false}
use Rattle.rp_ops.specs.Outcome as plain
use Rattle.rp_store.specs.Object.{class}
use Rattle.rp_access.proofs.ClassesMade.{makes_named}
use Rattle.rp_access.proofs.Going.{Comes-lifted}
use Rattle.rp_access.proofs.Naming.{stored_same}
use Rattle.rp_access.specs.Moment.{state_of}
use Rattle.rp_access.proofs.class_objects.new_class.Goals as goal

pub returns-clause-law : goal.returns-clause-law
returns-clause-law c =
    let w = c.args.world.now in
    let left = w.running.meter.left in
    Comes-lifted c.make_class.result (state_of w) (plain.state_of c.make_class.new.store left) (plain.makes c.args.side (class c.args.name false c.args.methods) (plain.state_of w.store left)) (c.make_class.ensures.plain left)

pub returns-clause-faithful : goal.returns-clause-faithful
returns-clause-faithful c =
    let w = c.args.world.now in
    let x = class c.args.name false c.args.methods in
    stored_same w c.make_class.new.store 0 c.make_class.result (plain.makes c.args.side x (plain.state_of w.store 0)) (c.make_class.ensures.plain 0)
    (makes_named w.names c.args.side x (plain.state_of w.store 0) tt c.requires.faithful.classes) c.make_class.ensures.same c.requires.faithful
