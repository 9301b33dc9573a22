use Rattle.rp_ops.specs.Outcome as plain
use Rattle.rp_access.proofs.ClassesMade.{renewed_named}
use Rattle.rp_access.proofs.Going.{Comes-lifted}
use Rattle.rp_access.proofs.Naming.{stored_same}
use Rattle.rp_access.specs.ClassObjects.{renewed_plainly}
use Rattle.rp_access.specs.Moment.{state_of}
use Rattle.rp_access.proofs.class_objects.renew_class.Goals as goal

pub returns-clause-law : goal.returns-clause-law
returns-clause-law c =
    let w = c.args.world.now in
    let left = w.running.meter.left in
    Comes-lifted c.put_methods.result (state_of w) (plain.state_of c.put_methods.new.store left) (renewed_plainly c.args.at c.args.methods (plain.state_of w.store left)) (c.put_methods.ensures.plain left)

pub returns-clause-faithful : goal.returns-clause-faithful
returns-clause-faithful c =
    let w = c.args.world.now in
    stored_same w c.put_methods.new.store 0 c.put_methods.result (renewed_plainly c.args.at c.args.methods (plain.state_of w.store 0)) (c.put_methods.ensures.plain 0)
    (renewed_named w.names c.args.at c.args.methods (plain.state_of w.store 0) c.requires.faithful.classes) c.put_methods.ensures.same c.requires.faithful
