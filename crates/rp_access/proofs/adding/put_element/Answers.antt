use Rattle.rp_ops.specs.Outcome as plain
use Rattle.rp_access.proofs.Additions.{put_named}
use Rattle.rp_access.proofs.Going.{Comes-lifted}
use Rattle.rp_access.proofs.Naming.{stored_same}
use Rattle.rp_access.specs.Adding.{put}
use Rattle.rp_access.specs.Moment.{state_of}
use Rattle.rp_access.proofs.adding.put_element.Goals as goal

pub returns-clause-law : goal.returns-clause-law
returns-clause-law c =
    let w = c.args.world.now in
    let left = w.running.meter.left in
    Comes-lifted c.put.result (state_of w) (plain.state_of c.put.new.store left) (put c.args.at c.args.value (plain.state_of w.store left)) (c.put.ensures.plain left)

pub returns-clause-faithful : goal.returns-clause-faithful
returns-clause-faithful c =
    let w = c.args.world.now in
    stored_same w c.put.new.store 0 c.put.result (put c.args.at c.args.value (plain.state_of w.store 0)) (c.put.ensures.plain 0)
    (put_named w.names c.args.at c.args.value (plain.state_of w.store 0) c.requires.faithful.classes) c.put.ensures.same c.requires.faithful
