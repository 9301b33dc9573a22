use Rattle.rp_ops.specs.Outcome as plain
use Rattle.rp_ops.specs.Walk.{next_of}
use Rattle.rp_access.proofs.Going.{Comes-lifted}
use Rattle.rp_access.proofs.WalkSteps.{element_took}
use Rattle.rp_access.proofs.Walked.{heaped_faithful}
use Rattle.rp_access.specs.Moment.{state_of}
use Rattle.rp_access.specs.Spots.{cursor_at, next_at}
use Rattle.rp_access.proofs.walking.plain_next.Goals as goal

pub returns-clause-law : goal.returns-clause-law
returns-clause-law c =
    let w = c.args.world.now in
    Comes-lifted (next_at c.args.value.now c.value_next.result) (state_of w) (plain.state_of c.value_next.new.store c.value_next.new.meter.left)
    (next_of (cursor_at c.args.value.now c.args.spot) (plain.state_of w.store w.running.meter.left)) c.value_next.ensures.plain

pub returns-clause-faithful : goal.returns-clause-faithful
returns-clause-faithful c = heaped_faithful c.args.world.now c.value_next.new.store c.value_next.new.meter c.value_next.ensures.heap c.requires.faithful

pub returns-clause-took : goal.returns-clause-took
returns-clause-took c =
    let w = c.args.world.now in
    element_took c.value_next.result c.args.value.now (cursor_at c.args.value.now c.args.spot) (plain.state_of w.store w.running.meter.left)
    (plain.state_of c.value_next.new.store c.value_next.new.meter.left) c.value_next.ensures.plain
