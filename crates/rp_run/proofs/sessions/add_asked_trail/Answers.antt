use Rattle.std.proofs.Common.{◌≡◌, ◌∙◌, ap, map}
use Rattle.rp_run.proofs.Blocks.{trail-left, trail-told}
use Rattle.rp_run.specs.Output.{trail_text}
use Rattle.rp_trail.specs.View.{trail_view}
use Rattle.rp_words.specs.View.{pair_view}
use Rattle.rp_run.proofs.sessions.add_asked_trail.Goals as goal

pub returns-then-not-asked : goal.returns-then-not-asked
returns-then-not-asked c = trail-left c.args.text.now _ c.args.command.now.trail c.if-not-asked.true

pub returns : goal.returns
returns c =
    let world = c.args.world.now in
    let pairs = c.args.command.now.pairs.items in
    trail-told c.add_trail.result c.args.text.now _
    (trail_text (map pair_view pairs) (trail_view world.names world.decl.permissions world.trail))
    c.args.command.now.trail c.if-not-asked.false (rw c.as_slice.ensures.value at c.add_trail.ensures)
