use Rattle.std.proofs.Common.{◌≡◌, ◌∙◌, ap, chars, map, refl}
use Rattle.rp_trail.specs.View.{IsEntryHeld}
use Rattle.rp_words.specs.View.{pair_view}
use Rattle.rp_run.proofs.Trails.{entry-end, entry-held, entry-turn}
use Rattle.rp_run.proofs.sessions.add_entries.Goals as goal

pub line-requires-clause-held : goal.line-requires-clause-held
line-requires-clause-held c =
    let world = c.args.world.now in
    entry-held (IsEntryHeld world.names world.decl.permissions) c.entries-entries.result.now world.trail
    c.entries-entries.ensures c.requires.held c.loop-place.place _ c.loop-place-test.true

pub loop-place-preserved : goal.loop-place-preserved
loop-place-preserved c =
    let world = c.args.world.now in
    entry-turn (map pair_view c.args.pairs.now) world.names world.decl.permissions c.entries-entries.result.now
    world.trail c.entries-entries.ensures c.loop-place.place _ _ _ _ _ _ c.loop-place-test.true c.who_in-who.ensures
    (ap chars c.as_str.ensures.value ∙ c.in_ok-line.ensures) c.in_ok-add.ensures.added c.loop-place.invariant

pub returns : goal.returns
returns c =
    let world = c.args.world.now in
    entry-end (map pair_view c.args.pairs.now) world.names world.decl.permissions c.entries-entries.result.now
    world.trail c.entries-entries.ensures c.loop-place.place _ _ c.loop-place-test.false c.loop-place.invariant
