use Rattle.rp_ops.specs.Outcome.{state_of}
use Rattle.rp_access.proofs.Letters.{no_letter}
use Rattle.rp_access.proofs.walking.letter_after.Goals as goal

pub returns-then-not-begins_at-clause-plain : goal.returns-then-not-begins_at-clause-plain
returns-then-not-begins_at-clause-plain c =
    no_letter c.args.text.now c.args.next (state_of c.args.store.now c.args.meter.now.left) (c.begins_at.ensures.off c.if-not-begins_at.true)
