use Rattle.std.proofs.Common.{Some, None, Ok}
use Rattle.rp_ops.specs.Outcome.{state_of}
use Rattle.rp_access.proofs.Letters.{letter_meets}
use Rattle.rp_access.proofs.walking.letter_behind.Goals as goal

pub returns-in-Some-clause-plain : goal.returns-in-Some-clause-plain
returns-in-Some-clause-plain c =
    let h = rw c.in-Some.is at c.in_ok-letter.ensures.plain in
    letter_meets c.args.text.now c.args.next c.next_letter.new.next (Ok (Some c.in-Some.letter)) (state_of c.next_letter.new.store c.next_letter.new.meter.left)
    (state_of c.args.store.now c.args.meter.now.left) c.requires.boundary c.next_letter.ensures.boundary h

pub returns-in-None-clause-plain : goal.returns-in-None-clause-plain
returns-in-None-clause-plain c =
    let h = rw c.in-None.is at c.in_ok-letter.ensures.plain in
    letter_meets c.args.text.now c.args.next c.next_letter.new.next (Ok None) (state_of c.next_letter.new.store c.next_letter.new.meter.left)
    (state_of c.args.store.now c.args.meter.now.left) c.requires.boundary c.next_letter.ensures.boundary h
