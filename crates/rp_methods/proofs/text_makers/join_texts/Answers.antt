use Rattle.std.proofs.Common.{map, ◌∙◌}
use Rattle.rp_ops.specs.Outcome.{state_of}
use Rattle.rp_methods.specs.Texts.{joined, letters_of}
use Rattle.rp_methods.proofs.Turns.{text-over, text-same}
use Rattle.rp_methods.proofs.text_makers.join_texts.Goals as goal

pub returns-in_default-clause-plain : goal.returns-in_default-clause-plain
returns-in_default-clause-plain c =
    (λ steps. text-over (joined c.args.text.now (map letters_of c.args.values.now)) c.args.store.now steps c.room_in-room.result c.room_in-room.ensures (rw c.in_default.is at c.in_ok-made.ensures.over))

pub returns-clause-plain : goal.returns-clause-plain
returns-clause-plain c =
    (λ steps. text-same c.new_text.result (state_of c.args.store.now steps) (state_of c.new_text.new.store steps) (joined c.args.text.now (map letters_of c.args.values.now))
    c.as_str.result.now c.as_str.utf8 (c.as_str.ensures.value ∙ rw c.in-Some.is at c.in_ok-made.ensures.joined) (c.new_text.ensures.plain steps))
