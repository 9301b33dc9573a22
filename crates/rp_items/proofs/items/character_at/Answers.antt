use Rattle.rp_items.proofs.items.character_at.Goals as goal

pub returns-in-Some-clause-sound : goal.returns-in-Some-clause-sound
returns-in-Some-clause-sound c = c.new_character.ensures.sound c.new_character.new.store.heap
