use Rattle.rp_native.proofs.calls.more_given.Goals as goal

pub returns-in-Min-clause-sound : goal.returns-in-Min-clause-sound
returns-in-Min-clause-sound c = c.chosen.ensures.sound c.args.store.now.heap c.requires.sound

pub returns-in-Max-clause-sound : goal.returns-in-Max-clause-sound
returns-in-Max-clause-sound c = c.chosen-in-Max.ensures.sound c.args.store.now.heap c.requires.sound
