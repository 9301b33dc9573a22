use Rattle.rp_native.proofs.zips.element.Goals as goal

pub returns-in-Ok-None-clause-sound : goal.returns-in-Ok-None-clause-sound
returns-in-Ok-None-clause-sound c = c.not_walked.ensures.sound c.next.new.store.heap
