use Rattle.rp_ops.proofs.augmentation.repeat_in_place.Goals as goal

pub returns-in-None-clause-sound : goal.returns-in-None-clause-sound
returns-in-None-clause-sound c = c.wrong_operand.ensures.sound c.args.store.now.heap
