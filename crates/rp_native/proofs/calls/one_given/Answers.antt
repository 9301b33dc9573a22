use Rattle.rp_native.proofs.calls.one_given.Goals as goal

pub returns-in-Len-clause-sound : goal.returns-in-Len-clause-sound
returns-in-Len-clause-sound c = c.len.ensures.sound c.args.store.now.heap

pub returns-in-Bool-clause-sound : goal.returns-in-Bool-clause-sound
returns-in-Bool-clause-sound c = c.truth_value.ensures.sound c.args.store.now.heap

pub returns-in-Int-clause-sound : goal.returns-in-Int-clause-sound
returns-in-Int-clause-sound c = c.int.ensures.sound c.args.store.now.heap

pub returns-in-Abs-clause-sound : goal.returns-in-Abs-clause-sound
returns-in-Abs-clause-sound c = c.abs.ensures.sound c.args.store.now.heap

pub returns-in-RemoveSecurityProxy-clause-sound : goal.returns-in-RemoveSecurityProxy-clause-sound
returns-in-RemoveSecurityProxy-clause-sound c = c.plain_value.ensures.sound c.args.store.now.heap c.requires.sound
