use Rattle.rp_ops.proofs.binary_operators.operate.Goals as goal

pub returns-in_default-clause-sound : goal.returns-in_default-clause-sound
returns-in_default-clause-sound c = c.calculate.ensures.sound c.args.store.now.heap
