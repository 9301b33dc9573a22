use Rattle.rp_methods.proofs.dict_keys.pop.Goals as goal

pub pop_or-requires-clause-default : goal.pop_or-requires-clause-default
pop_or-requires-clause-default c = c.second.ensures.sound c.args.store.now.heap c.requires.args
