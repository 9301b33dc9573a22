use Rattle.rp_methods.proofs.dict_keys.setdefault.Goals as goal

pub set_default-requires-clause-default : goal.set_default-requires-clause-default
set_default-requires-clause-default c = c.default_in.ensures.sound c.args.store.now.heap c.requires.args tt
