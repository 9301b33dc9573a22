use Rattle.rp_methods.proofs.dict_keys.get.Goals as goal

pub get_or-requires-clause-default : goal.get_or-requires-clause-default
get_or-requires-clause-default c = c.default_in.ensures.sound c.args.store.now.heap c.requires.args tt
