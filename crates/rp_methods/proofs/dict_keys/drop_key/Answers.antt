use Rattle.rp_methods.proofs.NoClasses.{no_class-dropped}
use Rattle.rp_methods.proofs.dict_keys.drop_key.Goals as goal

pub returns-clause-classes : goal.returns-clause-classes
returns-clause-classes c = no_class-dropped c.args.store.now c.drop_key-removed.new.self c.args.at c.args.key.now c.drop_key-removed.ensures.dropped
