use Rattle.rp_methods.proofs.NoClasses.{no_class-removed}
use Rattle.rp_methods.proofs.sequences.drop_at.Goals as goal

pub returns-clause-classes : goal.returns-clause-classes
returns-clause-classes c = no_class-removed c.args.store.now c.remove_at-removed.new.self c.args.at c.args.place c.remove_at-removed.ensures.removed
