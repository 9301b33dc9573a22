use Rattle.rp_methods.proofs.NoClasses.{no_class-removed}
use Rattle.rp_methods.proofs.list_takes.take_out.Goals as goal

pub returns-clause-classes : goal.returns-clause-classes
returns-clause-classes c = no_class-removed c.args.store.now c.remove_at.new.self c.args.at c.args.place c.remove_at.ensures.removed
