use Rattle.rp_methods.proofs.NoClasses.{no_class-pushed}
use Rattle.rp_methods.proofs.list_changes.push.Goals as goal

pub returns-clause-classes : goal.returns-clause-classes
returns-clause-classes c = no_class-pushed c.args.store.now c.push.new.self c.args.at c.args.x _ c.in_ok-push.ensures.pushed
