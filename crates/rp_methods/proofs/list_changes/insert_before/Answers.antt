use Rattle.rp_methods.proofs.NoClasses.{no_class-inserted}
use Rattle.rp_methods.proofs.list_changes.insert_before.Goals as goal

pub returns-clause-classes : goal.returns-clause-classes
returns-clause-classes c = no_class-inserted c.args.store.now c.insert.new.self c.args.at c.args.place c.args.x _ c.in_ok-insert.ensures.inserted
