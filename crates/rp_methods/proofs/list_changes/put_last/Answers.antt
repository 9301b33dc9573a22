use Rattle.rp_methods.proofs.NoClasses.{no_class-extended}
use Rattle.rp_methods.proofs.list_changes.put_last.Goals as goal

pub returns-clause-classes : goal.returns-clause-classes
returns-clause-classes c = no_class-extended c.args.store.now c.extend.new.self c.args.at c.args.values.items _ c.in_ok-extend.ensures.extended
