use Rattle.rp_methods.proofs.Listed.{sound-both}
use Rattle.rp_methods.proofs.NoClasses.{no_class-added}
use Rattle.rp_methods.proofs.dict_pairs.make_pair.Goals as goal

pub add-requires : goal.add-requires
add-requires c = sound-both c.args.store.now.heap c.in_ok-both.both.items c.args.rock.now c.args.value.now c.in_ok-both.ensures c.requires

pub returns-clause-classes : goal.returns-clause-classes
returns-clause-classes c = no_class-added c.args.store.now c.add.new.self c.args.side _ (λ h. h) c.in_ok-at.ensures.added
