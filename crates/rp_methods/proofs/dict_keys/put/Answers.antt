use Rattle.rp_base.specs.declared.value.Value.TheVariants as value
use Rattle.rp_methods.proofs.Walked.{IsSound-dict}
use Rattle.rp_methods.proofs.NoClasses.{no_class-item}
use Rattle.rp_methods.proofs.dict_keys.put.Goals as goal

pub set_item-requires-clause-a : goal.set_item-requires-clause-a
set_item-requires-clause-a c = IsSound-dict c.args.store.now.heap c.args.at c.requires.dict

pub returns-clause-classes : goal.returns-clause-classes
returns-clause-classes c = no_class-item c.args.store.now c.set_item.new.store c.set_item.result (value.Ref c.args.at) (value.Rock c.in_ok-key.key) c.in_ok-value.value c.set_item.ensures.plain c.set_item.ensures.same
