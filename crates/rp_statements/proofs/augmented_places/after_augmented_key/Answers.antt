use Rattle.rp_engine.specs.AugmentSteps.{key_from}
use Rattle.rp_engine.specs.Does as does
use Rattle.rp_statements.proofs.Resumings.{one_taken}
use Rattle.rp_statements.proofs.augmented_places.after_augmented_key.Goals as goal

pub returns-clause-law : goal.returns-clause-law
returns-clause-law c =
    one_taken c.augment_read_item.new.machine c.args.world.now c.augment_read_item.new.world c.augment_read_item.result c.args.machine.now c.at_hand-o.new.self c.at_hand-o.result
    (λ o. key_from o c.args.op (does.expr c.args.value.now) c.args.i) c.at_hand-o.ensures.left c.at_hand-o.ensures.value c.augment_read_item.ensures.law
