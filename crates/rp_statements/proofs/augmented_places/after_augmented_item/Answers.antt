use Rattle.rp_engine.specs.AugmentSteps.{item_augmented}
use Rattle.rp_statements.proofs.Resumings.{three_taken}
use Rattle.rp_statements.proofs.augmented_places.after_augmented_item.Goals as goal

pub returns-clause-law : goal.returns-clause-law
returns-clause-law c =
    three_taken c.set_augmented_item.new.machine c.args.world.now c.set_augmented_item.new.world c.set_augmented_item.result c.args.machine.now c.at_hand-a.new.self c.at_hand-i.new.self
    c.at_hand-o.new.self c.at_hand-a.result c.at_hand-i.result c.at_hand-o.result (λ a i o. item_augmented o i c.args.op a c.args.b) c.at_hand-a.ensures.left c.at_hand-i.ensures.left
    c.at_hand-o.ensures.left c.at_hand-a.ensures.value c.at_hand-i.ensures.value c.at_hand-o.ensures.value c.set_augmented_item.ensures.law
