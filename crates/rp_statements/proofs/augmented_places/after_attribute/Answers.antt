use Rattle.rp_engine.specs.AugmentSteps.{attribute_augmented}
use Rattle.rp_statements.proofs.Resumings.{two_taken}
use Rattle.rp_statements.proofs.augmented_places.after_attribute.Goals as goal

pub returns-clause-law : goal.returns-clause-law
returns-clause-law c =
    two_taken c.set_augmented.new.machine c.args.world.now c.set_augmented.new.world c.set_augmented.result c.args.machine.now c.at_hand-a.new.self c.at_hand-o.new.self c.at_hand-a.result
    c.at_hand-o.result (λ a o. attribute_augmented o c.args.name c.args.op a c.args.b) c.at_hand-a.ensures.left c.at_hand-o.ensures.left c.at_hand-a.ensures.value
    c.at_hand-o.ensures.value c.set_augmented.ensures.law
