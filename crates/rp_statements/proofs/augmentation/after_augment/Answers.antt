use Rattle.rp_engine.specs.AugmentSteps.{name_augmented}
use Rattle.rp_statements.proofs.Resumings.{one_taken}
use Rattle.rp_statements.proofs.augmentation.after_augment.Goals as goal

pub returns-clause-law : goal.returns-clause-law
returns-clause-law c =
    one_taken c.bind_augmented.new.machine c.args.world.now c.bind_augmented.new.world c.bind_augmented.result c.args.machine.now c.at_hand-a.new.self c.at_hand-a.result
    (λ a. name_augmented c.args.name c.args.op a c.args.b) c.at_hand-a.ensures.left c.at_hand-a.ensures.value c.bind_augmented.ensures.law
