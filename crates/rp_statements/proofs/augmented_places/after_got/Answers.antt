use Rattle.rp_engine.specs.Does as does
use Rattle.rp_engine.specs.SpecialSteps.{from_got}
use Rattle.rp_statements.proofs.Resumings.{two_taken}
use Rattle.rp_statements.proofs.augmented_places.after_got.Goals as goal

pub returns-clause-law : goal.returns-clause-law
returns-clause-law c =
    two_taken c.item_by.new.machine c.args.world.now c.item_by.new.world c.item_by.result c.args.machine.now c.at_hand-i.new.self c.at_hand-o.new.self c.at_hand-i.result c.at_hand-o.result
    (λ i o. from_got o i c.args.op (does.expr c.args.value.now) c.args.a) c.at_hand-i.ensures.left c.at_hand-o.ensures.left c.at_hand-i.ensures.value c.at_hand-o.ensures.value
    c.item_by.ensures.law
