use Rattle.std.proofs.Common.{refl}
use Rattle.rp_targets.proofs.Unpacked.{element_stored}
use Rattle.rp_engine.specs.Does as does
use Rattle.rp_targets.proofs.unpacking.store_element.Goals as goal

pub returns-clause-law : goal.returns-clause-law
returns-clause-law c =
    element_stored c.args.machine.now c.store_target.new.machine c.args.world.now c.store_target.new.world c.store_target.result _ c.args.behind.now (does.target c.args.target.now)
    (λ vs f s. refl) c.at_hand-element.new.self c.at_hand-element.result c.push.new.self c.at_hand-element.ensures.left c.at_hand-element.ensures.value c.in_ok-push.ensures.pushed c.store_target.ensures.law
