use Rattle.std.proofs.Common.{◌∷◌, map, refl}
use Rattle.rp_meaning.specs.Statements as forms
use Rattle.rp_engine.proofs.Doings.{pushed}
use Rattle.rp_engine.specs.Does as does
use Rattle.rp_targets.proofs.places.delete_first.Goals as goal

pub returns-clause-law : goal.returns-clause-law
returns-clause-law c =
    pushed c.args.machine.now c.delete.new.machine c.args.world.now c.delete.new.world c.delete.result _ c.push.new.self
    (forms.block (does.delete c.args.place.now ∷ map does.delete c.args.rest.now)) (does.delete c.args.place.now) c.in_ok-push.ensures.pushed
    (λ base. refl) c.delete.ensures.law
