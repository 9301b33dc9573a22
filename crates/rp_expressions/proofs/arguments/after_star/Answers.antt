use Rattle.std.proofs.Common.{◌∷◌}
use Rattle.rp_meaning.specs.Calls.{star_argument}
use Rattle.rp_expressions.proofs.Spreads.{plain_calls}
use Rattle.rp_engine.specs.ArgumentSteps.{known}
use Rattle.rp_engine.specs.Does as does
use Rattle.rp_expressions.proofs.arguments.after_star.Goals as goal

pub returns-clause-law : goal.returns-clause-law
returns-clause-law c =
    plain_calls c.args.machine.now c.after_later_star.new.machine c.args.world.now c.after_later_star.new.world c.after_later_star.result
    (star_argument (known c.args.value) ∷ does.args c.args.args.now) (does.trailers c.args.rest.now) c.args.count c.after_later_star.ensures.law
