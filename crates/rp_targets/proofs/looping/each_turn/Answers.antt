use Rattle.std.proofs.Common.{ap}
use Rattle.rp_meaning.specs.Frame.{bind_name}
use Rattle.rp_meaning.specs.Statements.{Store}
use Rattle.rp_access.specs.Moment.{state_of}
use Rattle.rp_engine.specs.Law.{frame_in}
use Rattle.rp_engine.proofs.Doings.{does_as}
use Rattle.rp_engine.specs.Does as does
use Rattle.rp_engine.specs.LoopSteps.{each_turn}
use Rattle.rp_targets.proofs.looping.each_turn.Goals as goal

pub returns-in-Some-clause-law : goal.returns-in-Some-clause-law
returns-in-Some-clause-law c =
    let m = c.args.machine.now in
    let w = c.args.world.now in
    let body = does.inside c.args.each.inside in
    let v = c.args.element in
    does_as m c.turn_with_name.new.machine w c.turn_with_name.new.world c.turn_with_name.result
    (each_turn (does.target c.args.each.target.now) body v) (each_turn (bind_name c.in-Some.name) body v) w
    (λ base. ap (λ (store : Store). each_turn store body v (frame_in base m) (state_of w)) c.in-Some.ensures) c.turn_with_name.ensures.law
