use Rattle.std.proofs.Common.{refl}
use Rattle.rp_engine.proofs.Doings.{pushed_with}
use Rattle.rp_engine.specs.Does as does
use Rattle.rp_engine.specs.LoopSteps.{each_turn, turn_before}
use Rattle.rp_access.specs.Spots.{cursor_at}
use Rattle.rp_targets.proofs.looping.turn_with.Goals as goal

pub returns-clause-law : goal.returns-clause-law
returns-clause-law c =
    let m = c.args.machine.now in
    let w = c.args.world.now in
    let store = does.target c.args.each.target.now in
    let body = does.inside c.args.each.inside in
    let v = c.args.value in
    pushed_with m c.each_turn.new.machine w c.each_turn.new.world c.each_turn.result _ c.push-2.new.self
    (turn_before c.args.behind store body (cursor_at v c.args.spot) c.args.element) (each_turn store body c.args.element) v c.push.new.self
    c.in_ok-push.ensures.pushed c.in_ok-push-2.ensures.pushed (λ base. refl) c.each_turn.ensures.law
