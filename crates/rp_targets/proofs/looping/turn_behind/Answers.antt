use Rattle.std.proofs.Common.{sym}
use Rattle.rp_access.specs.Moment.{state_of}
use Rattle.rp_engine.specs.Law.{frame_in}
use Rattle.rp_engine.proofs.Doings.{pushed}
use Rattle.rp_engine.specs.Does as does
use Rattle.rp_engine.specs.LoopSteps.{each_turn}
use Rattle.rp_targets.proofs.looping.turn_behind.Goals as goal

pub returns-clause-law : goal.returns-clause-law
returns-clause-law c =
    let m = c.args.machine.now in
    let w = c.args.world.now in
    let store = does.target c.args.each.target.now in
    let body = does.inside c.args.each.inside in
    pushed m c.store_target.new.machine w c.store_target.new.world c.store_target.result _ c.push.new.self
    (each_turn store body c.args.element) (store c.args.element) c.in_ok-push.ensures.pushed
    (λ base. sym (c.inside_task-behind.ensures (frame_in base m) m.values (store c.args.element (frame_in base m) (state_of w)))) c.store_target.ensures.law
