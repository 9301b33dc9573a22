use Rattle.std.proofs.Common.{◌≡◌, ◌+◌, suc, ap, arith}
use Rattle.rp_engine.proofs.Doings.{does_as}
use Rattle.rp_engine.specs.Does as does
use Rattle.rp_engine.specs.Law.{frame_in}
use Rattle.rp_engine.specs.LoopSteps.{all_turns, walked}
use Rattle.rp_access.specs.Moment.{state_of}
use Rattle.rp_access.specs.Spots.{cursor_at}
use Rattle.rp_targets.proofs.looping.first_turn.Goals as goal

pub returns-clause-law : goal.returns-clause-law
returns-clause-law c =
    let m = c.args.machine.now in
    let w = c.args.world.now in
    let store = does.target c.args.each.target.now in
    let body = does.inside c.args.each.inside in
    let d = cursor_at c.args.value c.args.spot in
    let left = w.running.meter.left in
    let e : left + 1 ≡ suc left = omega arith in
    does_as m c.next_element.new.machine w c.next_element.new.world c.next_element.result (all_turns store body d) (walked (suc left) store body d) w
    (λ base. ap (λ n. walked n store body d (frame_in base m) (state_of w)) e) c.next_element.ensures.law
