use Rattle.std.proofs.Common.{◌≡◌, ◌-◌, suc, ap, arith}
use Rattle.rp_base.specs.declared.value.OpEnd.TheVariants as end
use Rattle.rp_engine.proofs.Doings.{does_as, does_end}
use Rattle.rp_engine.specs.Does as does
use Rattle.rp_engine.specs.Law.{frame_in}
use Rattle.rp_engine.specs.LoopSteps.{walked}
use Rattle.rp_access.specs.Moment.{state_of}
use Rattle.rp_access.specs.Spots.{cursor_at}
use Rattle.rp_targets.proofs.looping.walk_turn.Goals as goal

pub returns-then-turns-eq0-clause-law : goal.returns-then-turns-eq0-clause-law
returns-then-turns-eq0-clause-law c =
    let m = c.args.machine.now in
    let w = c.args.world.now in
    let store = does.target c.args.each.target.now in
    let body = does.inside c.args.each.inside in
    let d = cursor_at c.args.value c.args.spot in
    does_end m c.cut_off.new.self w w c.cut_off.result (walked c.args.turns store body d) end.StopSteps
    (λ base. ap (λ n. walked n store body d (frame_in base m) (state_of w)) c.if-turns-eq0.true) c.cut_off.ensures.law

pub returns-clause-law : goal.returns-clause-law
returns-clause-law c =
    let m = c.args.machine.now in
    let w = c.args.world.now in
    let store = does.target c.args.each.target.now in
    let body = does.inside c.args.each.inside in
    let d = cursor_at c.args.value c.args.spot in
    let e : c.args.turns ≡ suc (c.args.turns - 1) = omega arith in
    does_as m c.next_element.new.machine w c.next_element.new.world c.next_element.result (walked c.args.turns store body d) (walked (suc (c.args.turns - 1)) store body d) w
    (λ base. ap (λ n. walked n store body d (frame_in base m) (state_of w)) e) c.next_element.ensures.law
