use Rattle.std.proofs.Common.{sym, ap, ◌∙◌, subst}
use Rattle.rp_base.specs.declared.value.Value.{Value}
use Rattle.std.specs.Prelude.{List}
use Rattle.rp_frame.specs.Top.{below, top}
use Rattle.rp_engine.proofs.AtHand.{below_ready}
use Rattle.rp_engine.proofs.Doings.{held_as}
use Rattle.rp_engine.specs.Does as does
use Rattle.rp_engine.specs.Law.{frame_in}
use Rattle.rp_engine.specs.LoopSteps.{walked}
use Rattle.rp_access.specs.Moment.{state_of}
use Rattle.rp_engine.specs.Ready.{IsReady}
use Rattle.rp_engine.specs.Rest.{did}
use Rattle.rp_access.specs.Spots.{cursor_at}
use Rattle.rp_targets.proofs.looping.walk_on.Goals as goal

pub walk_turn-requires-clause-ready : goal.walk_turn-requires-clause-ready
walk_turn-requires-clause-ready c =
    let m = c.args.machine.now in
    subst (λ (vs : List Value). IsReady m.units.now m.frame vs c.args.world.now) (sym c.pop-value.ensures.left) (below_ready m.units.now m.frame m.values c.args.world.now c.requires.ready)

pub returns-clause-law : goal.returns-clause-law
returns-clause-law c =
    let m = c.args.machine.now in
    let s = state_of c.args.world.now in
    let store = does.target c.args.each.target.now in
    let body = does.inside c.args.each.inside in
    held_as m c.walk_turn.new.machine c.walk_turn.new.world c.walk_turn.result
    (λ base. did (frame_in base m) (below m.values) (walked c.args.turns store body (cursor_at (top m.values) c.args.spot) (frame_in base m) s))
    (λ base. did (frame_in base m) c.pop-value.new.self (walked c.args.turns store body (cursor_at c.pop-value.result c.args.spot) (frame_in base m) s))
    (λ base. ap (λ (us : List Value). did (frame_in base m) us (walked c.args.turns store body (cursor_at (top m.values) c.args.spot) (frame_in base m) s)) (sym c.pop-value.ensures.left)
    ∙ ap (λ (v : Value). did (frame_in base m) c.pop-value.new.self (walked c.args.turns store body (cursor_at v c.args.spot) (frame_in base m) s)) (sym c.pop-value.ensures.value)) c.walk_turn.ensures.law
