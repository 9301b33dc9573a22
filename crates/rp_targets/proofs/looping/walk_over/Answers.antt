use Rattle.rp_engine.proofs.Doings.{does_as, does_end}
use Rattle.rp_targets.proofs.Walked.{over_ends, over_gives}
use Rattle.rp_engine.proofs.Worlds.{IsReady-goes}
use Rattle.rp_engine.specs.Does as does
use Rattle.rp_engine.specs.LoopSteps.{all_turns, over}
use Rattle.rp_access.specs.Spots.{cursor_at}
use Rattle.rp_store.proofs.CallerLemmas.{KeepsShape-trans}
use Rattle.rp_targets.proofs.looping.walk_over.Goals as goal

pub returns-in-Ok-clause-law : goal.returns-in-Ok-clause-law
returns-in-Ok-clause-law c =
    let m = c.args.machine.now in
    let w = c.args.world.now in
    let u = c.walk.new.world in
    let store = does.target c.args.each.target.now in
    let body = does.inside c.args.each.inside in
    let d = cursor_at c.args.value c.in-Ok.spot in
    does_as m c.first_turn.new.machine w c.first_turn.new.world c.first_turn.result (over store body c.args.value) (all_turns store body d) u
    (over_gives m w u store body c.args.value d c.in-Ok.ensures.law) c.first_turn.ensures.law

pub first_turn-requires-clause-ready : goal.first_turn-requires-clause-ready
first_turn-requires-clause-ready c = IsReady-goes _ _ _ c.args.world.now c.walk.new.world c.requires.ready c.walk.ensures.shape c.walk.ensures.faithful

pub first_turn-requires-clause-value : goal.first_turn-requires-clause-value
first_turn-requires-clause-value c = c.walk.ensures.shape.fit c.args.machine.now.frame.side c.args.value c.requires.value

pub returns-in-Err-clause-law : goal.returns-in-Err-clause-law
returns-in-Err-clause-law c =
    let m = c.args.machine.now in
    let w = c.args.world.now in
    let u = c.walk.new.world in
    let store = does.target c.args.each.target.now in
    let body = does.inside c.args.each.inside in
    does_end m c.cut_off.new.self w u c.cut_off.result (over store body c.args.value) c.in-Err.end
    (over_ends m w u store body c.args.value c.in-Err.end c.in-Err.ensures.law) c.cut_off.ensures.law

pub returns-in-Err-clause-ready : goal.returns-in-Err-clause-ready
returns-in-Err-clause-ready c =
    c.cut_off.ensures.ready c.walk.new.world (IsReady-goes _ _ _ c.args.world.now c.walk.new.world c.requires.ready c.walk.ensures.shape c.walk.ensures.faithful)

pub returns-in-Ok-clause-ready : goal.returns-in-Ok-clause-ready
returns-in-Ok-clause-ready c = c.first_turn.ensures.ready

pub returns-in-Ok-clause-shape : goal.returns-in-Ok-clause-shape
returns-in-Ok-clause-shape c = KeepsShape-trans _ _ _ c.walk.ensures.shape c.first_turn.ensures.shape

pub returns-in-Err-clause-shape : goal.returns-in-Err-clause-shape
returns-in-Err-clause-shape c = c.walk.ensures.shape
