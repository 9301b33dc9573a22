use Rattle.rp_meaning.specs.State.{next}
use Rattle.rp_meaning.specs.Statements as forms
use Rattle.std.proofs.Common.{suc, arith}
use Rattle.rp_engine.proofs.Doings.{does_as, does_end, does_moves}
use Rattle.rp_targets.proofs.Walked.{turn_ends, turn_gives, turn_none}
use Rattle.rp_engine.proofs.Worlds.{IsReady-goes}
use Rattle.rp_engine.specs.Does as does
use Rattle.rp_engine.specs.LoopSteps.{turn_before, walked}
use Rattle.rp_access.specs.Spots.{cursor_at}
use Rattle.rp_store.proofs.CallerLemmas.{KeepsShape-trans}
use Rattle.rp_targets.proofs.looping.next_element.Goals as goal

pub returns-in-Ok-Some-clause-law : goal.returns-in-Ok-Some-clause-law
returns-in-Ok-Some-clause-law c =
    let m = c.args.machine.now in
    let w = c.args.world.now in
    let u = c.next_element.new.world in
    let store = does.target c.args.each.target.now in
    let body = does.inside c.args.each.inside in
    let d = cursor_at c.args.value c.args.spot in
    let found = rw c.in-Ok-Some.field-0-is at c.in-Ok-Some.ensures.law in
    does_as m c.turn_with.new.machine w c.turn_with.new.world c.turn_with.result (walked (suc c.args.behind) store body d)
    (turn_before c.args.behind store body (cursor_at c.args.value c.in-Ok-Some.next) c.in-Ok-Some.element) u
    (turn_gives m w u store body c.args.behind d (cursor_at c.args.value c.in-Ok-Some.next) c.in-Ok-Some.element found) c.turn_with.ensures.law

pub returns-in-Ok-None-clause-law : goal.returns-in-Ok-None-clause-law
returns-in-Ok-None-clause-law c =
    let m = c.args.machine.now in
    let w = c.args.world.now in
    let u = c.next_element.new.world in
    let store = does.target c.args.each.target.now in
    let body = does.inside c.args.each.inside in
    let d = cursor_at c.args.value c.args.spot in
    let found = rw c.in-Ok-None.field-0-is at c.in-Ok-None.ensures.law in
    does_moves m c.go.new.self w u c.go.result (walked (suc c.args.behind) store body d) (forms.leave next)
    (turn_none m w u store body c.args.behind d found) c.go.ensures.law

pub returns-in-Err-clause-law : goal.returns-in-Err-clause-law
returns-in-Err-clause-law c =
    let m = c.args.machine.now in
    let w = c.args.world.now in
    let u = c.next_element.new.world in
    let store = does.target c.args.each.target.now in
    let body = does.inside c.args.each.inside in
    let d = cursor_at c.args.value c.args.spot in
    does_end m c.cut_off.new.self w u c.cut_off.result (walked (suc c.args.behind) store body d) c.in-Err.end
    (turn_ends m w u store body c.args.behind d c.in-Err.end c.in-Err.ensures.law) c.cut_off.ensures.law

pub turn_with-requires-clause-ready : goal.turn_with-requires-clause-ready
turn_with-requires-clause-ready c =
    IsReady-goes _ _ _ c.args.world.now c.next_element.new.world c.requires.ready c.next_element.ensures.shape c.next_element.ensures.faithful

pub turn_with-requires-clause-value : goal.turn_with-requires-clause-value
turn_with-requires-clause-value c = c.next_element.ensures.shape.fit c.args.machine.now.frame.side c.args.value c.requires.value

pub returns-in-Ok-None-clause-ready : goal.returns-in-Ok-None-clause-ready
returns-in-Ok-None-clause-ready c =
    c.go.ensures.ready c.next_element.new.world (IsReady-goes _ _ _ c.args.world.now c.next_element.new.world c.requires.ready c.next_element.ensures.shape c.next_element.ensures.faithful)

pub returns-in-Err-clause-ready : goal.returns-in-Err-clause-ready
returns-in-Err-clause-ready c =
    c.cut_off.ensures.ready c.next_element.new.world (IsReady-goes _ _ _ c.args.world.now c.next_element.new.world c.requires.ready c.next_element.ensures.shape c.next_element.ensures.faithful)

pub returns-in-Ok-Some-clause-ready : goal.returns-in-Ok-Some-clause-ready
returns-in-Ok-Some-clause-ready c = c.turn_with.ensures.ready

pub returns-in-Ok-Some-clause-shape : goal.returns-in-Ok-Some-clause-shape
returns-in-Ok-Some-clause-shape c = KeepsShape-trans _ _ _ c.next_element.ensures.shape c.turn_with.ensures.shape

pub returns-in-Ok-None-clause-shape : goal.returns-in-Ok-None-clause-shape
returns-in-Ok-None-clause-shape c = c.next_element.ensures.shape

pub returns-in-Err-clause-shape : goal.returns-in-Err-clause-shape
returns-in-Err-clause-shape c = c.next_element.ensures.shape

pub returns-in-Ok-Some-clause-less : goal.returns-in-Ok-Some-clause-less
returns-in-Ok-Some-clause-less c =
    let fell = rw c.in-Ok-Some.field-0-is at c.in-Ok-Some.ensures.took in
    grind (arith, fell)
