use Rattle.rp_meaning.specs.State.{next}
use Rattle.rp_meaning.specs.Statements.{leave}
use Rattle.rp_targets.proofs.Comprehending.{element_ends, element_gives}
use Rattle.rp_engine.proofs.Doings.{does_end, does_moves}
use Rattle.rp_engine.proofs.Worlds.{IsReady-goes}
use Rattle.rp_engine.specs.ComprehensionSteps.{element_added}
use Rattle.rp_targets.proofs.comprehensions.add_element.Goals as goal

pub returns-in-Ok-clause-law : goal.returns-in-Ok-clause-law
returns-in-Ok-clause-law c =
    let m = c.args.machine.now in
    let w = c.args.world.now in
    let u = c.put_element.new.world in
    does_moves m c.go.new.self w u c.go.result (element_added c.args.at c.args.value) (leave next)
    (element_gives m w u c.args.at c.args.value c.in-Ok.ensures.law) c.go.ensures.law

pub returns-in-Err-clause-law : goal.returns-in-Err-clause-law
returns-in-Err-clause-law c =
    let m = c.args.machine.now in
    let w = c.args.world.now in
    let u = c.put_element.new.world in
    does_end m c.cut_off.new.self w u c.cut_off.result (element_added c.args.at c.args.value) c.in-Err.end
    (element_ends m w u c.args.at c.args.value c.in-Err.end c.in-Err.ensures.law) c.cut_off.ensures.law

pub returns-in-Ok-clause-ready : goal.returns-in-Ok-clause-ready
returns-in-Ok-clause-ready c =
    c.go.ensures.ready c.put_element.new.world (IsReady-goes _ _ _ c.args.world.now c.put_element.new.world c.requires.ready c.put_element.ensures.shape c.put_element.ensures.faithful)

pub returns-in-Err-clause-ready : goal.returns-in-Err-clause-ready
returns-in-Err-clause-ready c =
    c.cut_off.ensures.ready c.put_element.new.world (IsReady-goes _ _ _ c.args.world.now c.put_element.new.world c.requires.ready c.put_element.ensures.shape c.put_element.ensures.faithful)
