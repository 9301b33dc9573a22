use Rattle.rp_meaning.specs.State.{next}
use Rattle.rp_meaning.specs.Statements.{leave}
use Rattle.rp_targets.proofs.Comprehending.{entry_ends, entry_gives}
use Rattle.rp_engine.proofs.Doings.{does_end, does_moves}
use Rattle.rp_engine.proofs.Worlds.{IsReady-goes}
use Rattle.rp_engine.specs.ComprehensionSteps.{entry_added}
use Rattle.rp_targets.proofs.comprehensions.put_in.Goals as goal

pub returns-in-Ok-clause-law : goal.returns-in-Ok-clause-law
returns-in-Ok-clause-law c =
    let m = c.args.machine.now in
    let w = c.args.world.now in
    let u = c.put_item.new.world in
    does_moves m c.go.new.self w u c.go.result (entry_added c.args.at c.args.key c.args.value) (leave next)
    (entry_gives m w u c.args.at c.args.value c.args.key c.in-Ok.ensures.law) c.go.ensures.law

pub returns-clause-law : goal.returns-clause-law
returns-clause-law c =
    let m = c.args.machine.now in
    let w = c.args.world.now in
    let u = c.put_item.new.world in
    does_end m c.cut_off.new.self w u c.cut_off.result (entry_added c.args.at c.args.key c.args.value) c.in-Err.end
    (entry_ends m w u c.args.at c.args.value c.args.key c.in-Err.end c.in-Err.ensures.law) c.cut_off.ensures.law

pub returns-in-Ok-clause-ready : goal.returns-in-Ok-clause-ready
returns-in-Ok-clause-ready c =
    c.go.ensures.ready c.put_item.new.world (IsReady-goes _ _ _ c.args.world.now c.put_item.new.world c.requires.ready c.put_item.ensures.shape c.put_item.ensures.faithful)

pub returns-clause-ready : goal.returns-clause-ready
returns-clause-ready c =
    c.cut_off.ensures.ready c.put_item.new.world (IsReady-goes _ _ _ c.args.world.now c.put_item.new.world c.requires.ready c.put_item.ensures.shape c.put_item.ensures.faithful)
