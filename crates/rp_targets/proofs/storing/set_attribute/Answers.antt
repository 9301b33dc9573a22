use Rattle.rp_meaning.specs.Access as access
use Rattle.rp_meaning.specs.State.{next}
use Rattle.rp_meaning.specs.Statements as forms
use Rattle.rp_targets.proofs.Changed.{attribute_set_ends, attribute_set_gives}
use Rattle.rp_engine.proofs.Doings.{does_end, does_moves}
use Rattle.rp_engine.proofs.Worlds.{IsReady-goes}
use Rattle.rp_targets.proofs.storing.set_attribute.Goals as goal

pub returns-in-Ok-clause-law : goal.returns-in-Ok-clause-law
returns-in-Ok-clause-law c =
    let m = c.args.machine.now in
    let w = c.args.world.now in
    let u = c.set_attribute.new.world in
    let found = c.in-Ok.ensures.law in
    does_moves m c.go.new.self w u c.go.result (access.set_attribute c.args.o c.args.name c.args.value) (forms.leave next) (attribute_set_gives m w u c.args.o c.args.name c.args.value found) c.go.ensures.law

pub returns-clause-law : goal.returns-clause-law
returns-clause-law c =
    let m = c.args.machine.now in
    let w = c.args.world.now in
    let u = c.set_attribute.new.world in
    does_end m c.cut_off.new.self w u c.cut_off.result (access.set_attribute c.args.o c.args.name c.args.value) c.in-Err.end (attribute_set_ends m w u c.args.o c.args.name c.args.value c.in-Err.end c.in-Err.ensures.law) c.cut_off.ensures.law

pub returns-in-Ok-clause-ready : goal.returns-in-Ok-clause-ready
returns-in-Ok-clause-ready c =
    c.go.ensures.ready c.set_attribute.new.world (IsReady-goes _ _ _ c.args.world.now c.set_attribute.new.world c.requires.ready c.set_attribute.ensures.shape c.set_attribute.ensures.faithful)

pub returns-clause-ready : goal.returns-clause-ready
returns-clause-ready c =
    c.cut_off.ensures.ready c.set_attribute.new.world (IsReady-goes _ _ _ c.args.world.now c.set_attribute.new.world c.requires.ready c.set_attribute.ensures.shape c.set_attribute.ensures.faithful)
