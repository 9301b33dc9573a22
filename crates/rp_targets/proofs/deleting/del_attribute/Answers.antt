use Rattle.rp_meaning.specs.Access as access
use Rattle.rp_meaning.specs.State.{next}
use Rattle.rp_meaning.specs.Statements as forms
use Rattle.rp_targets.proofs.Changed.{attribute_deleted_ends, attribute_deleted_gives}
use Rattle.rp_engine.proofs.Doings.{does_end, does_moves}
use Rattle.rp_engine.proofs.Worlds.{IsReady-goes}
use Rattle.rp_targets.proofs.deleting.del_attribute.Goals as goal

pub returns-in-Ok-clause-law : goal.returns-in-Ok-clause-law
returns-in-Ok-clause-law c =
    let m = c.args.machine.now in
    let w = c.args.world.now in
    let u = c.del_attribute.new.world in
    let found = c.in-Ok.ensures.law in
    does_moves m c.go.new.self w u c.go.result (access.del_attribute c.args.o c.args.name) (forms.leave next) (attribute_deleted_gives m w u c.args.o c.args.name found) c.go.ensures.law

pub returns-clause-law : goal.returns-clause-law
returns-clause-law c =
    let m = c.args.machine.now in
    let w = c.args.world.now in
    let u = c.del_attribute.new.world in
    does_end m c.cut_off.new.self w u c.cut_off.result (access.del_attribute c.args.o c.args.name) c.in-Err.end (attribute_deleted_ends m w u c.args.o c.args.name c.in-Err.end c.in-Err.ensures.law) c.cut_off.ensures.law

pub returns-in-Ok-clause-ready : goal.returns-in-Ok-clause-ready
returns-in-Ok-clause-ready c =
    c.go.ensures.ready c.del_attribute.new.world (IsReady-goes _ _ _ c.args.world.now c.del_attribute.new.world c.requires.ready c.del_attribute.ensures.shape c.del_attribute.ensures.faithful)

pub returns-clause-ready : goal.returns-clause-ready
returns-clause-ready c =
    c.cut_off.ensures.ready c.del_attribute.new.world (IsReady-goes _ _ _ c.args.world.now c.del_attribute.new.world c.requires.ready c.del_attribute.ensures.shape c.del_attribute.ensures.faithful)
