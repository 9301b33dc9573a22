use Rattle.rp_meaning.specs.Frame.{unbind_name}
use Rattle.rp_meaning.specs.State.{next}
use Rattle.rp_meaning.specs.Statements as forms
use Rattle.rp_engine.proofs.Doings.{does_end, does_moves}
use Rattle.rp_engine.proofs.Worlds.{IsReady-goes}
use Rattle.rp_targets.proofs.places.delete_name.Goals as goal

pub returns-in-Ok-clause-law : goal.returns-in-Ok-clause-law
returns-in-Ok-clause-law c =
    does_moves c.args.machine.now c.go.new.self c.args.world.now c.unbind.new.world c.go.result (unbind_name c.args.name) (forms.leave next) c.in-Ok.ensures.law c.go.ensures.law

pub returns-in-Err-clause-law : goal.returns-in-Err-clause-law
returns-in-Err-clause-law c =
    does_end c.args.machine.now c.cut_off.new.self c.args.world.now c.unbind.new.world c.cut_off.result (unbind_name c.args.name) c.in-Err.end c.in-Err.ensures.law c.cut_off.ensures.law

pub returns-in-Ok-clause-ready : goal.returns-in-Ok-clause-ready
returns-in-Ok-clause-ready c =
    c.go.ensures.ready c.unbind.new.world (IsReady-goes _ _ _ c.args.world.now c.unbind.new.world c.requires.ready c.unbind.ensures.shape c.unbind.ensures.faithful)

pub returns-in-Err-clause-ready : goal.returns-in-Err-clause-ready
returns-in-Err-clause-ready c =
    c.cut_off.ensures.ready c.unbind.new.world (IsReady-goes _ _ _ c.args.world.now c.unbind.new.world c.requires.ready c.unbind.ensures.shape c.unbind.ensures.faithful)
