use Rattle.std.proofs.Common.{sym, ap}
use Rattle.rp_meaning.specs.Frame.{bind_name}
use Rattle.rp_meaning.specs.State.{next}
use Rattle.rp_meaning.specs.Statements as forms
use Rattle.rp_ops.specs.Outcome.{gives}
use Rattle.rp_engine.proofs.Doings.{does_moves}
use Rattle.rp_engine.proofs.Worlds.{IsReady-goes}
use Rattle.rp_statements.proofs.augmentation.bind_next.Goals as goal

pub returns-clause-law : goal.returns-clause-law
returns-clause-law c =
    does_moves c.args.machine.now c.go.new.self c.args.world.now c.bind.new.world c.go.result (bind_name c.args.name c.args.value) (forms.leave next)
    (λ base. ap (gives next) (sym (c.bind.ensures.law base))) c.go.ensures.law

pub returns-clause-ready : goal.returns-clause-ready
returns-clause-ready c =
    c.go.ensures.ready c.bind.new.world (IsReady-goes _ _ _ c.args.world.now c.bind.new.world c.requires.ready c.bind.ensures.shape c.bind.ensures.faithful)
