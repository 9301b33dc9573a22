use Rattle.std.proofs.Common.{ap, sym}
use Rattle.rp_meaning.specs.Frame.{bind_name}
use Rattle.rp_meaning.specs.State.{State}
use Rattle.rp_engine.proofs.Doings.{does_goes}
use Rattle.rp_engine.proofs.Worlds.{IsReady-goes}
use Rattle.rp_engine.specs.Does as does
use Rattle.rp_engine.specs.Law.{frame_in}
use Rattle.rp_engine.specs.LoopSteps.{each_turn}
use Rattle.rp_targets.proofs.looping.turn_with_name.Goals as goal

pub returns-clause-law : goal.returns-clause-law
returns-clause-law c =
    let m = c.args.machine.now in
    let body = does.inside c.args.inside in
    does_goes m c.go_inside.new.machine c.args.world.now c.bind.new.world c.go_inside.result (each_turn (bind_name c.args.name) body c.args.element) body
    (λ base. ap (λ (s : State). body (frame_in base m) s) (sym (c.bind.ensures.law base))) c.go_inside.ensures.law

pub returns-clause-ready : goal.returns-clause-ready
returns-clause-ready c =
    c.go_inside.ensures.ready c.bind.new.world (IsReady-goes _ _ _ c.args.world.now c.bind.new.world c.requires.ready c.bind.ensures.shape c.bind.ensures.faithful)
