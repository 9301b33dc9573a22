use Rattle.std.proofs.Common.{Option, ◌∷◌, sym, ap, ◌∙◌}
use Rattle.rp_base.specs.declared.value.Raised.{Raised}
use Rattle.rp_meaning.specs.Exceptions as exception
use Rattle.rp_meaning.specs.Frame.{Doing}
use Rattle.rp_ops.specs.Outcome.{on_value}
use Rattle.rp_access.specs.Moment.{state_of}
use Rattle.rp_engine.proofs.Doings.{does_as, does_goes}
use Rattle.rp_statements.proofs.Handlings.{handle_any, handle_of, thrown_fit}
use Rattle.rp_statements.proofs.TryEquations.{handler_kind}
use Rattle.rp_engine.specs.Does as does
use Rattle.rp_engine.specs.Handling.{thrown_of, tried}
use Rattle.rp_engine.specs.Law.{frame_in}
use Rattle.rp_statements.proofs.handling.try_handler.Goals as goal

pub returns-in-None-clause-law : goal.returns-in-None-clause-law
returns-in-None-clause-law c =
    let m = c.args.machine.now in
    let w = c.args.world.now in
    let h = does.handler c.args.handler.now in
    let hs = does.handlers c.args.behind.now in
    let r = c.args.raised in
    does_as m c.begin_handler.new.machine w c.begin_handler.new.world c.begin_handler.result (exception.handle (h ∷ hs) r) (exception.handled h.name h.body r) w
    (λ base. handle_any h hs r (frame_in base m) (state_of w) (handler_kind c.args.handler.now ∙ ap does.maybe c.in-None.is)) c.begin_handler.ensures.law

pub returns-in-Some-clause-law : goal.returns-in-Some-clause-law
returns-in-Some-clause-law c =
    let m = c.args.machine.now in
    let w = c.args.world.now in
    let h = does.handler c.args.handler.now in
    let hs = does.handlers c.args.behind.now in
    let r = c.args.raised in
    let x = does.expr c.in-Some.kind in
    let go : Option Raised → Doing = λ o f s. on_value (x f s) (λ v s. tried h hs o v f s) in
    does_goes m c.wait_with.new.self w w c.wait_with.result (exception.handle (h ∷ hs) r) (go (thrown_of c.thrown.result))
    (λ base. handle_of h hs r (frame_in base m) (state_of w) x (handler_kind c.args.handler.now ∙ ap does.maybe c.in-Some.is)
    ∙ ap (λ o. go o (frame_in base m) (state_of w)) (sym (ap thrown_of c.thrown.ensures))) c.wait_with.ensures.law

pub returns-in-Some-clause-ready : goal.returns-in-Some-clause-ready
returns-in-Some-clause-ready c =
    let m = c.args.machine.now in
    let w = c.args.world.now in
    c.wait_with.ensures.ready w c.requires.ready (thrown_fit w.store.heap m.frame.side c.thrown.result c.args.raised c.thrown.ensures)
