use Rattle.std.proofs.Common.{Some, sym, ap, ◌∙◌}
use Rattle.rp_base.specs.declared.value.Raised.{Raised}
use Rattle.rp_base.specs.declared.value.Value.{Value}
use Rattle.rp_meaning.specs.Exceptions as exception
use Rattle.rp_meaning.specs.Frame.{slot_of}
use Rattle.rp_meaning.specs.Scopes.{with_slot_set}
use Rattle.rp_meaning.specs.State.{State}
use Rattle.rp_access.specs.Moment.{state_of}
use Rattle.rp_engine.proofs.Doings.{does_goes}
use Rattle.rp_statements.proofs.Handlings.{thrown_fit}
use Rattle.rp_engine.proofs.Worlds.{IsReady-goes}
use Rattle.rp_engine.specs.Does as does
use Rattle.rp_engine.specs.Handling as steps
use Rattle.rp_engine.specs.Law.{frame_in}
use Rattle.rp_statements.proofs.handling.bind_raised.Goals as goal

pub bind-requires-clause-fit : goal.bind-requires-clause-fit
bind-requires-clause-fit c = thrown_fit c.args.world.now.store.heap c.args.machine.now.frame.side c.thrown-value.result c.in_ok-copy.copy c.thrown-value.ensures

pub returns-clause-law : goal.returns-clause-law
returns-clause-law c =
    let m = c.args.machine.now in
    let w = c.args.world.now in
    let v = c.bind.new.world in
    let name = c.args.name in
    let body = does.block c.args.body.now in
    let r = c.args.raised in
    does_goes m c.enter_handler.new.machine w v c.enter_handler.result (exception.handled (Some name) body r) (steps.in_handler (Some name) body r)
    (λ base. ap (λ (s : State). steps.in_handler (Some name) body r (frame_in base m) s)
    (ap (λ (x : Value). with_slot_set (slot_of (frame_in base m) name (state_of w)) (Some x) (state_of w))
    (sym (c.thrown-value.ensures ∙ ap (λ (e : Raised). steps.thrown e) c.in_ok-copy.ensures)) ∙ sym (c.bind.ensures.law base))) c.enter_handler.ensures.law

pub returns-clause-ready : goal.returns-clause-ready
returns-clause-ready c =
    c.enter_handler.ensures.ready c.bind.new.world (IsReady-goes _ _ _ c.args.world.now c.bind.new.world c.requires.ready c.bind.ensures.shape c.bind.ensures.faithful)
