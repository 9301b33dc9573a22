use Rattle.std.proofs.Common.{[], ◌∙◌}
use Rattle.rp_meaning.specs.Expressions as forms
use Rattle.rp_expressions.proofs.Callings.{call_stepped}
use Rattle.rp_access.proofs.Going.{IsEnd-same, IsEnd-then, gives-then}
use Rattle.rp_engine.proofs.Moves.{as_ok, end_ok}
use Rattle.rp_engine.specs.ArgumentSteps.{with_arguments}
use Rattle.rp_engine.specs.Does as does
use Rattle.rp_engine.specs.Law.{frame_in}
use Rattle.rp_access.specs.Moment.{state_of}
use Rattle.rp_engine.specs.TrailerSteps.{next_trailer}
use Rattle.rp_store.proofs.CallerLemmas.{KeepsShape-trans}
use Rattle.rp_engine.proofs.Worlds.{IsReady-stored, shape_stored}
use Rattle.rp_expressions.proofs.arguments.begin_call.Goals as goal

pub returns-in-Ok-clause-law : goal.returns-in-Ok-clause-law
returns-in-Ok-clause-law c =
    let m = c.args.machine.now in
    let w = c.args.world.now in
    let u = c.take_step.new.world in
    let as' = does.args c.args.args.now in
    let ts = does.trailers c.args.rest.now in
    let f = c.args.f in
    as_ok m c.first_argument.new.machine w c.first_argument.new.world c.first_argument.result (next_trailer (forms.call as') ts f) (with_arguments as' ts f []) u
    (λ base. call_stepped ts f (frame_in base m) as' (state_of w)
    ∙ gives-then (tt {0}) (state_of u) _ (λ _ s. with_arguments as' ts f [] (frame_in base m) s) c.in-Ok.ensures.law) c.first_argument.ensures.law

pub returns-in-Err-clause-law : goal.returns-in-Err-clause-law
returns-in-Err-clause-law c =
    let m = c.args.machine.now in
    let w = c.args.world.now in
    let u = c.take_step.new.world in
    let as' = does.args c.args.args.now in
    let ts = does.trailers c.args.rest.now in
    let f = c.args.f in
    end_ok m c.no_value.new.self w u c.no_value.result (next_trailer (forms.call as') ts f) c.in-Err.end
    (λ base. IsEnd-same c.in-Err.end (state_of u) _ _ (call_stepped ts f (frame_in base m) as' (state_of w))
    (IsEnd-then c.in-Err.end (state_of u) _ (λ _ s. with_arguments as' ts f [] (frame_in base m) s) c.in-Err.ensures.law)) c.no_value.ensures.law

pub first_argument-requires-clause-ready : goal.first_argument-requires-clause-ready
first_argument-requires-clause-ready c = IsReady-stored _ _ _ c.args.world.now c.take_step.new.world c.requires.ready c.take_step.ensures.store (c.take_step.ensures.faithful c.requires.ready.faithful)

pub first_argument-requires-clause-value : goal.first_argument-requires-clause-value
first_argument-requires-clause-value c = (shape_stored c.args.world.now.store c.take_step.new.world.store c.take_step.ensures.store).fit c.args.machine.now.frame.side c.args.f c.requires.value

pub returns-in-Ok-clause-ready : goal.returns-in-Ok-clause-ready
returns-in-Ok-clause-ready c = c.first_argument.ensures.ready

pub returns-in-Ok-clause-shape : goal.returns-in-Ok-clause-shape
returns-in-Ok-clause-shape c = KeepsShape-trans _ _ _ (shape_stored c.args.world.now.store c.take_step.new.world.store c.take_step.ensures.store) c.first_argument.ensures.shape

pub returns-in-Err-clause-ready : goal.returns-in-Err-clause-ready
returns-in-Err-clause-ready c = c.no_value.ensures.ready c.take_step.new.world (IsReady-stored _ _ _ c.args.world.now c.take_step.new.world c.requires.ready c.take_step.ensures.store (c.take_step.ensures.faithful c.requires.ready.faithful))

pub returns-in-Err-clause-shape : goal.returns-in-Err-clause-shape
returns-in-Err-clause-shape c = shape_stored c.args.world.now.store c.take_step.new.world.store c.take_step.ensures.store
