use Rattle.std.proofs.Common.{◌∙◌}
use Rattle.rp_meaning.specs.Expressions as forms
use Rattle.rp_access.proofs.Going.{IsEnd-same, IsEnd-then, gives-then}
use Rattle.rp_engine.proofs.Moves.{as_ok, end_ok}
use Rattle.rp_expressions.proofs.Trailing.{attribute_stepped}
use Rattle.rp_engine.specs.Does as does
use Rattle.rp_engine.specs.TrailerSteps.{next_trailer, with_attribute}
use Rattle.rp_engine.specs.Law.{frame_in}
use Rattle.rp_access.specs.Moment.{state_of}
use Rattle.rp_store.proofs.CallerLemmas.{KeepsShape-trans}
use Rattle.rp_engine.proofs.Worlds.{IsReady-stored, shape_stored}
use Rattle.rp_expressions.proofs.primaries.attribute.Goals as goal

pub returns-in-Ok-clause-law : goal.returns-in-Ok-clause-law
returns-in-Ok-clause-law c =
    let m = c.args.machine.now in
    let w = c.args.world.now in
    let u = c.take_step.new.world in
    let ts = does.trailers c.args.rest.now in
    let v = c.args.value in
    as_ok m c.attribute_of.new.machine w c.attribute_of.new.world c.attribute_of.result (next_trailer (forms.attribute c.args.name) ts v) (with_attribute c.args.name ts v) u
    (λ base. attribute_stepped ts v (frame_in base m) (state_of w) c.args.name
    ∙ gives-then (tt {0}) (state_of u) _ (λ _ s. with_attribute c.args.name ts v (frame_in base m) s) c.in-Ok.ensures.law) c.attribute_of.ensures.law

pub returns-in-Err-clause-law : goal.returns-in-Err-clause-law
returns-in-Err-clause-law c =
    let m = c.args.machine.now in
    let w = c.args.world.now in
    let u = c.take_step.new.world in
    let ts = does.trailers c.args.rest.now in
    let v = c.args.value in
    end_ok m c.no_value.new.self w u c.no_value.result (next_trailer (forms.attribute c.args.name) ts v) c.in-Err.end
    (λ base. IsEnd-same c.in-Err.end (state_of u) _ _ (attribute_stepped ts v (frame_in base m) (state_of w) c.args.name)
    (IsEnd-then c.in-Err.end (state_of u) _ (λ _ s. with_attribute c.args.name ts v (frame_in base m) s) c.in-Err.ensures.law)) c.no_value.ensures.law

pub attribute_of-requires-clause-ready : goal.attribute_of-requires-clause-ready
attribute_of-requires-clause-ready c = IsReady-stored _ _ _ c.args.world.now c.take_step.new.world c.requires.ready c.take_step.ensures.store (c.take_step.ensures.faithful c.requires.ready.faithful)

pub attribute_of-requires-clause-value : goal.attribute_of-requires-clause-value
attribute_of-requires-clause-value c = (shape_stored c.args.world.now.store c.take_step.new.world.store c.take_step.ensures.store).fit c.args.machine.now.frame.side c.args.value c.requires.value

pub returns-in-Ok-clause-ready : goal.returns-in-Ok-clause-ready
returns-in-Ok-clause-ready c = c.attribute_of.ensures.ready

pub returns-in-Ok-clause-shape : goal.returns-in-Ok-clause-shape
returns-in-Ok-clause-shape c = KeepsShape-trans _ _ _ (shape_stored c.args.world.now.store c.take_step.new.world.store c.take_step.ensures.store) c.attribute_of.ensures.shape

pub returns-in-Err-clause-ready : goal.returns-in-Err-clause-ready
returns-in-Err-clause-ready c = c.no_value.ensures.ready c.take_step.new.world (IsReady-stored _ _ _ c.args.world.now c.take_step.new.world c.requires.ready c.take_step.ensures.store (c.take_step.ensures.faithful c.requires.ready.faithful))

pub returns-in-Err-clause-shape : goal.returns-in-Err-clause-shape
returns-in-Err-clause-shape c = shape_stored c.args.world.now.store c.take_step.new.world.store c.take_step.ensures.store
