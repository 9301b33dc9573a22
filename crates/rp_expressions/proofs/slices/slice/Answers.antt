use Rattle.std.proofs.Common.{◌∙◌}
use Rattle.rp_meaning.specs.Expressions as forms
use Rattle.rp_access.proofs.Going.{IsEnd-same, IsEnd-then, gives-then}
use Rattle.rp_engine.proofs.Moves.{as_ok, end_ok}
use Rattle.rp_expressions.proofs.Slicings.{slice_stepped}
use Rattle.rp_engine.specs.Does as does
use Rattle.rp_engine.specs.Law.{frame_in}
use Rattle.rp_access.specs.Moment.{state_of}
use Rattle.rp_engine.specs.SliceSteps.{from_lower}
use Rattle.rp_engine.specs.TrailerSteps.{next_trailer}
use Rattle.rp_store.proofs.CallerLemmas.{KeepsShape-trans}
use Rattle.rp_engine.proofs.Worlds.{IsReady-stored, shape_stored}
use Rattle.rp_expressions.proofs.slices.slice.Goals as goal

pub returns-in-Ok-clause-law : goal.returns-in-Ok-clause-law
returns-in-Ok-clause-law c =
    let m = c.args.machine.now in
    let w = c.args.world.now in
    let u = c.take_step.new.world in
    let ts = does.trailers c.args.rest.now in
    let v = c.args.value in
    let a = does.maybe c.args.from.now in
    let b = does.maybe c.args.to.now in
    let d = does.maybe c.args.stride.now in
    as_ok m c.lower.new.machine w c.lower.new.world c.lower.result (next_trailer (forms.slice a b d) ts v) (from_lower a b d ts v) u
    (λ base. slice_stepped ts v (frame_in base m) a b d (state_of w)
    ∙ gives-then (tt {0}) (state_of u) _ (λ _ s. from_lower a b d ts v (frame_in base m) s) c.in-Ok.ensures.law) c.lower.ensures.law

pub returns-in-Err-clause-law : goal.returns-in-Err-clause-law
returns-in-Err-clause-law c =
    let m = c.args.machine.now in
    let w = c.args.world.now in
    let u = c.take_step.new.world in
    let ts = does.trailers c.args.rest.now in
    let v = c.args.value in
    let a = does.maybe c.args.from.now in
    let b = does.maybe c.args.to.now in
    let d = does.maybe c.args.stride.now in
    end_ok m c.no_value.new.self w u c.no_value.result (next_trailer (forms.slice a b d) ts v) c.in-Err.end
    (λ base. IsEnd-same c.in-Err.end (state_of u) _ _ (slice_stepped ts v (frame_in base m) a b d (state_of w))
    (IsEnd-then c.in-Err.end (state_of u) _ (λ _ s. from_lower a b d ts v (frame_in base m) s) c.in-Err.ensures.law)) c.no_value.ensures.law

pub lower-requires-clause-ready : goal.lower-requires-clause-ready
lower-requires-clause-ready c = IsReady-stored _ _ _ c.args.world.now c.take_step.new.world c.requires.ready c.take_step.ensures.store (c.take_step.ensures.faithful c.requires.ready.faithful)

pub lower-requires-clause-value : goal.lower-requires-clause-value
lower-requires-clause-value c = (shape_stored c.args.world.now.store c.take_step.new.world.store c.take_step.ensures.store).fit c.args.machine.now.frame.side c.args.value c.requires.value

pub returns-in-Ok-clause-ready : goal.returns-in-Ok-clause-ready
returns-in-Ok-clause-ready c = c.lower.ensures.ready

pub returns-in-Ok-clause-shape : goal.returns-in-Ok-clause-shape
returns-in-Ok-clause-shape c = KeepsShape-trans _ _ _ (shape_stored c.args.world.now.store c.take_step.new.world.store c.take_step.ensures.store) c.lower.ensures.shape

pub returns-in-Err-clause-ready : goal.returns-in-Err-clause-ready
returns-in-Err-clause-ready c = c.no_value.ensures.ready c.take_step.new.world (IsReady-stored _ _ _ c.args.world.now c.take_step.new.world c.requires.ready c.take_step.ensures.store (c.take_step.ensures.faithful c.requires.ready.faithful))

pub returns-in-Err-clause-shape : goal.returns-in-Err-clause-shape
returns-in-Err-clause-shape c = shape_stored c.args.world.now.store c.take_step.new.world.store c.take_step.ensures.store
