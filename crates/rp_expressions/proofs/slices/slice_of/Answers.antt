use Rattle.std.proofs.Common.{◌∙◌}
use Rattle.rp_meaning.specs.Expressions as forms
use Rattle.rp_access.proofs.Going.{IsEnd-same, IsEnd-then, gives-then}
use Rattle.rp_engine.proofs.Moves.{as_any_ok, end_ok}
use Rattle.rp_expressions.proofs.Slicings.{slice_is}
use Rattle.rp_engine.proofs.Worlds.{IsReady-goes}
use Rattle.rp_engine.specs.Does as does
use Rattle.rp_engine.specs.Law.{frame_in}
use Rattle.rp_access.specs.Moment.{state_of}
use Rattle.rp_engine.specs.SliceSteps.{with_slice}
use Rattle.rp_expressions.proofs.slices.slice_of.Goals as goal

pub returns-in-Ok-clause-law : goal.returns-in-Ok-clause-law
returns-in-Ok-clause-law c =
    let m = c.args.machine.now in
    let w = c.args.world.now in
    let u = c.get_slice.new.world in
    let ts = does.trailers c.args.rest.now in
    as_any_ok m c.more_trailers.new.machine w u c.more_trailers.result (with_slice c.args.value c.args.from c.args.to ts c.args.stride) (forms.trailers ts c.in-Ok.value)
    (λ base. gives-then c.in-Ok.value (state_of u) _ (λ v s. forms.trailers ts v (frame_in base m) s)
    (slice_is base m.units.now m.frame c.args.value c.args.from c.args.to c.args.stride (state_of w) ∙ c.in-Ok.ensures.law)) c.more_trailers.ensures.law

pub returns-in-Ok-clause-ready : goal.returns-in-Ok-clause-ready
returns-in-Ok-clause-ready c =
    c.more_trailers.ensures.ready c.get_slice.new.world (IsReady-goes _ _ _ c.args.world.now c.get_slice.new.world c.requires.ready c.get_slice.ensures.shape c.get_slice.ensures.faithful) c.in-Ok.ensures.fit

pub returns-clause-law : goal.returns-clause-law
returns-clause-law c =
    let m = c.args.machine.now in
    let w = c.args.world.now in
    let u = c.get_slice.new.world in
    let ts = does.trailers c.args.rest.now in
    end_ok m c.no_value.new.self w u c.no_value.result (with_slice c.args.value c.args.from c.args.to ts c.args.stride) c.in-Err.end
    (λ base. IsEnd-then c.in-Err.end (state_of u) _ (λ v s. forms.trailers ts v (frame_in base m) s)
    (IsEnd-same c.in-Err.end (state_of u) _ _ (slice_is base m.units.now m.frame c.args.value c.args.from c.args.to c.args.stride (state_of w)) c.in-Err.ensures.law)) c.no_value.ensures.law

pub returns-clause-ready : goal.returns-clause-ready
returns-clause-ready c =
    c.no_value.ensures.ready c.get_slice.new.world (IsReady-goes _ _ _ c.args.world.now c.get_slice.new.world c.requires.ready c.get_slice.ensures.shape c.get_slice.ensures.faithful)
