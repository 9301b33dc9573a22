use Rattle.std.proofs.Common.{◌≡◌, List, [], refl}
use Rattle.rp_access.proofs.Going.{IsEnd-same, IsEnd-then}
use Rattle.rp_access.specs.Moment.{state_of}
use Rattle.rp_access.specs.Parts.{step_end}
use Rattle.rp_frame.specs.declared.display.Display.{Display}
use Rattle.rp_frame.specs.declared.display.Display.TheVariants as kind
use Rattle.rp_meaning.specs.Frame.{Frame, Meaning}
use Rattle.rp_meaning.specs.State.{State}
use Rattle.rp_ops.specs.Outcome.{on_value}
use Rattle.rp_engine.proofs.Gatherings.{displays}
use Rattle.rp_engine.proofs.Moves.{end_ok}
use Rattle.rp_engine.specs.DisplaySteps.{display, elements}
use Rattle.rp_engine.specs.Does as does
use Rattle.rp_engine.specs.Law.{frame_in}
use Rattle.rp_store.proofs.CallerLemmas.{KeepsShape-trans}
use Rattle.rp_engine.proofs.Worlds.{IsReady-stored, shape_stored}
use Rattle.rp_expressions.proofs.displays.display.Goals as goal

step_is : (d : Display) (ms : List Meaning) (f : Frame) (s : State) → display d ms f s ≡ on_value (step_end s) (λ _ s. elements d ms [] f s)
step_is kind.List ms f s = refl
step_is kind.Tuple ms f s = refl
step_is kind.Dict ms f s = refl

pub returns-in-Ok-clause-law : goal.returns-in-Ok-clause-law
returns-in-Ok-clause-law c =
    displays c.args.machine.now c.gather.new.machine c.args.world.now c.take_step.new.world c.gather.new.world c.gather.result c.args.kind (does.exprs c.args.items.now) c.in-Ok.ensures.law c.gather.ensures.law

pub returns-in-Err-clause-law : goal.returns-in-Err-clause-law
returns-in-Err-clause-law c =
    let m = c.args.machine.now in
    let w = c.args.world.now in
    let u = c.take_step.new.world in
    let ms = does.exprs c.args.items.now in
    end_ok m c.no_value.new.self w u c.no_value.result (display c.args.kind ms) c.in-Err.end
    (λ base. IsEnd-same c.in-Err.end (state_of u) _ _ (step_is c.args.kind ms (frame_in base m) (state_of w))
    (IsEnd-then c.in-Err.end (state_of u) _ (λ _ s. elements c.args.kind ms [] (frame_in base m) s) c.in-Err.ensures.law)) c.no_value.ensures.law

pub gather-requires : goal.gather-requires
gather-requires c = record { ready = IsReady-stored _ _ _ c.args.world.now c.take_step.new.world c.requires.ready c.take_step.ensures.store (c.take_step.ensures.faithful c.requires.ready.faithful) }

pub returns-in-Ok-clause-ready : goal.returns-in-Ok-clause-ready
returns-in-Ok-clause-ready c = c.gather.ensures.ready

pub returns-in-Ok-clause-shape : goal.returns-in-Ok-clause-shape
returns-in-Ok-clause-shape c = KeepsShape-trans _ _ _ (shape_stored c.args.world.now.store c.take_step.new.world.store c.take_step.ensures.store) c.gather.ensures.shape

pub returns-in-Err-clause-ready : goal.returns-in-Err-clause-ready
returns-in-Err-clause-ready c = c.no_value.ensures.ready c.take_step.new.world (IsReady-stored _ _ _ c.args.world.now c.take_step.new.world c.requires.ready c.take_step.ensures.store (c.take_step.ensures.faithful c.requires.ready.faithful))

pub returns-in-Err-clause-shape : goal.returns-in-Err-clause-shape
returns-in-Err-clause-shape c = shape_stored c.args.world.now.store c.take_step.new.world.store c.take_step.ensures.store
