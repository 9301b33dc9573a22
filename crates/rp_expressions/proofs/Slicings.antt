-- Slices, from what is known of each part.
use Rattle.std.proofs.Common.{◌≡◌, List, Option, Result, ap, ◌∙◌, subst}
use Rattle.std.specs.Prelude.{OnOk}
use Rattle.rp_base.specs.declared.value.Value.{Value}
use Rattle.rp_base.specs.declared.word.TheConstants.{GET_ITEM}
use Rattle.rp_frame.specs.Top.{below}
use Rattle.rp_frame.specs.declared.activation.Activation.{Activation}
use Rattle.rp_items.specs.Slices as slices
use Rattle.rp_meaning.specs.Access.{get_slice}
use Rattle.rp_meaning.specs.Expressions as forms
use Rattle.rp_meaning.specs.Frame.{Frame, Meaning, Run}
use Rattle.rp_meaning.specs.State.{State, plainly}
use Rattle.rp_meaning.proofs.Laws.{then_then}
use Rattle.rp_ops.specs.Outcome.{on_value}
use Rattle.rp_proxy.specs.declared.world.World.{World}
use Rattle.rp_access.specs.Moment.{state_of}
use Rattle.rp_access.specs.Parts.{step_end}
use Rattle.rp_access.specs.Reading.{got_by}
use Rattle.rp_access.specs.Slices.{slice_asked}
use Rattle.rp_access.proofs.Going.{on_same}
use Rattle.rp_engine.specs.Law.{Evaluates, frame_in, rest_of}
use Rattle.rp_engine.specs.Moment.{frame_of, run_of}
use Rattle.rp_engine.specs.Rest.{gave, rest}
use Rattle.rp_engine.specs.SliceSteps.{from_lower}
use Rattle.rp_engine.specs.TrailerSteps.{next_trailer}
use Rattle.rp_engine.specs.declared.halt.Halt.{Halt}
use Rattle.rp_engine.specs.declared.machine.Machine.{Machine}
use Rattle.rp_engine.specs.declared.units.Units.{Units}
use Rattle.rp_engine.proofs.Going.{asked_then}

-- a slice with its step
module _ (ts : List (Value → Meaning)) (v : Value) (f : Frame) where
  parts : (a b c : Option Meaning) (s : State) → on_value (forms.slice a b c v f s) (λ w s. forms.trailers ts w f s) ≡ from_lower a b c ts v f s
  parts a b c s =
      then_then (forms.part a f s) (λ x s. on_value (forms.part b f s) (λ y s. on_value (forms.part c f s) (λ z s. get_slice v x y z f s))) (λ w s. forms.trailers ts w f s)
      ∙ on_same (forms.part a f s) _ _ (λ x t. then_then (forms.part b f t) (λ y s. on_value (forms.part c f s) (λ z s. get_slice v x y z f s)) (λ w s. forms.trailers ts w f s)
      ∙ on_same (forms.part b f t) _ _ (λ y u. then_then (forms.part c f u) (λ z s. get_slice v x y z f s) (λ w s. forms.trailers ts w f s)))

  pub slice_stepped : (a b c : Option Meaning) (s : State) → next_trailer (forms.slice a b c) ts v f s ≡ on_value (step_end s) (λ _ s. from_lower a b c ts v f s)
  slice_stepped a b c s = then_then (step_end s) (λ _ s. forms.slice a b c v f s) (λ w s. forms.trailers ts w f s)
      ∙ on_same (step_end s) _ _ (λ u t. parts a b c t)

pub slice_is : (base : Run) (units : Units) (at : Activation) (o x y z : Value) (s : State)
    → get_slice o x y z (frame_of (run_of base units) at) s ≡ slice_asked at.side o x y z s
slice_is base units at o x y z s = asked_then base units at GET_ITEM o s (λ s. on_value (plainly (slices.slice o x y z) s) (got_by at.side o))

-- values at hand were taken off
module _ (m z n : Machine) (w v : World) (r : Result (Unit {0}) Halt) where
  pub resumes : (vs : List Value) (M : Meaning) → z ≡ record m { values = vs } → OnOk r (Evaluates M z w n v)
      → OnOk r ((base : Run) → rest_of base n (state_of v) ≡ rest m.tasks (gave (frame_in base m) vs (M (frame_in base m) (state_of w))))
  resumes vs M is law = subst (λ (z : Machine). OnOk r (Evaluates M z w n v)) is law

pub less : (m z y : Machine) (vs : List Value) → z ≡ record m { values = vs } → y ≡ record z { values = below z.values } → y ≡ record m { values = below vs }
less m z y vs is last = last ∙ ap (λ (z : Machine). record z { values = below z.values }) is
