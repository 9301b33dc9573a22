-- A trailer with its step, by what it is.
use Rattle.std.proofs.Common.{◌≡◌, List, ◌∙◌}
use Rattle.rp_base.specs.declared.value.Name.{Name}
use Rattle.rp_base.specs.declared.value.Value.{Value}
use Rattle.rp_meaning.specs.Access.{get_attribute, get_item}
use Rattle.rp_meaning.specs.Expressions as forms
use Rattle.rp_meaning.specs.Frame.{Frame, Meaning}
use Rattle.rp_meaning.specs.State.{State, Outcome}
use Rattle.rp_meaning.proofs.Laws.{then_then}
use Rattle.rp_ops.specs.Outcome.{on_value}
use Rattle.rp_engine.specs.ExpressionSteps.{step_to}
use Rattle.rp_access.specs.Parts.{step_end}
use Rattle.rp_engine.specs.TrailerSteps.{next_trailer, with_attribute, with_item}
use Rattle.rp_access.proofs.Going.{on_same}

module _ (ts : List (Value → Meaning)) (v : Value) (f : Frame) (s : State) where
  abbrev behind : Value → State → Outcome Value
  behind w s = forms.trailers ts w f s

  pub attribute_stepped : (n : Name) → next_trailer (forms.attribute n) ts v f s ≡ on_value (step_end s) (λ _ s. with_attribute n ts v f s)
  attribute_stepped n = then_then (step_end s) (λ _ s. get_attribute v n f s) behind

  pub item_stepped : (x : Meaning) → next_trailer (forms.item x) ts v f s ≡ step_to x (with_item v ts) f s
  item_stepped x =
      then_then (step_end s) (λ _ s. on_value (x f s) (λ i s. get_item v i f s)) behind
      ∙ on_same (step_end s) (λ _ s. on_value (on_value (x f s) (λ i s. get_item v i f s)) behind) (λ _ s. on_value (x f s) (λ i s. with_item v ts i f s))
      (λ u t. then_then (x f t) (λ i s. get_item v i f s) behind)
