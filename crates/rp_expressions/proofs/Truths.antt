-- What goes on by the truth of a value, from what is known of it.
use Rattle.std.proofs.Common.{◌≡◌, Bool, true, false, Result, Ok, Err, refl, ◌∙◌}
use Rattle.std.specs.Prelude.{not, OnOk}
use Rattle.rp_base.specs.declared.value.OpEnd.{OpEnd}
use Rattle.rp_base.specs.declared.value.Value.{Value}
use Rattle.rp_meaning.specs.Expressions as forms
use Rattle.rp_meaning.specs.Frame.{Meaning, Run}
use Rattle.rp_meaning.specs.State.{State, Outcome, choose}
use Rattle.rp_ops.specs.Outcome.{gives}
use Rattle.rp_proxy.specs.declared.world.World.{World}
use Rattle.rp_access.specs.Comes.{IsEnd}
use Rattle.rp_engine.specs.ExpressionSteps.{either, not_of, one_of}
use Rattle.rp_engine.specs.Law.{Evaluates, frame_in, rest_of}
use Rattle.rp_access.specs.Moment.{state_of}
use Rattle.rp_access.specs.Parts.{truth_asked}
use Rattle.rp_engine.specs.Rest.{gave, rest}
use Rattle.rp_engine.specs.declared.halt.Halt.{Halt}
use Rattle.rp_engine.specs.declared.machine.Machine.{Machine}
use Rattle.rp_access.proofs.Going.{IsEnd-same, IsEnd-then, gives-then}
use Rattle.rp_engine.proofs.Going.{truth_then}
use Rattle.rp_engine.proofs.Moves.{as_ok, end_ok, goes_ok}

module _ (m : Machine) (w u : World) (a : Value) (A B : Meaning) where
  -- once the truth is known
  either_is : (b : Bool) → truth_asked a (state_of w) ≡ gives b (state_of u) → (base : Run)
      → either A B a (frame_in base m) (state_of w) ≡ choose b (A (frame_in base m)) (B (frame_in base m)) (state_of u)
  either_is b is base = truth_then base m.units.now m.frame a (state_of w) (A (frame_in base m)) (B (frame_in base m))
      ∙ gives-then b (state_of u) _ (λ b s. choose b (A (frame_in base m)) (B (frame_in base m)) s) is

  either_ends : (e : OpEnd) → IsEnd e (state_of u) (truth_asked a (state_of w)) → (base : Run) → IsEnd e (state_of u) (either A B a (frame_in base m) (state_of w))
  either_ends e is base = IsEnd-same e (state_of u) _ _ (truth_then base m.units.now m.frame a (state_of w) (A (frame_in base m)) (B (frame_in base m)))
      (IsEnd-then e (state_of u) _ (λ b s. choose b (A (frame_in base m)) (B (frame_in base m)) s) is)

-- the machine before and after, the world before, once the truth was asked, and after, and what was answered
module _ (m n : Machine) (w u v : World) (r : Result (Unit {0}) Halt) (a : Value) where
  -- one of two, whichever it is
  pub one_of_two : (A B : Meaning) (b : Bool) → truth_asked a (state_of w) ≡ gives b (state_of u) → OnOk r (Evaluates (one_of b A B) m u n v) → OnOk r (Evaluates (either A B a) m w n v)
  one_of_two A B b is law = as_ok m n w v r (either A B a) (one_of b A B) u (either_is m w u a A B b is) law

module _ (m n : Machine) (w u : World) (r : Result (Unit {0}) Halt) (a : Value) where
  -- it has no truth
  pub no_truth : (A B : Meaning) (e : OpEnd) → IsEnd e (state_of u) (truth_asked a (state_of w))
      → OnOk r ((base : Run) (s : State) (o : Outcome Value) → IsEnd e s o → rest_of base n s ≡ rest m.tasks (gave (frame_in base m) m.values o)) → OnOk r (Evaluates (either A B a) m w n u)
  no_truth A B e is law = end_ok m n w u r (either A B a) e (either_ends m w u a A B e is) law

  not_is : (b : Bool) (s : State) → choose b (gives (forms.truth false)) (gives (forms.truth true)) s ≡ gives (forms.truth (not b)) s
  not_is true s = refl
  not_is false s = refl

  pub not_given : (b : Bool) → truth_asked a (state_of w) ≡ gives b (state_of u)
      → OnOk r ((base : Run) (s : State) → rest_of base n s ≡ rest m.tasks (gave (frame_in base m) m.values (gives (forms.truth (not b)) s))) → OnOk r (Evaluates (not_of a) m w n u)
  not_given b is law = goes_ok m n w u r (not_of a) (λ f s. gives (forms.truth (not b)) s)
      (λ base. either_is m w u a (λ f s. gives (forms.truth false) s) (λ f s. gives (forms.truth true) s) b is base ∙ not_is b (state_of u)) law

-- whatever is answered
pub anyway : {A E : Type 0} (r : Result A E) (P : Type 0) → P → OnOk r P
anyway (Ok a) P h = h
anyway (Err e) P h = tt
