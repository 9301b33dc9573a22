-- The law of a form from what is known of its first part, and of what the code does with its value.
use Rattle.std.proofs.Common.{◌≡◌, Result, sym, ap, ◌∙◌}
use Rattle.std.specs.Prelude.{OnOk}
use Rattle.rp_base.specs.declared.value.OpEnd.{OpEnd}
use Rattle.rp_base.specs.declared.value.Value.{Value}
use Rattle.rp_meaning.specs.Frame.{Meaning, Run}
use Rattle.rp_meaning.specs.State.{State, Outcome, stepped}
use Rattle.rp_meaning.proofs.Laws.{then_then}
use Rattle.rp_ops.specs.Outcome.{gives}
use Rattle.rp_proxy.specs.declared.world.World.{World}
use Rattle.rp_access.specs.Comes.{Comes, IsEnd}
use Rattle.rp_engine.specs.ExpressionSteps.{put_to, step_to}
use Rattle.rp_engine.specs.Law.{Evaluates, frame_in, rest_of}
use Rattle.rp_access.specs.Moment.{state_of}
use Rattle.rp_access.specs.Parts.{step_end}
use Rattle.rp_engine.specs.Rest.{gave, rest}
use Rattle.rp_engine.specs.declared.halt.Halt.{Halt}
use Rattle.rp_engine.specs.declared.machine.Machine.{Machine}
use Rattle.rp_access.proofs.Going.{IsEnd-same, IsEnd-then, gives-then}
use Rattle.rp_engine.proofs.Moves.{as_ok, end_ok, goes_ok, on_ok}

-- the part, and going on from its value; the step is taken in the part
step_joined : (x : Meaning) (go : Value → Meaning) (m : Machine) (w : World) (base : Run)
    → step_to x go (frame_in base m) (state_of w) ≡ put_to (λ f s. stepped s (x f)) go (frame_in base m) (state_of w)
step_joined x go m w base = sym (then_then (step_end (state_of w)) (λ _ s. x (frame_in base m) s) (λ v s. go v (frame_in base m) s))

-- the machine before and after, the world before, once the part was tried, and after, and what was answered
module _ (m n : Machine) (w u v : World) (r : Result (Unit {0}) Halt) (x : Meaning) (go : Value → Meaning) where
  -- the part gave a value
  pub put : (a : Value) → ((base : Run) → x (frame_in base m) (state_of w) ≡ gives a (state_of u)) → OnOk r (Evaluates (go a) m u n v) → OnOk r (Evaluates (put_to x go) m w n v)
  put a is law = as_ok m n w v r (put_to x go) (go a) u (λ base. gives-then a (state_of u) _ (λ a s. go a (frame_in base m) s) (is base)) law

  pub step_put : (a : Value) → ((base : Run) → stepped (state_of w) (x (frame_in base m)) ≡ gives a (state_of u)) → OnOk r (Evaluates (go a) m u n v) → OnOk r (Evaluates (step_to x go) m w n v)
  step_put a is law = as_ok m n w v r (step_to x go) (go a) u
      (λ base. step_joined x go m w base ∙ gives-then a (state_of u) _ (λ a s. go a (frame_in base m) s) (is base)) law

-- the machine before and after, the world before and after, and what was answered
module _ (m n : Machine) (w u : World) (r : Result (Unit {0}) Halt) (x : Meaning) (go : Value → Meaning) where
  -- it is waited for
  pub put_waits : u ≡ w → OnOk r ((base : Run) (s : State) → rest_of base n s ≡ rest m.tasks (gave (frame_in base m) m.values (put_to x go (frame_in base m) s))) → OnOk r (Evaluates (put_to x go) m w n u)
  put_waits same law = goes_ok m n w u r (put_to x go) (put_to x go) (λ base. ap (λ z. put_to x go (frame_in base m) (state_of z)) (sym same)) law

  pub step_waits : step_end (state_of w) ≡ gives (tt {0}) (state_of u)
      → OnOk r ((base : Run) (s : State) → rest_of base n s ≡ rest m.tasks (gave (frame_in base m) m.values (put_to x go (frame_in base m) s))) → OnOk r (Evaluates (step_to x go) m w n u)
  step_waits is law = goes_ok m n w u r (step_to x go) (put_to x go) (λ base. gives-then (tt {0}) (state_of u) _ (λ _ s. put_to x go (frame_in base m) s) is) law

  -- it has no value
  pub put_ends : (e : OpEnd) → ((base : Run) → IsEnd e (state_of u) (x (frame_in base m) (state_of w)))
      → OnOk r ((base : Run) (s : State) (o : Outcome Value) → IsEnd e s o → rest_of base n s ≡ rest m.tasks (gave (frame_in base m) m.values o)) → OnOk r (Evaluates (put_to x go) m w n u)
  put_ends e is law = end_ok m n w u r (put_to x go) e (λ base. IsEnd-then e (state_of u) _ (λ a s. go a (frame_in base m) s) (is base)) law

  pub step_ends : (e : OpEnd) → ((base : Run) → IsEnd e (state_of u) (stepped (state_of w) (x (frame_in base m))))
      → OnOk r ((base : Run) (s : State) (o : Outcome Value) → IsEnd e s o → rest_of base n s ≡ rest m.tasks (gave (frame_in base m) m.values o)) → OnOk r (Evaluates (step_to x go) m w n u)
  step_ends e is law = end_ok m n w u r (step_to x go) e
      (λ base. IsEnd-same e (state_of u) _ _ (step_joined x go m w base) (IsEnd-then e (state_of u) _ (λ a s. go a (frame_in base m) s) (is base))) law

-- what was answered is given
pub answer_ok : (m n : Machine) (w v : World) (r : Result (Unit {0}) Halt) (x : Meaning) (a : Result Value OpEnd)
    → ((base : Run) → Comes a (state_of v) (x (frame_in base m) (state_of w)))
    → OnOk r ((base : Run) (s : State) (o : Outcome Value) → Comes a s o → rest_of base n s ≡ rest m.tasks (gave (frame_in base m) m.values o)) → OnOk r (Evaluates x m w n v)
answer_ok m n w v r x a is h =
    on_ok r ((base : Run) (s : State) (o : Outcome Value) → Comes a s o → rest_of base n s ≡ rest m.tasks (gave (frame_in base m) m.values o)) (Evaluates x m w n v)
    (λ law base. law base (state_of v) (x (frame_in base m) (state_of w)) (is base)) h

-- a value is given
pub give_value : (m n : Machine) (r : Result (Unit {0}) Halt) (a : Value)
    → OnOk r ((base : Run) (s : State) → rest_of base n s ≡ rest m.tasks (gave (frame_in base m) m.values (gives a s)))
    → OnOk r ((base : Run) (s : State) (o : Outcome Value) → o ≡ gives a s → rest_of base n s ≡ rest m.tasks (gave (frame_in base m) m.values o))
give_value m n r a h =
    on_ok r ((base : Run) (s : State) → rest_of base n s ≡ rest m.tasks (gave (frame_in base m) m.values (gives a s)))
    ((base : Run) (s : State) (o : Outcome Value) → o ≡ gives a s → rest_of base n s ≡ rest m.tasks (gave (frame_in base m) m.values o))
    (λ law base s o is. law base s ∙ ap (λ o. rest m.tasks (gave (frame_in base m) m.values o)) (sym is)) h
