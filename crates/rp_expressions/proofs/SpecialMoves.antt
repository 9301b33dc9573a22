-- What the machine does around `__len__` and `__contains__`.
use Rattle.std.proofs.Common.{◌≡◌, ℕ, suc, Bool, List, [], ◌∷◌, drop, Result, sym, ap, ◌∙◌, subst}
use Rattle.std.specs.Prelude.{OnOk}
use Rattle.rp_base.specs.declared.value.OpEnd.{OpEnd}
use Rattle.rp_base.specs.declared.value.Value.{Value}
use Rattle.rp_base.specs.declared.word.TheConstants.{LEN}
use Rattle.rp_frame.specs.Top.{below, top}
use Rattle.rp_frame.specs.declared.control.Control.TheVariants as control
use Rattle.rp_frame.specs.declared.task.Task.{Task}
use Rattle.rp_meaning.specs.BuiltIn.{length_given}
use Rattle.rp_meaning.specs.Expressions as forms
use Rattle.rp_meaning.specs.Frame.{Meaning, Run}
use Rattle.rp_meaning.specs.State.{State, Outcome}
use Rattle.rp_ops.specs.Operand.{truth_of}
use Rattle.rp_ops.specs.Outcome.{gives, on_value}
use Rattle.rp_proxy.specs.declared.world.World.{World}
use Rattle.rp_tree.specs.declared.parts.Test.{Test}
use Rattle.rp_access.specs.Comes.{IsEnd}
use Rattle.rp_access.specs.Moment.{state_of}
use Rattle.rp_access.proofs.Going.{IsEnd-then}
use Rattle.rp_engine.specs.ComparisonSteps.{by_test}
use Rattle.rp_engine.specs.Law.{Evaluates, frame_in, rest_of}
use Rattle.rp_engine.specs.Rest.{after, begun, gave, rest}
use Rattle.rp_engine.specs.SpecialSteps.{holds_by, special_called, with_length}
use Rattle.rp_engine.specs.declared.halt.Halt.{Halt}
use Rattle.rp_engine.specs.declared.machine.Machine.{Machine}
use Rattle.rp_engine.proofs.Moves.{on_ok}
use Rattle.rp_engine.proofs.Specials.{drop_below}

-- `len` waits for what `__len__` gives, with the arguments and `len` dropped
pub length_waits : (m h k n : Machine) (r : Result (Unit {0}) Halt) (o : Value) (count : ℕ) (t : Task) → h ≡ record m { values = below m.values }
    → k ≡ record h { values = drop count h.values } → o ≡ top m.values
    → OnOk r ((base : Run) (s : State) → rest_of base n s ≡ rest k.tasks (after t (begun (frame_in base k) (control.Special LEN 0) (o ∷ k.values) k.end s)))
    → OnOk r ((base : Run) (s : State) → rest_of base n s ≡ rest m.tasks (after t (gave (frame_in base m) (drop (suc count) m.values) (special_called LEN (top m.values) [] (frame_in base m) s))))
length_waits m h k n r o count t first second is law =
    subst (λ (v : Value). Law (drop (suc count) m.values) v) is
    (subst (λ (vs : List Value). Law vs o) (drop_below count m.values)
    (subst (λ (z : Machine). Waits (record z { values = drop count z.values })) first (subst Waits second law))) where
      Waits : Machine → Type 0
      Waits z = OnOk r ((base : Run) (s : State) → rest_of base n s ≡ rest z.tasks (after t (begun (frame_in base z) (control.Special LEN 0) (o ∷ z.values) z.end s)))

      Law : List Value → Value → Type 0
      Law vs v = OnOk r ((base : Run) (s : State) → rest_of base n s ≡ rest m.tasks (after t (gave (frame_in base m) vs (special_called LEN v [] (frame_in base m) s))))

module _ (m n : Machine) (r : Result (Unit {0}) Halt) where
  -- a test goes on from what `__contains__` gave
  pub contained_resumes : (h : Machine) (w : World) (x : Test) (ts : List (Test × Meaning)) (b v : Value) (p q : Bool) → h ≡ record m { values = below m.values } → b ≡ top m.values
      → p ≡ holds_by x q → q ≡ truth_of w.store.heap v → OnOk r ((w : World) → Evaluates (by_test p b ts) h w n w)
      → OnOk r (Evaluates (by_test (holds_by x (truth_of w.store.heap v)) (top m.values) ts) (record m { values = below m.values }) w n w)
  contained_resumes h w x ts b v p q held b_is p_is q_is law =
      on_ok r ((u : World) → Evaluates (by_test (holds_by x (truth_of w.store.heap v)) (top m.values) ts) (record m { values = below m.values }) u n u)
      (Evaluates (by_test (holds_by x (truth_of w.store.heap v)) (top m.values) ts) (record m { values = below m.values }) w n w) (λ law. law w)
      (subst (λ (p : Bool). OnOk r ((w : World) → Evaluates (by_test p (top m.values) ts) (record m { values = below m.values }) w n w)) (p_is ∙ ap (holds_by x) q_is)
      (subst (λ (b : Value). OnOk r ((w : World) → Evaluates (by_test p b ts) (record m { values = below m.values }) w n w)) b_is
      (subst (λ (h : Machine). OnOk r ((w : World) → Evaluates (by_test p b ts) h w n w)) held law)))

  -- `len` goes on from what `__len__` gave

  pub length_resumes : (ts : List (Value → Meaning)) (v length : Value) → ((s : State) → length_given v s ≡ gives length s)
      → OnOk r ((w : World) → Evaluates (forms.trailers ts length) m w n w) → OnOk r ((w : World) → Evaluates (with_length ts v) m w n w)
  length_resumes ts v length is law = on_ok r ((w : World) → Evaluates (forms.trailers ts length) m w n w) ((w : World) → Evaluates (with_length ts v) m w n w)
      (λ law w base. law w base ∙ ap (λ o. rest m.tasks (gave (frame_in base m) m.values (on_value o (λ z s. forms.trailers ts z (frame_in base m) s)))) (sym (is (state_of w)))) law

  pub length_ends : (ts : List (Value → Meaning)) (v : Value) (e : OpEnd) → ((s : State) → IsEnd e s (length_given v s))
      → OnOk r ((base : Run) (s : State) (o : Outcome Value) → IsEnd e s o → rest_of base n s ≡ rest m.tasks (gave (frame_in base m) m.values o))
      → OnOk r ((w : World) → Evaluates (with_length ts v) m w n w)
  length_ends ts v e is law =
      on_ok r ((base : Run) (s : State) (o : Outcome Value) → IsEnd e s o → rest_of base n s ≡ rest m.tasks (gave (frame_in base m) m.values o)) ((w : World) → Evaluates (with_length ts v) m w n w)
      (λ law w base. law base (state_of w) (with_length ts v (frame_in base m) (state_of w))
      (IsEnd-then e (state_of w) (length_given v (state_of w)) (λ z s. forms.trailers ts z (frame_in base m) s) (is (state_of w)))) law
