-- How the law of a form follows from that of what its code does last.
use Rattle.std.proofs.Common.{◌≡◌, Result, Ok, Err, sym, ap, ◌∙◌}
use Rattle.std.specs.Prelude.{OnOk}
use Rattle.rp_base.specs.declared.value.OpEnd.{OpEnd}
use Rattle.rp_base.specs.declared.value.Value.{Value}
use Rattle.rp_meaning.specs.Frame.{Meaning, Doing, Run}
use Rattle.rp_meaning.specs.State.{State, Outcome, Flow}
use Rattle.rp_proxy.specs.declared.world.World.{World}
use Rattle.rp_access.specs.Comes.{IsEnd}
use Rattle.rp_engine.specs.Law.{Evaluates, Executes, frame_in, rest_of}
use Rattle.rp_access.specs.Moment.{state_of}
use Rattle.rp_engine.specs.Rest.{rest, gave, did}
use Rattle.rp_engine.specs.declared.halt.Halt.{Halt}
use Rattle.rp_engine.specs.declared.machine.Machine.{Machine}

-- what holds at an answer but want of memory
pub on_ok : {A E : Type 0} (r : Result A E) (P Q : Type 0) → (P → Q) → OnOk r P → OnOk r Q
on_ok (Ok a) P Q go h = go h
on_ok (Err e) P Q go h = h

module _ (m n : Machine) (w v : World) where
  -- what comes to the same from a later world
  pub evaluates_as : (M N : Meaning) (u : World) → ((base : Run) → M (frame_in base m) (state_of w) ≡ N (frame_in base m) (state_of u)) → Evaluates N m u n v → Evaluates M m w n v
  evaluates_as M N u same law base = law base ∙ ap (λ o. rest m.tasks (gave (frame_in base m) m.values o)) (sym (same base))

  pub executes_as : (M N : Doing) (u : World) → ((base : Run) → M (frame_in base m) (state_of w) ≡ N (frame_in base m) (state_of u)) → Executes N m u n v → Executes M m w n v
  executes_as M N u same law base = law base ∙ ap (λ o. rest m.tasks (did (frame_in base m) m.values o)) (sym (same base))

  -- an end
  pub evaluates_end : (M : Meaning) (e : OpEnd)
      → ((base : Run) (s : State) (o : Outcome Value) → IsEnd e s o → rest_of base n s ≡ rest m.tasks (gave (frame_in base m) m.values o))
      → ((base : Run) → IsEnd e (state_of v) (M (frame_in base m) (state_of w))) → Evaluates M m w n v
  evaluates_end M e law is base = law base (state_of v) (M (frame_in base m) (state_of w)) (is base)

  pub executes_end : (M : Doing) (e : OpEnd)
      → ((base : Run) (s : State) (o : Outcome Flow) → IsEnd e s o → rest_of base n s ≡ rest m.tasks (did (frame_in base m) m.values o))
      → ((base : Run) → IsEnd e (state_of v) (M (frame_in base m) (state_of w))) → Executes M m w n v
  executes_end M e law is base = law base (state_of v) (M (frame_in base m) (state_of w)) (is base)

-- the same laws, of what was answered
module _ (m n : Machine) (w v : World) (r : Result (Unit {0}) Halt) where
  pub as_ok : (M N : Meaning) (u : World) → ((base : Run) → M (frame_in base m) (state_of w) ≡ N (frame_in base m) (state_of u))
      → OnOk r (Evaluates N m u n v) → OnOk r (Evaluates M m w n v)
  as_ok M N u same h = on_ok r (Evaluates N m u n v) (Evaluates M m w n v) (evaluates_as m n w v M N u same) h

  pub as_any_ok : (M N : Meaning) → ((base : Run) → M (frame_in base m) (state_of w) ≡ N (frame_in base m) (state_of v))
      → OnOk r ((u : World) → Evaluates N m u n u) → OnOk r (Evaluates M m w n v)
  as_any_ok M N same h = on_ok r ((u : World) → Evaluates N m u n u) (Evaluates M m w n v) (λ law. evaluates_as m n w v M N v same (law v)) h

  -- a part is waited for
  pub goes_ok : (M N : Meaning) → ((base : Run) → M (frame_in base m) (state_of w) ≡ N (frame_in base m) (state_of v))
      → OnOk r ((base : Run) (s : State) → rest_of base n s ≡ rest m.tasks (gave (frame_in base m) m.values (N (frame_in base m) s))) → OnOk r (Evaluates M m w n v)
  goes_ok M N same h = on_ok r ((base : Run) (s : State) → rest_of base n s ≡ rest m.tasks (gave (frame_in base m) m.values (N (frame_in base m) s))) (Evaluates M m w n v)
      (λ law base. law base (state_of v) ∙ ap (λ o. rest m.tasks (gave (frame_in base m) m.values o)) (sym (same base))) h

  pub end_ok : (M : Meaning) (e : OpEnd) → ((base : Run) → IsEnd e (state_of v) (M (frame_in base m) (state_of w)))
      → OnOk r ((base : Run) (s : State) (o : Outcome Value) → IsEnd e s o → rest_of base n s ≡ rest m.tasks (gave (frame_in base m) m.values o))
      → OnOk r (Evaluates M m w n v)
  end_ok M e is h = on_ok r ((base : Run) (s : State) (o : Outcome Value) → IsEnd e s o → rest_of base n s ≡ rest m.tasks (gave (frame_in base m) m.values o))
      (Evaluates M m w n v) (λ law. evaluates_end m n w v M e law is) h
