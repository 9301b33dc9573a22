-- How the law of a statement follows from that of what its code does last.
use Rattle.std.proofs.Common.{◌≡◌, List, ◌∷◌, Result, Ok, Err, sym, ap, ◌∙◌}
use Rattle.std.specs.Prelude.{OnOk}
use Rattle.rp_base.specs.declared.value.OpEnd.{OpEnd}
use Rattle.rp_base.specs.declared.value.Value.{Value}
use Rattle.rp_frame.specs.declared.task.Task.{Task}
use Rattle.rp_meaning.specs.Frame.{Doing, Run}
use Rattle.rp_meaning.specs.State.{State, Outcome, Flow}
use Rattle.rp_proxy.specs.declared.world.World.{World}
use Rattle.rp_access.specs.Comes.{IsEnd}
use Rattle.rp_engine.specs.Law.{Executes, frame_in, rest_of}
use Rattle.rp_access.specs.Moment.{state_of}
use Rattle.rp_engine.specs.Rest.{Held, after, did, rest}
use Rattle.rp_engine.specs.declared.halt.Halt.{Halt}
use Rattle.rp_engine.specs.declared.machine.Machine.{Machine}
use Rattle.rp_engine.proofs.Moves.{executes_as, executes_end, on_ok}

-- what holds at any answer
pub always : {A E : Type 0} (r : Result A E) (P : Type 0) → P → OnOk r P
always (Ok a) P p = p
always (Err e) P p = tt

module _ (m n : Machine) (w v : World) where
  -- a part is waited for
  pub executes_goes : (D E : Doing) → ((base : Run) → D (frame_in base m) (state_of w) ≡ E (frame_in base m) (state_of v))
      → ((base : Run) (s : State) → rest_of base n s ≡ rest m.tasks (did (frame_in base m) m.values (E (frame_in base m) s))) → Executes D m w n v
  executes_goes D E same law base = law base (state_of v) ∙ ap (λ o. rest m.tasks (did (frame_in base m) m.values o)) (sym (same base))

-- the same laws, of what was answered
module _ (m n : Machine) (w v : World) (r : Result (Unit {0}) Halt) where
  pub does_as : (D E : Doing) (u : World) → ((base : Run) → D (frame_in base m) (state_of w) ≡ E (frame_in base m) (state_of u))
      → OnOk r (Executes E m u n v) → OnOk r (Executes D m w n v)
  does_as D E u same h = on_ok r (Executes E m u n v) (Executes D m w n v) (executes_as m n w v D E u same) h

  pub does_any : (D E : Doing) → ((base : Run) → D (frame_in base m) (state_of w) ≡ E (frame_in base m) (state_of v))
      → OnOk r ((u : World) → Executes E m u n u) → OnOk r (Executes D m w n v)
  does_any D E same h = on_ok r ((u : World) → Executes E m u n u) (Executes D m w n v) (λ law. executes_as m n w v D E v same (law v)) h

  pub does_goes : (D E : Doing) → ((base : Run) → D (frame_in base m) (state_of w) ≡ E (frame_in base m) (state_of v))
      → OnOk r ((base : Run) (s : State) → rest_of base n s ≡ rest m.tasks (did (frame_in base m) m.values (E (frame_in base m) s)))
      → OnOk r (Executes D m w n v)
  does_goes D E same h = on_ok r ((base : Run) (s : State) → rest_of base n s ≡ rest m.tasks (did (frame_in base m) m.values (E (frame_in base m) s)))
      (Executes D m w n v) (executes_goes m n w v D E same) h

  pub does_moves : (D E : Doing) → ((base : Run) → D (frame_in base m) (state_of w) ≡ E (frame_in base m) (state_of v))
      → ((base : Run) (s : State) → rest_of base n s ≡ rest m.tasks (did (frame_in base m) m.values (E (frame_in base m) s)))
      → OnOk r (Executes D m w n v)
  does_moves D E same law = always r (Executes D m w n v) (executes_goes m n w v D E same law)

  pub does_end : (D : Doing) (e : OpEnd) → ((base : Run) → IsEnd e (state_of v) (D (frame_in base m) (state_of w)))
      → OnOk r ((base : Run) (s : State) (o : Outcome Flow) → IsEnd e s o → rest_of base n s ≡ rest m.tasks (did (frame_in base m) m.values o))
      → OnOk r (Executes D m w n v)
  does_end D e is h = on_ok r ((base : Run) (s : State) (o : Outcome Flow) → IsEnd e s o → rest_of base n s ≡ rest m.tasks (did (frame_in base m) m.values o))
      (Executes D m w n v) (λ law. executes_end m n w v D e law is) h

-- the same, in any world
module _ (m n : Machine) (r : Result (Unit {0}) Halt) where
  pub moves_any : (D : Doing) → ((base : Run) (s : State) → rest_of base n s ≡ rest m.tasks (did (frame_in base m) m.values (D (frame_in base m) s)))
      → OnOk r ((w : World) → Executes D m w n w)
  moves_any D law = always r ((w : World) → Executes D m w n w) (λ w base. law base (state_of w))

-- what is left to be done, once a part has ended so, or so
module _ (m n : Machine) (v : World) (r : Result (Unit {0}) Halt) where
  pub held_by : (h g : Run → Held) → ((base : Run) → h base ≡ g base) → ((base : Run) → rest_of base n (state_of v) ≡ rest m.tasks (g base))
      → OnOk r ((base : Run) → rest_of base n (state_of v) ≡ rest m.tasks (h base))
  held_by h g same law = always r ((base : Run) → rest_of base n (state_of v) ≡ rest m.tasks (h base)) (λ base. law base ∙ ap (rest m.tasks) (sym (same base)))

  pub held_as : (h g : Run → Held) → ((base : Run) → h base ≡ g base) → OnOk r ((base : Run) → rest_of base n (state_of v) ≡ rest m.tasks (g base))
      → OnOk r ((base : Run) → rest_of base n (state_of v) ≡ rest m.tasks (h base))
  held_as h g same h2 = on_ok r ((base : Run) → rest_of base n (state_of v) ≡ rest m.tasks (g base)) ((base : Run) → rest_of base n (state_of v) ≡ rest m.tasks (h base))
      (λ law base. law base ∙ ap (rest m.tasks) (sym (same base))) h2

-- the same, in any state
module _ (m n : Machine) (r : Result (Unit {0}) Halt) where
  pub held_any : (h g : Run → State → Held) → ((base : Run) (s : State) → h base s ≡ g base s) → ((base : Run) (s : State) → rest_of base n s ≡ rest m.tasks (g base s))
      → OnOk r ((base : Run) (s : State) → rest_of base n s ≡ rest m.tasks (h base s))
  held_any h g same law = always r ((base : Run) (s : State) → rest_of base n s ≡ rest m.tasks (h base s)) (λ base s. law base s ∙ ap (rest m.tasks) (sym (same base s)))

-- a task was put upon the others, or a value and a task
module _ (m n : Machine) (w v : World) (r : Result (Unit {0}) Halt) (t : Task) (ts : List Task) where
  pub pushed : (D E : Doing) → ts ≡ t ∷ m.tasks
      → ((base : Run) → did (frame_in base m) m.values (D (frame_in base m) (state_of w)) ≡ after t (did (frame_in base m) m.values (E (frame_in base m) (state_of w))))
      → OnOk r (Executes E (record m { tasks = ts }) w n v) → OnOk r (Executes D m w n v)
  pushed D E is same h = on_ok r (Executes E (record m { tasks = ts }) w n v) (Executes D m w n v)
      (λ law base. law base ∙ ap (λ ts. rest ts (did (frame_in base m) m.values (E (frame_in base m) (state_of w)))) is ∙ ap (rest m.tasks) (sym (same base))) h

  pub pushed_with : (D E : Doing) (a : Value) (us : List Value) → us ≡ a ∷ m.values → ts ≡ t ∷ m.tasks
      → ((base : Run) → did (frame_in base m) m.values (D (frame_in base m) (state_of w)) ≡ after t (did (frame_in base m) (a ∷ m.values) (E (frame_in base m) (state_of w))))
      → OnOk r (Executes E (record m { tasks = ts; values = us }) w n v) → OnOk r (Executes D m w n v)
  pushed_with D E a us has is same h = on_ok r (Executes E (record m { tasks = ts; values = us }) w n v) (Executes D m w n v)
      (λ law base. law base ∙ ap (λ us. rest ts (did (frame_in base m) us (E (frame_in base m) (state_of w)))) has
      ∙ ap (λ ts. rest ts (did (frame_in base m) (a ∷ m.values) (E (frame_in base m) (state_of w)))) is ∙ ap (rest m.tasks) (sym (same base))) h
