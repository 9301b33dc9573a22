-- Displays, from what is known of the elements at hand.
use Rattle.std.proofs.Common.{◌≡◌, ℕ, suc, List, [], ◌∷◌, ◌++◌, drop, reverse, take, Result, Ok, Err, refl, sym, ap, ◌∙◌, subst}
use Rattle.std.specs.Prelude.{OnOk}
use Rattle.std.proofs.lemmas.List.{append-nil}
use Rattle.rp_base.specs.declared.value.OpEnd.{OpEnd}
use Rattle.rp_base.specs.declared.value.OpEnd.TheVariants as end
use Rattle.rp_base.specs.declared.value.Oid.{Oid}
use Rattle.rp_base.specs.declared.value.Side.{Side}
use Rattle.rp_base.specs.declared.value.Value.{Value}
use Rattle.rp_base.specs.declared.value.Value.TheVariants as value
use Rattle.rp_frame.specs.declared.display.Display.{Display}
use Rattle.rp_frame.specs.declared.display.Display.TheVariants as kind
use Rattle.rp_meaning.specs.Frame.{Frame, Meaning, Run}
use Rattle.rp_meaning.specs.State.{State, Outcome, lifted, plainly}
use Rattle.rp_meaning.proofs.Laws.{items_more}
use Rattle.rp_ops.specs.Binary.{new_object}
use Rattle.rp_ops.specs.Outcome as plain
use Rattle.rp_ops.specs.Outcome.{Answers, End, gives, on_answer, on_found, on_value}
use Rattle.rp_proxy.specs.declared.world.World.{World}
use Rattle.rp_proxy.proofs.LaterStores.{with_store}
use Rattle.rp_store.specs.Object.{Content}
use Rattle.rp_store.specs.Store.{Cells}
use Rattle.rp_access.specs.Comes.{Comes, IsEnd}
use Rattle.rp_engine.specs.DisplaySteps.{display, displayed, elements, makes_display, makes_of}
use Rattle.rp_engine.specs.GatheringSteps.{Gathers}
use Rattle.rp_engine.specs.Law.{Evaluates, frame_in, rest_of}
use Rattle.rp_access.specs.Moment.{state_of}
use Rattle.rp_access.specs.Parts.{step_end}
use Rattle.rp_engine.specs.Rest.{gave, rest}
use Rattle.rp_engine.specs.declared.halt.Halt.{Halt}
use Rattle.rp_engine.specs.declared.machine.Machine.{Machine}
use Rattle.rp_access.proofs.Going.{Comes-lifted, Comes-same, IsEnd-same, IsEnd-then, gives-then}
use Rattle.rp_engine.proofs.Lasts.{reverse_cons}
use Rattle.rp_engine.proofs.Moves.{on_ok}

-- the step of a display
display_is : (d : Display) (ms : List Meaning) (f : Frame) (s : State) → display d ms f s ≡ on_value (step_end s) (λ _ s. elements d ms [] f s)
display_is kind.List ms f s = refl
display_is kind.Tuple ms f s = refl
display_is kind.Dict ms f s = refl

module _ (m n : Machine) (w u v : World) (r : Result (Unit {0}) Halt) (d : Display) where
  -- it begins with no element at hand
  pub displays : (ms : List Meaning) → step_end (state_of w) ≡ gives (tt {0}) (state_of u) → OnOk r (Gathers d 0 ms m u n v) → OnOk r (Evaluates (display d ms) m w n v)
  displays ms is h = on_ok r (Gathers d 0 ms m u n v) (Evaluates (display d ms) m w n v)
      (λ law base. law base ∙ ap (λ o. rest m.tasks (gave (frame_in base m) m.values o))
      (sym (display_is d ms (frame_in base m) (state_of w) ∙ gives-then (tt {0}) (state_of u) _ (λ _ s. elements d ms [] (frame_in base m) s) is))) h

module _ (m n : Machine) (w : World) (r : Result (Unit {0}) Halt) (d : Display) (i : ℕ) where
  -- the next element is waited for
  abbrev Waits : Meaning → List Meaning → Type 0
  Waits x ms = (base : Run) (s : State) → rest_of base n s
      ≡ rest m.tasks (gave (frame_in base m) (drop i m.values) (on_value (x (frame_in base m) s) (λ v s. elements d ms (reverse (take i m.values) ++ v ∷ []) (frame_in base m) s)))

  pub gathers_more : (x : Meaning) (ms : List Meaning) → OnOk r (Waits x ms) → OnOk r (Gathers d i (x ∷ ms) m w n w)
  gathers_more x ms h = on_ok r (Waits x ms) (Gathers d i (x ∷ ms) m w n w)
      (λ law base. law base (state_of w) ∙ ap (λ o. rest m.tasks (gave (frame_in base m) (drop i m.values) o))
      (sym (items_more x ms (reverse (take i m.values)) (λ vs s. makes_display (frame_in base m).side d vs s) (frame_in base m) (state_of w)))) h

-- the world is as it was
pub gathers_waits : (m n : Machine) (w u : World) (r : Result (Unit {0}) Halt) (d : Display) (i : ℕ) (x : Meaning) (ms : List Meaning) → u ≡ w → OnOk r (Waits m n w r d i x ms) → OnOk r (Gathers d i (x ∷ ms) m w n u)
gathers_waits m n w u r d i x ms same h = subst (λ (u : World). OnOk r (Gathers d i (x ∷ ms) m w n u)) (sym same) (gathers_more m n w r d i x ms h)

-- the next element gave a value
pub gathers_value : (m n : Machine) (w u : World) (r : Result (Unit {0}) Halt) (d : Display) (i : ℕ) (x : Meaning) (ms : List Meaning) (a : Value) → ((base : Run) → x (frame_in base m) (state_of w) ≡ gives a (state_of u))
    → OnOk r ((base : Run) (s : State) → rest_of base n s ≡ rest m.tasks (gave (frame_in base m) (drop i m.values) (elements d ms (reverse (take i m.values) ++ a ∷ []) (frame_in base m) s)))
    → OnOk r (Gathers d i (x ∷ ms) m w n u)
gathers_value m n w u r d i x ms a is h =
    on_ok r ((base : Run) (s : State) → rest_of base n s ≡ rest m.tasks (gave (frame_in base m) (drop i m.values) (elements d ms (reverse (take i m.values) ++ a ∷ []) (frame_in base m) s)))
    (Gathers d i (x ∷ ms) m w n u)
    (λ law base. law base (state_of u) ∙ ap (λ o. rest m.tasks (gave (frame_in base m) (drop i m.values) o))
    (sym (items_more x ms (reverse (take i m.values)) (λ vs s. makes_display (frame_in base m).side d vs s) (frame_in base m) (state_of w)
    ∙ gives-then a (state_of u) (x (frame_in base m) (state_of w)) (λ v s. elements d ms (reverse (take i m.values) ++ v ∷ []) (frame_in base m) s) (is base)))) h

-- it has none
pub gathers_end : (m n : Machine) (w u : World) (r : Result (Unit {0}) Halt) (d : Display) (i : ℕ) (x : Meaning) (ms : List Meaning) (e : OpEnd) → ((base : Run) → IsEnd e (state_of u) (x (frame_in base m) (state_of w)))
    → OnOk r ((base : Run) (s : State) (o : Outcome Value) → IsEnd e s o → rest_of base n s ≡ rest m.tasks (gave (frame_in base m) (drop i m.values) o))
    → OnOk r (Gathers d i (x ∷ ms) m w n u)
gathers_end m n w u r d i x ms e is h =
    on_ok r ((base : Run) (s : State) (o : Outcome Value) → IsEnd e s o → rest_of base n s ≡ rest m.tasks (gave (frame_in base m) (drop i m.values) o)) (Gathers d i (x ∷ ms) m w n u)
    (λ law base. law base (state_of u) _ (IsEnd-same e (state_of u) _ _
    (items_more x ms (reverse (take i m.values)) (λ vs s. makes_display (frame_in base m).side d vs s) (frame_in base m) (state_of w))
    (IsEnd-then e (state_of u) (x (frame_in base m) (state_of w)) (λ v s. elements d ms (reverse (take i m.values) ++ v ∷ []) (frame_in base m) s) (is base)))) h

-- some values were dropped before
pub forgot_end : (m z n : Machine) (r : Result (Unit {0}) Halt) (i : ℕ) (e : OpEnd) → z ≡ record m { values = drop i m.values }
    → OnOk r ((base : Run) (s : State) (o : Outcome Value) → IsEnd e s o → rest_of base n s ≡ rest z.tasks (gave (frame_in base z) z.values o))
    → OnOk r ((base : Run) (s : State) (o : Outcome Value) → IsEnd e s o → rest_of base n s ≡ rest m.tasks (gave (frame_in base m) (drop i m.values) o))
forgot_end m z n r i e is h =
    subst (λ (z : Machine). OnOk r ((base : Run) (s : State) (o : Outcome Value) → IsEnd e s o → rest_of base n s ≡ rest z.tasks (gave (frame_in base z) z.values o))) is h

-- all are at hand
gathers_all : (m n : Machine) (w v : World) (r : Result (Unit {0}) Halt) (d : Display) (i : ℕ) (vs : List Value) (a : Result Value OpEnd) → vs ≡ reverse (take i m.values)
    → Comes a (state_of v) (makes_display m.frame.side d vs (state_of w))
    → OnOk r ((base : Run) (s : State) (o : Outcome Value) → Comes a s o → rest_of base n s ≡ rest m.tasks (gave (frame_in base m) (drop i m.values) o))
    → OnOk r (Gathers d i [] m w n v)
gathers_all m n w v r d i vs a are is h =
    on_ok r ((base : Run) (s : State) (o : Outcome Value) → Comes a s o → rest_of base n s ≡ rest m.tasks (gave (frame_in base m) (drop i m.values) o)) (Gathers d i [] m w n v)
    (λ law base. law base (state_of v) _ (subst (λ (us : List Value). Comes a (state_of v) (makes_display m.frame.side d us (state_of w)))
    (are ∙ sym (append-nil (reverse (take i m.values)))) is)) h

-- they were taken off
pub gathers_taken : (m z n : Machine) (w v : World) (r : Result (Unit {0}) Halt) (d : Display) (i : ℕ) (vs : List Value) (a : Result Value OpEnd) → z ≡ record m { values = drop i m.values }
    → vs ≡ reverse (take i m.values) → Comes a (state_of v) (makes_display z.frame.side d vs (state_of w))
    → OnOk r ((base : Run) (s : State) (o : Outcome Value) → Comes a s o → rest_of base n s ≡ rest z.tasks (gave (frame_in base z) z.values o))
    → OnOk r (Gathers d i [] m w n v)
gathers_taken m z n w v r d i vs a left are is h =
    gathers_all m n w v r d i vs a are (subst (λ (z : Machine). Comes a (state_of v) (makes_display z.frame.side d vs (state_of w))) left is)
    (subst (λ (z : Machine). OnOk r ((base : Run) (s : State) (o : Outcome Value) → Comes a s o → rest_of base n s ≡ rest z.tasks (gave (frame_in base z) z.values o))) left h)

-- one more element is at hand
module _ (m n : Machine) (w v : World) (r : Result (Unit {0}) Halt) (d : Display) (i : ℕ) (ms : List Meaning) (a : Value) where
  abbrev held : Machine
  held = record m { values = a ∷ m.values }

  abbrev Next : Type 0
  Next = (base : Run) → rest_of base n (state_of v)
      ≡ rest m.tasks (gave (frame_in base m) (drop i m.values) (elements d ms (reverse (take i m.values) ++ a ∷ []) (frame_in base m) (state_of w)))

  next_held : Gathers d (suc i) ms held w n v → Next
  next_held law base = law base ∙ ap (λ us. rest m.tasks (gave (frame_in base m) (drop i m.values) (elements d ms us (frame_in base m) (state_of w)))) (reverse_cons a (take i m.values))

  pub gathers_next : (j : ℕ) → j ≡ suc i → OnOk r (Gathers d j ms held w n v) → OnOk r Next
  gathers_next j is h = on_ok r (Gathers d j ms held w n v) Next (λ law. next_held (subst (λ (k : ℕ). Gathers d k ms held w n v) is law)) h

-- a new object, as a plain operation
made_by : (r : Result Oid End) (p : plain.State) (s : State) → on_value (lifted (record { answer = r; state = p }) s) (λ at s. gives (value.Ref at) s) ≡ lifted (on_answer r p (λ at p. gives (value.Ref at) p)) s
made_by (Ok at) p s = refl
made_by (Err e) p s = refl

makes_plainly : (side : Side) (c : Content) (s : State) → makes_of side c s ≡ plainly (new_object side c) s
makes_plainly side c s = made_by (plain.makes side c s.plain).answer (plain.makes side c s.plain).state s

-- an object is made, in a world with another store
pub object_made : (w : World) (store : Cells) (r : Result Value OpEnd) (side : Side) (c : Content)
    → plain.Meets r (plain.state_of store w.running.meter.left) (new_object side c (plain.state_of w.store w.running.meter.left))
    → Comes r (state_of (with_store w store)) (makes_of side c (state_of w))
object_made w store r side c is =
    Comes-same r (state_of (with_store w store)) _ _ (makes_plainly side c (state_of w))
    (Comes-lifted r (state_of w) (plain.state_of store w.running.meter.left) (new_object side c (plain.state_of w.store w.running.meter.left)) is)

-- a display is made, in a world with another store
pub display_made : (w : World) (store : Cells) (r : Result Value OpEnd) (side : Side) (d : Display) (vs : List Value) (c : Content) → displayed d vs ≡ Ok c
    → plain.Meets r (plain.state_of store w.running.meter.left) (new_object side c (plain.state_of w.store w.running.meter.left))
    → Comes r (state_of (with_store w store)) (makes_display side d vs (state_of w))
display_made w store r side d vs c found is =
    Comes-same r (state_of (with_store w store)) _ _ (ap (λ x. on_found x (state_of w) (makes_of side)) found ∙ makes_plainly side c (state_of w))
    (Comes-lifted r (state_of w) (plain.state_of store w.running.meter.left) (new_object side c (plain.state_of w.store w.running.meter.left)) is)

-- or its parts make none
pub display_refused : (w : World) (e : OpEnd) (side : Side) (d : Display) (vs : List Value) → Answers {A = Content} (Err e) (displayed d vs) → IsEnd e (state_of w) (makes_display side d vs (state_of w))
display_refused w (end.Raised r) side d vs is = ap (λ x. on_found x (state_of w) (makes_of side)) is
display_refused w end.StopSteps side d vs is = absurd is
display_refused w end.StopCells side d vs is = absurd is
display_refused w end.Memory side d vs is = tt
