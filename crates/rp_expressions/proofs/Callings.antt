-- Calls, from what is known of the arguments at hand.
use Rattle.std.proofs.Common.{◌≡◌, ℕ, suc, List, [], ◌∷◌, ◌++◌, drop, reverse, take, Option, Some, Result, Ok, Err, refl, sym, ap, ◌∙◌, subst}
use Rattle.std.specs.Prelude.{OnOk}
use Rattle.std.proofs.lemmas.List.Elements.{All-weaker}
use Rattle.rp_base.specs.declared.value.OpEnd.{OpEnd}
use Rattle.rp_base.specs.declared.value.Value.{Value}
use Rattle.rp_base.specs.declared.value.Side.{Side}
use Rattle.rp_frame.specs.Top.{top}
use Rattle.rp_frame.specs.declared.activation.Activation.{Activation}
use Rattle.rp_meaning.specs.Calls.{Argument}
use Rattle.rp_meaning.specs.Expressions as forms
use Rattle.rp_meaning.specs.Frame.{Frame, Meaning, Run}
use Rattle.rp_meaning.specs.State.{State, Outcome}
use Rattle.rp_meaning.proofs.Laws.{then_then}
use Rattle.rp_ops.specs.Outcome.{on_value}
use Rattle.rp_proxy.specs.declared.world.World.{World}
use Rattle.rp_store.specs.Kept.{AreSound, IsFit, IsSound}
use Rattle.rp_engine.specs.ArgumentSteps.{with_arguments}
use Rattle.rp_expressions.specs.Arguments.{Calls}
use Rattle.rp_access.specs.Calling.{CallComes}
use Rattle.rp_access.specs.Comes.{IsEnd}
use Rattle.rp_engine.specs.Law.{Evaluates, frame_in, rest_of}
use Rattle.rp_access.specs.Moment.{state_of}
use Rattle.rp_access.specs.Parts.{step_end}
use Rattle.rp_engine.specs.Ready.{IsReady}
use Rattle.rp_engine.specs.Rest.{gave, rest}
use Rattle.rp_engine.specs.TrailerSteps.{next_trailer}
use Rattle.rp_engine.specs.declared.halt.Halt.{Halt}
use Rattle.rp_engine.specs.declared.machine.Machine.{Machine}
use Rattle.rp_engine.specs.declared.units.Units.{Units}
use Rattle.rp_engine.proofs.AtHand.{drop_ready, top_fit}
use Rattle.rp_access.proofs.Going.{IsEnd-then, gives-then}
use Rattle.rp_engine.proofs.Lasts.{last_fit, reverse_cons}
use Rattle.rp_engine.proofs.Moves.{on_ok}
use Rattle.rp_engine.proofs.Passing.{ready_forgot}

module _ (ts : List (Value → Meaning)) (f : Value) (frame : Frame) where
  abbrev behind : Value → State → Outcome Value
  behind w s = forms.trailers ts w frame s

  -- a call with its step
  pub call_stepped : (as' : List Argument) (s : State) → next_trailer (forms.call as') ts f frame s ≡ on_value (step_end s) (λ _ s. with_arguments as' ts f [] frame s)
  call_stepped as' s = then_then (step_end s) (λ _ s. forms.call as' f frame s) behind

module _ (m n : Machine) (w v : World) (r : Result (Unit {0}) Halt) (as' : List Argument) (ts : List (Value → Meaning)) where
  -- the callee is at hand
  pub begins : (h : Machine) (f : Value) → h ≡ record m { values = f ∷ m.values } → OnOk r (Calls 0 as' ts h w n v) → OnOk r (Evaluates (with_arguments as' ts f []) m w n v)
  begins h f is law = subst (λ (z : Machine). OnOk r (Calls 0 as' ts z w n v)) is law

  -- one more argument is at hand
  abbrev pub Next : ℕ → Value → Type 0
  Next i a = (base : Run) → rest_of base n (state_of v) ≡ rest m.tasks (gave (frame_in base m) (drop (suc i) m.values)
      (with_arguments as' ts (top (drop i m.values)) (reverse (take i m.values) ++ a ∷ []) (frame_in base m) (state_of w)))

  next_held : (i : ℕ) (a : Value) → Calls (suc i) as' ts (record m { values = a ∷ m.values }) w n v → Next i a
  next_held i a law base = law base ∙ ap (λ us. rest m.tasks (gave (frame_in base m) (drop (suc i) m.values)
      (with_arguments as' ts (top (drop i m.values)) us (frame_in base m) (state_of w)))) (reverse_cons a (take i m.values))

  pub argument_held : (h : Machine) (i j : ℕ) (a : Value) → h ≡ record m { values = a ∷ m.values } → j ≡ suc i → OnOk r (Calls j as' ts h w n v) → OnOk r (Next i a)
  argument_held h i j a is next law =
      on_ok r (Calls (suc i) as' ts (record m { values = a ∷ m.values }) w n v) (Next i a) (next_held i a)
      (subst (λ (k : ℕ). OnOk r (Calls k as' ts (record m { values = a ∷ m.values }) w n v)) next (subst (λ (z : Machine). OnOk r (Calls j as' ts z w n v)) is law))

-- the callee and the arguments are dropped
module _ (m h n : Machine) (r : Result (Unit {0}) Halt) (i j : ℕ) (dropped : h ≡ record m { values = drop j m.values }) (is : j ≡ suc i) where
  left : h ≡ record m { values = drop (suc i) m.values }
  left = dropped ∙ ap (λ k. record m { values = drop k m.values }) is

  pub dropped_trailers : (ts : List (Value → Meaning)) (v : Value) → OnOk r ((w : World) → Evaluates (forms.trailers ts v) h w n w)
      → OnOk r ((w : World) (base : Run) → rest_of base n (state_of w) ≡ rest m.tasks (gave (frame_in base m) (drop (suc i) m.values) (forms.trailers ts v (frame_in base m) (state_of w))))
  dropped_trailers ts v law = subst (λ (z : Machine). OnOk r ((w : World) → Evaluates (forms.trailers ts v) z w n w)) left law

  pub dropped_end : (e : OpEnd) → OnOk r ((base : Run) (s : State) (o : Outcome Value) → IsEnd e s o → rest_of base n s ≡ rest h.tasks (gave (frame_in base h) h.values o))
      → OnOk r ((base : Run) (s : State) (o : Outcome Value) → IsEnd e s o → rest_of base n s ≡ rest m.tasks (gave (frame_in base m) (drop (suc i) m.values) o))
  dropped_end e law = subst (λ (z : Machine). OnOk r ((base : Run) (s : State) (o : Outcome Value) → IsEnd e s o → rest_of base n s ≡ rest z.tasks (gave (frame_in base z) z.values o))) left law

  pub ready_dropped : (w : World) → IsReady m.units.now m.frame m.values w → IsReady h.units.now h.frame h.values w
  ready_dropped w ready = ready_forgot m h j dropped w ready

  pub fit_dropped : (w : World) (v : Value) → IsFit w.store.heap m.frame.side v → IsFit w.store.heap h.frame.side v
  fit_dropped w v fit = subst (λ (z : Machine). IsFit w.store.heap z.frame.side v) (sym dropped) fit

-- what is at hand

pub sound_last : (units : Units) (a : Activation) (n : ℕ) (vs : List Value) (w : World) → IsReady units a vs w → AreSound w.store.heap (reverse (take n vs))
sound_last units a n vs w ready =
    All-weaker (IsFit w.store.heap a.side) (IsSound w.store.heap) (λ v fit. fit.0) (reverse (take n vs)) (last_fit units a n vs w ready)

pub sound_under : (units : Units) (a : Activation) (n : ℕ) (vs : List Value) (w : World) (v : Value) → v ≡ top (drop n vs) → IsReady units a vs w → IsSound w.store.heap v
sound_under units a n vs w v is ready = subst (IsSound w.store.heap) (sym is) (top_fit units a (drop n vs) w (drop_ready units a n vs w ready)).0

pub call_same : (side : Side) (f g : Value) (vs us : List Value) (r : Result (Option Value) OpEnd) (w u : World) → g ≡ f → us ≡ vs → CallComes side g us r w u → CallComes side f vs r w u
call_same side f g vs us r w u same all comes =
    subst (λ (f : Value). CallComes side f vs r w u) same (subst (λ (vs : List Value). CallComes side g vs r w u) all comes)

-- all are at hand
module _ (m n : Machine) (w u : World) (r : Result (Unit {0}) Halt) (i : ℕ) (ts : List (Value → Meaning)) where
  abbrev pub callee : Value
  callee = top (drop i m.values)

  abbrev pub values : List Value
  values = reverse (take i m.values)

  pub call_gives : (a : Value) → CallComes m.frame.side callee values (Ok (Some a)) w u
      → OnOk r ((z : World) (base : Run) → rest_of base n (state_of z) ≡ rest m.tasks (gave (frame_in base m) (drop (suc i) m.values) (forms.trailers ts a (frame_in base m) (state_of z))))
      → OnOk r (Calls i [] ts m w n u)
  call_gives a comes h = on_ok r
      ((z : World) (base : Run) → rest_of base n (state_of z) ≡ rest m.tasks (gave (frame_in base m) (drop (suc i) m.values) (forms.trailers ts a (frame_in base m) (state_of z))))
      (Calls i [] ts m w n u)
      (λ law base. law u base ∙ ap (λ o. rest m.tasks (gave (frame_in base m) (drop (suc i) m.values) o))
      (sym (gives-then a (state_of u) _ (λ w s. forms.trailers ts w (frame_in base m) s) (comes (frame_in base m) refl)))) h

  pub call_ends : (e : OpEnd) → CallComes m.frame.side callee values (Err e) w u
      → OnOk r ((base : Run) (s : State) (o : Outcome Value) → IsEnd e s o → rest_of base n s ≡ rest m.tasks (gave (frame_in base m) (drop (suc i) m.values) o))
      → OnOk r (Calls i [] ts m w n u)
  call_ends e comes h = on_ok r
      ((base : Run) (s : State) (o : Outcome Value) → IsEnd e s o → rest_of base n s ≡ rest m.tasks (gave (frame_in base m) (drop (suc i) m.values) o))
      (Calls i [] ts m w n u)
      (λ law base. law base (state_of u) _ (IsEnd-then e (state_of u) _ (λ w s. forms.trailers ts w (frame_in base m) s) (comes (frame_in base m) refl))) h
