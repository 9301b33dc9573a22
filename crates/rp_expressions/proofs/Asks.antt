-- Calls of code, once they are decided.
use Rattle.std.proofs.Common.{◌≡◌, ◌≢◌, ℕ, suc, Bool, true, false, true≢false, List, [], drop, reverse, take, Some, None, Result, refl, sym, ap, ◌∙◌, subst}
use Rattle.std.specs.Prelude.{IfNone, IfOk, OnOk, Option, is_some, not}
use Rattle.rp_base.specs.declared.value.OpEnd.{OpEnd}
use Rattle.rp_base.specs.declared.value.Oid.{Oid}
use Rattle.rp_base.specs.declared.value.Value.{Value}
use Rattle.rp_base.specs.declared.value.Value.TheVariants as value
use Rattle.rp_base.specs.declared.word.TheConstants.{CALL, LEN}
use Rattle.rp_frame.specs.Top.{top}
use Rattle.rp_frame.specs.declared.activation.Activation.{Activation}
use Rattle.rp_meaning.specs.Binding.{only}
use Rattle.rp_meaning.specs.BuiltIn.{length_given}
use Rattle.rp_meaning.specs.Calls as calls
use Rattle.rp_meaning.specs.Expressions as forms
use Rattle.rp_meaning.specs.Frame.{Frame, Meaning, Run, got}
use Rattle.rp_meaning.specs.State.{State, Outcome, heap_of}
use Rattle.rp_ops.specs.Outcome.{on_value}
use Rattle.rp_proxy.specs.declared.world.World.{World}
use Rattle.std.specs.Prelude.{slice_get}
use Rattle.rp_access.specs.Calling.{IsCallLeft}
use Rattle.rp_access.specs.Moment.{state_of}
use Rattle.rp_access.proofs.Going.{gives-then}
use Rattle.rp_engine.specs.ArgumentSteps.{sum_of}
use Rattle.rp_expressions.specs.Arguments.{AsksLeft, Calls}
use Rattle.rp_engine.specs.DefinitionSteps.{called, callee_of, with_called}
use Rattle.rp_engine.specs.Law.{frame_in, rest_of}
use Rattle.rp_engine.specs.Moment.{frame_of, run_of}
use Rattle.rp_engine.specs.Rest.{Held, gave, rest}
use Rattle.rp_engine.specs.SpecialSteps.{special_called, with_length}
use Rattle.rp_engine.specs.declared.halt.Halt.{Halt}
use Rattle.rp_engine.specs.declared.machine.Machine.{Machine}
use Rattle.rp_engine.specs.declared.units.Units.{Units}
use Rattle.rp_meaning.proofs.Laws.{then_then}
use Rattle.rp_engine.proofs.CodeCalls.{code_found}
use Rattle.rp_engine.proofs.Going.{asked_then}
use Rattle.rp_engine.proofs.Moves.{on_ok}
use Rattle.rp_engine.proofs.Specials.{function_left, last_is}
use Rattle.rp_expressions.proofs.Spreads.{size_plain}

module _ (base : Run) (units : Units) (a : Activation) where
  abbrev frame : Frame
  frame = frame_of (run_of base units) a

  found : Value → Oid → List Value → State → Outcome Value
  found v at vs s = on_value (calls.found_call at (slice_get (heap_of s) at.0) (only vs) frame s) (λ r s. got v r frame s)

  -- what a decided call does
  decided_call : (v : Value) (vs : List Value) (s t : State) → callee_of v ≢ None → IsCallLeft v vs s t → calls.call v (only vs) frame s ≡ called v (only vs) frame t
  unfolding found
  decided_call (value.Rock r) vs s t other left = absurd (other refl)
  decided_call (value.Ref at) vs s t other left = asked_then base units a CALL (value.Ref at) s (found (value.Ref at) at vs) ∙ gives-then (tt {0}) t _ (λ _ s. found (value.Ref at) at vs s) left.0
      ∙ ap (λ o. on_value o (λ r s. got (value.Ref at) r frame s)) (code_found (heap_of t) at (only vs) frame t (slice_get (heap_of t) at.0) left.1)
  decided_call (value.Prox at) vs s t other left = asked_then base units a CALL (value.Prox at) s (found (value.Prox at) at vs) ∙ gives-then (tt {0}) t _ (λ _ s. found (value.Prox at) at vs s) left.0
      ∙ ap (λ o. on_value o (λ r s. got (value.Prox at) r frame s)) (code_found (heap_of t) at (only vs) frame t (slice_get (heap_of t) at.0) left.1)

module _ (m n : Machine) (i : ℕ) (ts : List (Value → Meaning)) where
  abbrev callee : Value
  callee = top (drop i m.values)

  abbrev values : List Value
  values = reverse (take i m.values)

  abbrev held : Run → Outcome Value → Held
  held base o = rest m.tasks (gave (frame_in base m) (drop (suc i) m.values) o)

  -- where none of the arguments has a name
  pub asks_plain : (r : Result (Unit {0}) Halt)
      → OnOk r ((base : Run) (s : State) → rest_of base n s ≡ rest m.tasks (gave (frame_in base m) (drop (suc (sum_of i 0)) m.values)
      (with_called ts (top (drop (sum_of i 0) m.values)) values (frame_in base m) s)))
      → OnOk r ((base : Run) (s : State) → rest_of base n s ≡ held base (with_called ts callee values (frame_in base m) s))
  asks_plain r h = subst (λ (j : ℕ). OnOk r ((base : Run) (s : State) → rest_of base n s ≡ rest m.tasks (gave (frame_in base m) (drop (suc j) m.values)
      (with_called ts (top (drop j m.values)) values (frame_in base m) s)))) (size_plain i) h

  -- code of the store is called
  pub asks_code : (r : Result (Unit {0}) Halt) → callee_of callee ≢ None
      → OnOk r ((base : Run) (s : State) → rest_of base n s ≡ held base (with_called ts callee values (frame_in base m) s)) → OnOk r (AsksLeft i ts m n)
  asks_code r other h = on_ok r ((base : Run) (s : State) → rest_of base n s ≡ held base (with_called ts callee values (frame_in base m) s)) (AsksLeft i ts m n)
      (λ law base s t left. law base t ∙ ap (λ o. held base (on_value o (λ w s. forms.trailers ts w (frame_in base m) s)))
      (sym (decided_call base m.units.now m.frame callee values s t other left))) h

  -- or `__len__`, of the only argument
  pub asks_length : (r : Result (Unit {0}) Halt) → callee_of callee ≡ None
      → OnOk r ((base : Run) (s : State) → rest_of base n s ≡ held base (on_value (special_called LEN (top m.values) [] (frame_in base m) s) (λ r s. with_length ts r (frame_in base m) s)))
      → OnOk r (AsksLeft i ts m n)
  asks_length r none h = on_ok r ((base : Run) (s : State) → rest_of base n s
      ≡ held base (on_value (special_called LEN (top m.values) [] (frame_in base m) s) (λ r s. with_length ts r (frame_in base m) s))) (AsksLeft i ts m n)
      (λ law base s t left. law base t ∙ ap (held base)
      (sym (then_then (special_called LEN (top m.values) [] (frame_in base m) t) length_given (λ w s. forms.trailers ts w (frame_in base m) s))
      ∙ ap (λ o. on_value o (λ w s. forms.trailers ts w (frame_in base m) s))
      (sym (function_left base m.units.now m.frame callee (top m.values) values s t none (last_is i m.values) left)))) h

  pub asks : (w u : World) (r : Result (Unit {0}) Halt) → IsCallLeft callee values (state_of w) (state_of u) → OnOk r (AsksLeft i ts m n) → OnOk r (Calls i [] ts m w n u)
  asks w u r left h = on_ok r (AsksLeft i ts m n) (Calls i [] ts m w n u) (λ law base. law base (state_of w) (state_of u) left) h

-- whether it is a rock

pub rock_none : (v u : Value) (b : Bool) → u ≡ v → b ≡ not (is_some (callee_of u)) → b ≡ true → callee_of v ≡ None
rock_none v u b same is holds = none_is (callee_of v) (ap (λ (x : Value). not (is_some (callee_of x))) (sym same) ∙ sym is ∙ holds) where
  none_is : {A : Type 0} (o : Option A) → not (is_some o) ≡ true → o ≡ None
  none_is None e = refl
  none_is (Some a) e = absurd (true≢false (sym e))

pub code_some : (v u : Value) (b : Bool) → u ≡ v → b ≡ not (is_some (callee_of u)) → b ≡ false → callee_of v ≢ None
code_some v u b same is fails = λ none. true≢false (sym (ap (λ (o : Option (Oid × Bool)). not (is_some o)) none) ∙ ap (λ (x : Value). not (is_some (callee_of x))) (sym same) ∙ sym is ∙ fails)

pub left_same : (f g : Value) (vs us : List Value) (r : Result (Option Value) OpEnd) (s t : State) → g ≡ f → us ≡ vs
    → IfOk r (λ v. IfNone v (IsCallLeft g us s t)) → IfOk r (λ v. IfNone v (IsCallLeft f vs s t))
left_same f g vs us r s t same all h =
    subst (λ (f : Value). IfOk r (λ v. IfNone v (IsCallLeft f vs s t))) same (subst (λ (vs : List Value). IfOk r (λ v. IfNone v (IsCallLeft g vs s t))) all h)
