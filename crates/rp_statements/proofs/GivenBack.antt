-- `return`, from what is known of its value and of what took it up.
use Rattle.std.proofs.Common.{◌≡◌, ℕ, Result, drop, sym, ap, ◌∙◌, subst}
use Rattle.std.specs.Prelude.{OnOk}
use Rattle.rp_base.specs.declared.value.OpEnd.{OpEnd}
use Rattle.rp_base.specs.declared.value.Value.{Value}
use Rattle.rp_frame.specs.Top.{below, top}
use Rattle.rp_frame.specs.declared.task.Task.{Task}
use Rattle.rp_meaning.specs.Frame.{Meaning, Run}
use Rattle.rp_meaning.specs.State.{State, returned}
use Rattle.rp_meaning.specs.Statements as stmt_forms
use Rattle.std.specs.Prelude.{Some}
use Rattle.rp_ops.specs.Outcome.{gives}
use Rattle.rp_proxy.specs.declared.world.World.{World}
use Rattle.rp_store.specs.Kept.{IsFit}
use Rattle.rp_access.specs.Comes.{IsEnd}
use Rattle.rp_access.specs.Moment.{state_of}
use Rattle.rp_access.proofs.Going.{IsEnd-then, gives-then}
use Rattle.rp_engine.specs.Law.{frame_in, rest_of}
use Rattle.rp_engine.specs.Rest.{after, did, rest}
use Rattle.rp_engine.specs.declared.halt.Halt.{Halt}
use Rattle.rp_engine.specs.declared.machine.Machine.{Machine}
use Rattle.rp_engine.proofs.Moves.{on_ok}

-- the value was taken off
module _ (m p : Machine) (off : p ≡ record m { values = below m.values }) where
  pub taken_up : (n : Machine) (w v : World) (r : Result (Unit {0}) Halt) (t : Task) (x : Value) → x ≡ top m.values
      → OnOk r ((base : Run) → rest_of base n (state_of v) ≡ rest p.tasks (after t (did (frame_in base p) p.values (gives (returned x) (state_of w)))))
      → OnOk r ((base : Run) → rest_of base n (state_of v) ≡ rest m.tasks (after t (did (frame_in base m) (below m.values) (gives (returned (top m.values)) (state_of w)))))
  taken_up n w v r t x is h =
      on_ok r ((base : Run) → rest_of base n (state_of v) ≡ rest p.tasks (after t (did (frame_in base p) p.values (gives (returned x) (state_of w)))))
      ((base : Run) → rest_of base n (state_of v) ≡ rest m.tasks (after t (did (frame_in base m) (below m.values) (gives (returned (top m.values)) (state_of w)))))
      (λ law base. subst (λ (z : Machine). rest_of base n (state_of v) ≡ rest z.tasks (after t (did (frame_in base z) z.values (gives (returned x) (state_of w))))) off (law base)
      ∙ ap (λ x. rest m.tasks (after t (did (frame_in base m) (below m.values) (gives (returned x) (state_of w))))) is) h

  pub fit_off : (w : World) (x : Value) → IsFit w.store.heap m.frame.side x → IsFit w.store.heap p.frame.side x
  fit_off w x fit = subst (λ (z : Machine). IsFit w.store.heap z.frame.side x) (sym off) fit

-- values at hand were dropped
module _ (m g : Machine) (k : ℕ) (less : g ≡ record m { values = drop k m.values }) where
  pub returned_less : (n : Machine) (r : Result (Unit {0}) Halt) (v : Value)
      → OnOk r ((base : Run) (s : State) → rest_of base n s ≡ rest g.tasks (did (frame_in base g) g.values (gives (returned v) s)))
      → OnOk r ((base : Run) (s : State) → rest_of base n s ≡ rest m.tasks (did (frame_in base m) (drop k m.values) (gives (returned v) s)))
  returned_less n r v law =
      subst (λ (z : Machine). OnOk r ((base : Run) (s : State) → rest_of base n s ≡ rest z.tasks (did (frame_in base z) z.values (gives (returned v) s)))) less law

  pub fit_less : (w : World) (v : Value) → IsFit w.store.heap m.frame.side v → IsFit w.store.heap g.frame.side v
  fit_less w v fit = subst (λ (z : Machine). IsFit w.store.heap z.frame.side v) (sym less) fit

pub less_executes : (m n : Machine) (r : Result (Unit {0}) Halt) (k : ℕ) (v : Value) (w : World)
    → OnOk r ((base : Run) (s : State) → rest_of base n s ≡ rest m.tasks (did (frame_in base m) (drop k m.values) (gives (returned v) s)))
    → OnOk r ((base : Run) → rest_of base n (state_of w) ≡ rest m.tasks (did (frame_in base m) (drop k m.values) (gives (returned v) (state_of w))))
less_executes m n r k v w h =
    on_ok r ((base : Run) (s : State) → rest_of base n s ≡ rest m.tasks (did (frame_in base m) (drop k m.values) (gives (returned v) s)))
    ((base : Run) → rest_of base n (state_of w) ≡ rest m.tasks (did (frame_in base m) (drop k m.values) (gives (returned v) (state_of w)))) (λ law base. law base (state_of w)) h

module _ (m : Machine) (w u : World) (x : Meaning) where
  pub returns_value : (v : Value) → ((base : Run) → x (frame_in base m) (state_of w) ≡ gives v (state_of u)) → (base : Run)
      → stmt_forms.give_back (Some x) (frame_in base m) (state_of w) ≡ gives (returned v) (state_of u)
  returns_value v is base = gives-then v (state_of u) _ (λ v s. gives (returned v) s) (is base)

  pub returns_end : (e : OpEnd) → ((base : Run) → IsEnd e (state_of u) (x (frame_in base m) (state_of w))) → (base : Run)
      → IsEnd e (state_of u) (stmt_forms.give_back (Some x) (frame_in base m) (state_of w))
  returns_end e is base = IsEnd-then e (state_of u) _ (λ v s. gives (returned v) s) (is base)
