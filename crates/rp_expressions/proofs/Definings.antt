-- Definitions of functions, from what is known of the defaults at hand.
use Rattle.std.proofs.Common.{◌≡◌, ℕ, suc, List, [], ◌∷◌, ◌++◌, drop, reverse, take, Option, Some, None, Result, Ok, Err, sym, ap, ◌∙◌, subst}
use Rattle.std.specs.Prelude.{OnErr, OnOk}
use Rattle.std.proofs.lemmas.List.{append-nil}
use Rattle.rp_base.specs.declared.value.Name.{Name}
use Rattle.rp_base.specs.declared.value.OpEnd.{OpEnd}
use Rattle.rp_base.specs.declared.value.Oid.{Oid}
use Rattle.rp_base.specs.declared.value.Side.{Side}
use Rattle.rp_base.specs.declared.value.Value.{Value}
use Rattle.rp_base.specs.declared.value.Value.TheVariants as value
use Rattle.rp_frame.specs.declared.task.StmtTask.TheVariants as stmt
use Rattle.rp_frame.specs.declared.task.Task.{Task}
use Rattle.rp_frame.specs.declared.task.Task.TheVariants as task
use Rattle.rp_meaning.specs.Expressions as forms
use Rattle.rp_meaning.specs.Frame.{Frame, Meaning, Run, bind_name}
use Rattle.rp_meaning.specs.State.{State, Outcome, makes}
use Rattle.rp_meaning.specs.Statements as stmt_forms
use Rattle.rp_meaning.proofs.Laws.{items_more, then_then}
use Rattle.rp_ops.specs.Outcome.{gives, on_value}
use Rattle.rp_proxy.specs.Faithful.{IsFaithful}
use Rattle.rp_proxy.specs.Held.{AreNamed}
use Rattle.rp_proxy.specs.declared.world.World.{World}
use Rattle.rp_proxy.proofs.LaterStores.{with_store, IsFaithful-stored}
use Rattle.rp_store.specs.Heap.{Owned}
use Rattle.rp_store.specs.Store.{Cells, made}
use Rattle.std.proofs.lemmas.List.Elements.{All-append, All-cons, All-nil}
use Rattle.rp_proxy.specs.Held.{IsNamed}
use Rattle.rp_access.specs.Comes.{Comes, IsEnd}
use Rattle.rp_access.specs.Moment.{state_of}
use Rattle.rp_access.specs.Parts.{step_end}
use Rattle.rp_access.proofs.Going.{IsEnd-same, IsEnd-then, gives-then, on_same}
use Rattle.rp_expressions.specs.Defining.{Defines}
use Rattle.rp_engine.specs.DefinitionSteps.{function_of, with_defaults}
use Rattle.rp_engine.specs.DisplaySteps.{makes_of}
use Rattle.rp_engine.specs.Law.{Evaluates, Executes, frame_in, rest_of}
use Rattle.rp_engine.specs.Rest.{did, gave, rest}
use Rattle.rp_engine.specs.declared.halt.Halt.{Halt}
use Rattle.rp_engine.specs.declared.machine.Machine.{Machine}
use Rattle.rp_engine.proofs.Lasts.{reverse_cons}
use Rattle.rp_engine.proofs.Moves.{on_ok}

module _ (name : Option Name) (block : ℕ) (ms : List Meaning) (f : Frame) where
  abbrev function : List Value → State → Outcome Oid
  function vs s = makes f.side (function_of name f.side block f.scope vs) s

  reference : Oid → State → Outcome Value
  reference at s = gives (value.Ref at) s

  -- the function is made, and a reference to it given
  pub made_is : (s : State) → on_value (forms.makes_function name block ms f s) (λ at s. gives (value.Ref at) s) ≡ with_defaults name block ms [] f s
  made_is s = then_then (forms.values ms f s) function (λ at s. gives (value.Ref at) s)

  -- or it is bound
  bound_is : (n : Name) (s : State) → on_value (forms.makes_function name block ms f s) (λ at s. bind_name n (value.Ref at) f s)
      ≡ on_value (with_defaults name block ms [] f s) (λ v s. bind_name n v f s)
  bound_is n s = sym (ap (λ o. on_value o (λ v s. bind_name n v f s)) (sym (made_is s))
      ∙ then_then (forms.makes_function name block ms f s) (λ at s. gives (value.Ref at) s) (λ v s. bind_name n v f s))

pub lambda_is : (block : ℕ) (ms : List Meaning) (f : Frame) (s : State) → forms.lambda block ms f s ≡ on_value (step_end s) (λ _ s. with_defaults None block ms [] f s)
lambda_is block ms f s =
    on_same (step_end s) (λ _ s. on_value (forms.makes_function None block ms f s) (λ at s. gives (value.Ref at) s)) (λ _ s. with_defaults None block ms [] f s)
    (λ _ s. made_is None block ms f s)

-- a function is defined, and bound
pub definition_ok : (m h n : Machine) (w v : World) (r : Result (Unit {0}) Halt) (name : Name) (block : ℕ) (ms : List Meaning) (ts : List Task)
    → h ≡ record m { tasks = ts } → ts ≡ task.Stmt (stmt.Define name) ∷ m.tasks
    → OnOk r (Defines (Some name) block 0 ms h w n v) → OnOk r (Executes (stmt_forms.define name block ms) m w n v)
definition_ok m h n w v r name block ms ts is more law =
    on_ok r (Defines (Some name) block 0 ms (record m { tasks = task.Stmt (stmt.Define name) ∷ m.tasks }) w n v) (Executes (stmt_forms.define name block ms) m w n v)
    (λ law base. law base ∙ ap (λ o. rest m.tasks (did (frame_in base m) m.values o)) (sym (bound_is (Some name) block ms (frame_in base m) name (state_of w))))
    (subst (λ (z : Machine). OnOk r (Defines (Some name) block 0 ms z w n v)) (is ∙ ap (λ ts. record m { tasks = ts }) more) law)

module _ (m n : Machine) (w u v : World) (r : Result (Unit {0}) Halt) (block : ℕ) (ms : List Meaning) where
  pub lambda_ok : step_end (state_of w) ≡ gives (tt {0}) (state_of u) → OnOk r (Defines None block 0 ms m u n v) → OnOk r (Evaluates (forms.lambda block ms) m w n v)
  lambda_ok is h = on_ok r (Defines None block 0 ms m u n v) (Evaluates (forms.lambda block ms) m w n v)
      (λ law base. law base ∙ ap (λ o. rest m.tasks (gave (frame_in base m) m.values o))
      (sym (lambda_is block ms (frame_in base m) (state_of w) ∙ gives-then (tt {0}) (state_of u) _ (λ _ s. with_defaults None block ms [] (frame_in base m) s) is))) h

  pub lambda_end : (e : OpEnd) → IsEnd e (state_of u) (step_end (state_of w)) → (base : Run) → IsEnd e (state_of u) (forms.lambda block ms (frame_in base m) (state_of w))
  lambda_end e is base = IsEnd-same e (state_of u) _ _ (lambda_is block ms (frame_in base m) (state_of w))
      (IsEnd-then e (state_of u) (step_end (state_of w)) (λ _ s. with_defaults None block ms [] (frame_in base m) s) is)

module _ (m n : Machine) (w : World) (r : Result (Unit {0}) Halt) (name : Option Name) (block i : ℕ) where
  -- the next default is waited for
  abbrev Waits : Meaning → List Meaning → Type 0
  Waits x ms = (base : Run) (s : State) → rest_of base n s
      ≡ rest m.tasks (gave (frame_in base m) (drop i m.values) (on_value (x (frame_in base m) s) (λ v s. with_defaults name block ms (reverse (take i m.values) ++ v ∷ []) (frame_in base m) s)))

  pub defines_more : (x : Meaning) (ms all : List Meaning) → all ≡ x ∷ ms → OnOk r (Waits x ms) → OnOk r (Defines name block i all m w n w)
  defines_more x ms all is h = subst (λ (all : List Meaning). OnOk r (Defines name block i all m w n w)) (sym is) (on_ok r (Waits x ms) (Defines name block i (x ∷ ms) m w n w)
      (λ law base. law base (state_of w) ∙ ap (λ o. rest m.tasks (gave (frame_in base m) (drop i m.values) o))
      (sym (items_more x ms (reverse (take i m.values)) (λ vs s. makes_of (frame_in base m).side (function_of name (frame_in base m).side block (frame_in base m).scope vs) s) (frame_in base m) (state_of w)))) h)

-- all are at hand, and were taken off
defines_all : (m n : Machine) (w v : World) (r : Result (Unit {0}) Halt) (name : Option Name) (block i : ℕ) (vs : List Value) (a : Result Value OpEnd) → vs ≡ reverse (take i m.values)
    → Comes a (state_of v) (makes_of m.frame.side (function_of name m.frame.side block m.frame.scope vs) (state_of w))
    → OnOk r ((base : Run) (s : State) (o : Outcome Value) → Comes a s o → rest_of base n s ≡ rest m.tasks (gave (frame_in base m) (drop i m.values) o))
    → OnOk r (Defines name block i [] m w n v)
defines_all m n w v r name block i vs a are is h =
    on_ok r ((base : Run) (s : State) (o : Outcome Value) → Comes a s o → rest_of base n s ≡ rest m.tasks (gave (frame_in base m) (drop i m.values) o)) (Defines name block i [] m w n v)
    (λ law base. law base (state_of v) _ (subst (λ (us : List Value). Comes a (state_of v) (makes_of m.frame.side (function_of name m.frame.side block m.frame.scope us) (state_of w)))
    (are ∙ sym (append-nil (reverse (take i m.values)))) is)) h

pub defines_taken : (m z n : Machine) (w v : World) (r : Result (Unit {0}) Halt) (name : Option Name) (block i : ℕ) (vs : List Value) (a : Result Value OpEnd) → z ≡ record m { values = drop i m.values }
    → vs ≡ reverse (take i m.values) → Comes a (state_of v) (makes_of z.frame.side (function_of name z.frame.side block z.frame.scope vs) (state_of w))
    → OnOk r ((base : Run) (s : State) (o : Outcome Value) → Comes a s o → rest_of base n s ≡ rest z.tasks (gave (frame_in base z) z.values o))
    → OnOk r (Defines name block i [] m w n v)
defines_taken m z n w v r name block i vs a left are is h =
    defines_all m n w v r name block i vs a are (subst (λ (z : Machine). Comes a (state_of v) (makes_of z.frame.side (function_of name z.frame.side block z.frame.scope vs) (state_of w))) left is)
    (subst (λ (z : Machine). OnOk r ((base : Run) (s : State) (o : Outcome Value) → Comes a s o → rest_of base n s ≡ rest z.tasks (gave (frame_in base z) z.values o))) left h)

-- one more default is at hand
module _ (m n : Machine) (w v : World) (r : Result (Unit {0}) Halt) (name : Option Name) (block i : ℕ) (ms : List Meaning) (a : Value) where
  abbrev held : Machine
  held = record m { values = a ∷ m.values }

  abbrev Next : Type 0
  Next = (base : Run) → rest_of base n (state_of v)
      ≡ rest m.tasks (gave (frame_in base m) (drop i m.values) (with_defaults name block ms (reverse (take i m.values) ++ a ∷ []) (frame_in base m) (state_of w)))

  next_held : Defines name block (suc i) ms held w n v → Next
  next_held law base = law base ∙ ap (λ us. rest m.tasks (gave (frame_in base m) (drop i m.values) (with_defaults name block ms us (frame_in base m) (state_of w)))) (reverse_cons a (take i m.values))

  pub defines_next : (h : Machine) (j : ℕ) → h ≡ held → j ≡ suc i → OnOk r (Defines name block j ms h w n v) → OnOk r Next
  defines_next h j has is law = on_ok r (Defines name block j ms held w n v) Next (λ law. next_held (subst (λ (k : ℕ). Defines name block k ms held w n v) is law))
      (subst (λ (z : Machine). OnOk r (Defines name block j ms z w n v)) has law)

-- a new function is no declared class
pub function_faithful : (w : World) (store : Cells) (r : Result Value OpEnd) (side : Side) (name : Option Name) (block : ℕ) (scope : Oid) (vs : List Value)
    → OnOk r (store ≡ made w.store side (function_of name side block scope vs)) → OnErr r (store ≡ w.store) → IsFaithful w → IsFaithful (with_store w store)
function_faithful w store (Ok v) side name block scope vs is same h =
    IsFaithful-stored w store (subst (λ (s : Cells). AreNamed w.names s.heap) (sym is)
    (All-append (λ (o : Owned). IsNamed w.names o.content) w.store.heap (record { owner = side; content = function_of name side block scope vs } ∷ []) h.classes
    (All-cons (λ (o : Owned). IsNamed w.names o.content) (record { owner = side; content = function_of name side block scope vs }) [] tt (All-nil (λ (o : Owned). IsNamed w.names o.content))))) h
function_faithful w store (Err e) side name block scope vs is same h =
    IsFaithful-stored w store (subst (λ (s : Cells). AreNamed w.names s.heap) (sym same) h.classes) h
