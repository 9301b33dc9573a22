-- Comprehensions, whose turns are made where the code around waits: what is left to be done is what was to be done.
use Rattle.std.proofs.Common.{◌≡◌, ℕ, List, [], ◌∷◌, ◌++◌, Some, None, Result, sym, ap, ◌∙◌, subst}
use Rattle.std.specs.Prelude.{All, OnOk, false}
use Rattle.std.proofs.lemmas.List.Elements.{All-append, All-cons, All-nil}
use Rattle.rp_base.specs.declared.value.Oid.{Oid}
use Rattle.rp_base.specs.declared.value.OpEnd.{OpEnd}
use Rattle.rp_base.specs.declared.value.Value.{Value}
use Rattle.rp_base.specs.declared.value.Value.TheVariants as value
use Rattle.rp_frame.specs.Top.{below, top}
use Rattle.rp_frame.specs.declared.activation.Activation.{Activation}
use Rattle.rp_meaning.specs.Expressions as forms
use Rattle.rp_meaning.specs.Expressions.{Clause}
use Rattle.rp_meaning.specs.Frame.{Doing, Meaning, Run}
use Rattle.rp_meaning.specs.State.{State, Outcome}
use Rattle.rp_meaning.specs.Statements.{Store}
use Rattle.rp_ops.specs.Walk.{Cursor}
use Rattle.rp_proxy.specs.declared.world.World.{World}
use Rattle.rp_store.specs.Kept.{IsFit, IsScopeOf}
use Rattle.rp_store.specs.Shape.{KeepsShape}
use Rattle.rp_access.specs.Comes.{IsEnd}
use Rattle.rp_access.specs.Moment.{state_of}
use Rattle.rp_engine.specs.ComprehensionSteps.{turns_within}
use Rattle.rp_engine.specs.Law.{Evaluates, Executes, frame_in, rest_of}
use Rattle.rp_engine.specs.LoopSteps.{all_turns}
use Rattle.rp_engine.specs.Ready.{IsReady}
use Rattle.rp_engine.specs.Rest.{gave, rest}
use Rattle.rp_engine.specs.declared.halt.Halt.{Halt}
use Rattle.rp_engine.specs.declared.machine.Machine.{Machine}
use Rattle.rp_engine.proofs.Moves.{end_ok, on_ok}
use Rattle.rp_step.specs.Running.{Gets, IsRunnable, IsWaiting, resumed, unwound, whole_of}
use Rattle.rp_step.specs.declared.callers.Caller.{Caller}
use Rattle.rp_step.specs.declared.runner.Runner.{Runner}
use Rattle.rp_step.proofs.Runs.{runnable_goes, unwound_last, waiting_goes}

-- what is left to be done, by what is the same
pub gets_as : (r q : Runner) (w u v : World) (h : Result (Unit {0}) Halt) (M N : Meaning)
    → ((base : Run) → M (frame_in base r.machine) (state_of w) ≡ N (frame_in base r.machine) (state_of u))
    → OnOk h (Gets N r u q v) → OnOk h (Gets M r w q v)
gets_as r q w u v h M N same law =
    on_ok h (Gets N r u q v) (Gets M r w q v)
    (λ law base. law base ∙ ap (λ o. unwound base r.callers.items (rest r.machine.tasks (gave (frame_in base r.machine) r.machine.values o))) (sym (same base))) law

-- or where there is no value
pub gets_end : (r : Runner) (n : Machine) (w u : World) (h : Result (Unit {0}) Halt) (M : Meaning) (e : OpEnd)
    → ((base : Run) → IsEnd e (state_of u) (M (frame_in base r.machine) (state_of w)))
    → OnOk h ((base : Run) (s : State) (o : Outcome Value) → IsEnd e s o → rest_of base n s ≡ rest r.machine.tasks (gave (frame_in base r.machine) r.machine.values o))
    → OnOk h (Gets M r w (record r { machine = n }) u)
gets_end r n w u h M e is law =
    on_ok h (Evaluates M r.machine w n u) (Gets M r w (record r { machine = n }) u) (λ law base. ap (unwound base r.callers.items) (law base))
    (end_ok r.machine n w u h M e is law)

-- what the comprehension goes over was taken from what is at hand
pub gets_top : (r q : Runner) (w v : World) (h : Result (Unit {0}) Halt) (m : Machine) (x : Value) (M : Value → Meaning)
    → x ≡ top r.machine.values → m ≡ record r.machine { values = below r.machine.values } → OnOk h (Gets (M x) (record r { machine = m }) w q v)
    → OnOk h ((base : Run) → whole_of base q (state_of v) ≡ unwound base r.callers.items (rest r.machine.tasks (gave (frame_in base r.machine) (below r.machine.values)
    (M (top r.machine.values) (frame_in base r.machine) (state_of w)))))
gets_top r q w v h m x M value left law =
    subst (λ (x : Value). OnOk h (Gets (M x) (record r { machine = record r.machine { values = below r.machine.values } }) w q v)) value
    (subst (λ (m : Machine). OnOk h (Gets (M x) (record r { machine = m }) w q v)) left law)

-- all may go on in a later world
pub runs_on : (r : Runner) (w v : World) → IsRunnable r w → KeepsShape w.store.heap v.store.heap → IsReady r.machine.units.now r.machine.frame r.machine.values v → IsRunnable r v
runs_on r w v h shape ready = runnable_goes r r.machine w v h ready shape

-- the code around, which waits for the turns
abbrev pub around : Machine → Oid → Caller
around m at = record { units = m.units; frame = m.frame; tasks = m.tasks; values = m.values; lent = false; made = None; filled = Some at }

-- where the turns are made
abbrev pub within : Machine → Activation → Machine
within m a = record m { frame = a; tasks = []; values = [] }

abbrev pub inside : Activation → ℕ → Oid → Activation
inside a block scope = record a { block = block; scope = scope }

module _ (r : Runner) (w v : World) (n : Machine) (block : ℕ) (x : Clause) (cs : List Clause) (add : Oid → Doing) (d : Cursor) (scope at : Oid) where
  abbrev turns : Store → Doing → Machine → Type 0
  turns store body g = Executes (all_turns store body d) g w n v

  abbrev body : Doing
  body = forms.where_all x.tests (forms.nest cs (add at))

  abbrev Filled : List Caller → Type 0
  Filled us = (base : Run) → unwound base us (rest_of base n (state_of v)) ≡ unwound base r.callers.items (rest r.machine.tasks (gave (frame_in base r.machine) r.machine.values
      (turns_within block x cs add d scope at (frame_in base r.machine) (state_of w))))

  turns_left : (us : List Caller) → us ≡ r.callers.items ++ around r.machine at ∷ [] → turns x.bind body (within r.machine (inside r.machine.frame block scope)) → Filled us
  turns_left us more law base =
      ap (λ us. unwound base us (rest_of base n (state_of v))) more
      ∙ unwound_last base r.callers.items (around r.machine at) (rest_of base n (state_of v))
      ∙ ap (λ h. unwound base r.callers.items (rest r.machine.tasks (resumed base (around r.machine at) h))) (law base)

  pub turns_made : (h : Result (Unit {0}) Halt) (us : List Caller) (a : Activation) (g : Machine) (c : Caller) (store : Store) (does : Doing)
      → a ≡ inside r.machine.frame block scope → c ≡ around r.machine at → g ≡ within r.machine a → us ≡ r.callers.items ++ c ∷ []
      → store ≡ x.bind → does ≡ body → OnOk h (turns store does g) → OnOk h (Filled us)
  turns_made h us a g c store does framed waits goes more binds is law =
      on_ok h (turns x.bind body (within r.machine (inside r.machine.frame block scope))) (Filled us)
      (turns_left us (more ∙ ap (λ (c : Caller). r.callers.items ++ c ∷ []) waits))
      (subst (λ (g : Machine). OnOk h (turns x.bind body g)) (goes ∙ ap (within r.machine) framed)
      (subst (λ (does : Doing). OnOk h (turns x.bind does g)) is
      (subst (λ (store : Store). OnOk h (turns store does g)) binds law)))

-- the turns may be made there
module _ (m g : Machine) (a : Activation) (block : ℕ) (scope : Oid) (w : World) (framed : a ≡ inside m.frame block scope) (goes : g ≡ within m a) where
  pub within_ready : IsReady m.units.now m.frame m.values w → IsScopeOf w.store.heap m.frame.side scope → IsReady g.units.now g.frame g.values w
  within_ready ready placed =
      subst (λ (g : Machine). IsReady g.units.now g.frame g.values w) (sym (goes ∙ ap (within m) framed))
      (record { faithful = ready.faithful; scope = placed; fit = All-nil _; indexed = ready.indexed })

  pub within_fit : (v : Value) → IsFit w.store.heap m.frame.side v → IsFit w.store.heap g.frame.side v
  within_fit v fit = subst (λ (g : Machine). IsFit w.store.heap g.frame.side v) (sym (goes ∙ ap (within m) framed)) fit

-- and the code around may go on
pub around_waits : (r : Runner) (w : World) (us : List Caller) (c : Caller) (at : Oid) → c ≡ around r.machine at → us ≡ r.callers.items ++ c ∷ []
    → IsRunnable r w → IsFit w.store.heap r.machine.frame.side (value.Ref at) → All (IsWaiting w) us
around_waits r w us c at waits more h fit =
    subst (λ (us : List Caller). All (IsWaiting w) us) (sym (more ∙ ap (λ (c : Caller). r.callers.items ++ c ∷ []) waits))
    (All-append (IsWaiting w) r.callers.items (around r.machine at ∷ []) h.callers
    (All-cons (IsWaiting w) (around r.machine at) [] (record { ready = h.machine; made = tt; filled = fit }) (All-nil (IsWaiting w))))

pub fills_ready : (r : Runner) (n : Machine) (w v : World) (us : List Caller) (c : Caller) (at : Oid) → c ≡ around r.machine at → us ≡ r.callers.items ++ c ∷ []
    → IsRunnable r w → IsFit w.store.heap r.machine.frame.side (value.Ref at) → KeepsShape w.store.heap v.store.heap → IsReady n.units.now n.frame n.values v
    → IsReady n.units.now n.frame n.values v × All (IsWaiting v) us
fills_ready r n w v us c at waits more h fit shape ready = (ready, waiting_goes w v us shape ready.faithful (around_waits r w us c at waits more h fit))
