-- Calls of functions: what is done before their code runs, and what is left to be done then.
use Rattle.std.proofs.Common.{◌≡◌, ◌<◌, ◌-◌, ℕ, suc, List, [], codes, length, drop, Option, Some, None, Result, Ok, Err, refl, sym, ap, ◌∙◌, subst, arith}
use Rattle.std.specs.Prelude.{Bool, IfOk, IfSome, IsSomeAnd, OnOk, option_map}
use Rattle.std.specs.Option.{option_map_or}
use Rattle.rp_base.specs.declared.kind.Kind.{Kind}
use Rattle.rp_base.specs.declared.kind.Kind.TheVariants.{RecursionError}
use Rattle.rp_base.specs.declared.value.Oid.{Oid}
use Rattle.rp_base.specs.declared.value.OpEnd.{OpEnd}
use Rattle.rp_base.specs.declared.value.Side.{Side}
use Rattle.rp_base.specs.declared.value.Value.{Value}
use Rattle.rp_base.specs.declared.value.Value.TheVariants as value
use Rattle.rp_store.specs.Kept.{IsSound}
use Rattle.rp_calls.specs.Binding.{defaults_at, defaults_in}
use Rattle.rp_frame.specs.Top.{top}
use Rattle.rp_frame.specs.declared.activation.Activation.{Activation}
use Rattle.rp_meaning.specs.Binding.{Arguments, bind}
use Rattle.rp_meaning.specs.Blocks as blocks
use Rattle.rp_meaning.specs.BuiltIn.{not_called}
use Rattle.rp_meaning.specs.Frame.{Calls, Run}
use Rattle.rp_meaning.specs.Running.{calls_within, code_called, frame_in as frame_made, function_called, params_of, slots_taken, taken_all, value_of_code}
use Rattle.rp_meaning.specs.State.{State, Outcome, heap_of, plainly}
use Rattle.rp_meaning.proofs.Laws.{then_then}
use Rattle.rp_ops.specs.Outcome.{Raises, gives, on_value, raises}
use Rattle.rp_proxy.specs.declared.world.World.{World}
use Rattle.rp_scope.specs.Scopes.{locals_of}
use Rattle.rp_store.specs.Heap.{Names, Owned}
use Rattle.rp_store.specs.Parts.{IsFunction}
use Rattle.rp_store.specs.Object.{Content}
use Rattle.rp_tree.specs.Expressions.{Params as PureParams}
use Rattle.rp_access.specs.Comes.{Comes, IsEnd}
use Rattle.rp_access.specs.Moment.{state_of}
use Rattle.rp_access.proofs.Going.{IsEnd-same, IsEnd-then, gives-then, raises_end}
use Rattle.rp_enter.specs.Entering.{entered, scope_made}
use Rattle.rp_enter.specs.declared.entering.Entry.{Entry}
use Rattle.rp_codes.specs.Codes.{code_view}
use Rattle.rp_step.specs.Callables.{IsCallableAt, IsFunctionAt, before_all, given_by}
use Rattle.rp_engine.specs.Codes.{IsIndexed, code_at}
use Rattle.rp_engine.specs.DefinitionSteps.{called, called_by, callee_of, got_by}
use Rattle.rp_step.specs.declared.callables.Callable.{Callable}
use Rattle.rp_engine.specs.Law.{frame_in, rest_of}
use Rattle.rp_engine.specs.Moment.{frame_of, program_at, run_of}
use Rattle.rp_engine.specs.Rest.{gave, rest}
use Rattle.rp_step.specs.Running.{unwound, whole_of}
use Rattle.rp_step.specs.declared.callers.Caller.{Caller}
use Rattle.rp_engine.specs.declared.halt.Halt.{Halt}
use Rattle.rp_engine.specs.declared.machine.Machine.{Machine}
use Rattle.rp_step.specs.declared.runner.Runner.{Runner}
use Rattle.rp_codes.specs.declared.code.Code.{Code}
use Rattle.rp_engine.proofs.Moves.{on_ok}
use Rattle.rp_step.proofs.Runs.{Switches}

-- what its code does, once it is entered
entered_call : (run : Run) (calls : Calls) (side : Side) (block : ℕ) (within : Oid) (defaults : List Value) (code : blocks.Code) (a : Arguments) (s : State)
    → code_called run calls side block within defaults (Some code) a s
    ≡ on_value (entered side block within (length ((run.programs side).layouts.locals block)) (params_of code) defaults a s)
    (λ scope s. value_of_code code (frame_made run calls side block scope) s)
entered_call run calls side block within defaults code a s = sym (then_then (plainly (bind side s.names (params_of code) defaults (taken_all (heap_of s) side a)) s)
    (λ bound s. scope_made side block within (length ((run.programs side).layouts.locals block)) (slots_taken (heap_of s) side bound) s) (λ scope s. value_of_code code (frame_made run calls side block scope) s))

-- one call less may be made within
abbrev pub activation : Entry → Oid → ℕ → Activation
activation e scope k = record { side = e.side; block = e.block; scope = scope; calls = k; handling = None }

module _ (m : Machine) (w : World) (cs : List Caller) (e : Entry) (is_lent : Bool) (made : Option Oid) (n : ℕ) (a : Arguments) where
  -- the call of a function, and what the one who calls gets of it
  abbrev pub asked : Run → Outcome Value
  asked base = on_value (calls_within (run_of base m.units.now) m.frame.calls e.function a (state_of w)) (λ v s. given_by is_lent made v (frame_in base m) s)

  -- it is done
  abbrev pub Asked : Machine → List Caller → World → Type 0
  Asked z us v = (base : Run) → unwound base us (rest_of base z (state_of v)) ≡ unwound base cs (rest m.tasks (gave (frame_in base m) (drop (suc n) m.values) (asked base)))

  module _ (function : IsFunctionAt w.store.heap e) where
    -- no more calls may be made
    pub calls_refused : (base : Run) → m.frame.calls ≡ 0 → asked base ≡ raises RecursionError (codes "calls") (state_of w)
    calls_refused base none =
        ap (λ j. on_value (calls_within (run_of base m.units.now) j e.function a (state_of w)) (λ v s. given_by is_lent made v (frame_in base m) s)) none

    module _ (k : ℕ) (some : m.frame.calls ≡ suc k) (indexed : IsIndexed (program_at m.units.now e.side)) where
      -- the program has no such function
      pub code_refused : (base : Run) → code_at (program_at m.units.now e.side) e.block ≡ None → asked base ≡ not_called (state_of w)
      code_refused base none =
          ap (λ o. on_value o (λ v s. given_by is_lent made v (frame_in base m) s))
          (ap (λ j. calls_within (run_of base m.units.now) j e.function a (state_of w)) some
          ∙ ap (λ c. function_called (run_of base m.units.now) (λ at a s. calls_within (run_of base m.units.now) k at a s) c a (state_of w)) function.is
          ∙ ap (λ c. code_called (run_of base m.units.now) (λ at a s. calls_within (run_of base m.units.now) k at a s) e.side e.block e.within function.defaults c a (state_of w))
          (sym (indexed.code e.block) ∙ ap (option_map code_view) none))

      module _ (code : Code) (coded : code_at (program_at m.units.now e.side) e.block ≡ Some code) where
        -- what is done before its code runs
        abbrev pub first : Outcome Oid
        first = entered e.side e.block e.within (length (locals_of (program_at m.units.now e.side).layouts e.block)) (params_of (code_view code)) (defaults_at w.store.heap e.function) a (state_of w)

        module _ (base : Run) where
          abbrev run : Run
          run = run_of base m.units.now

          abbrev inner : Calls
          inner at a s = calls_within run k at a s

          abbrev runs : Oid → State → Outcome Value
          runs scope s = value_of_code (code_view code) (frame_of run (activation e scope k)) s

          code_is : (run.programs e.side).code e.block ≡ Some (code_view code)
          code_is = sym (indexed.code e.block) ∙ ap (option_map code_view) coded

          defaults_are : function.defaults ≡ defaults_at w.store.heap e.function
          defaults_are = sym (ap (λ (c : Option Content). option_map_or defaults_in c []) function.is)

          function_is : calls_within run m.frame.calls e.function a (state_of w) ≡ on_value first runs
          function_is =
              ap (λ j. calls_within run j e.function a (state_of w)) some
              ∙ ap (λ c. function_called run inner c a (state_of w)) function.is
              ∙ ap (λ c. code_called run inner e.side e.block e.within function.defaults c a (state_of w)) code_is
              ∙ entered_call run inner e.side e.block e.within function.defaults (code_view code) a (state_of w)
              ∙ ap (λ ds. on_value (entered e.side e.block e.within (length (locals_of (program_at m.units.now e.side).layouts e.block)) (params_of (code_view code)) ds a (state_of w)) runs) defaults_are

          call_is : asked base ≡ on_value (on_value first runs) (λ v s. given_by is_lent made v (frame_in base m) s)
          call_is = ap (λ o. on_value o (λ v s. given_by is_lent made v (frame_in base m) s)) function_is

        -- the code runs in its scope
        pub enters : (q : Runner) (v : World) (r : Result (Unit {0}) Halt) (scope : Oid) → first ≡ gives scope (state_of v)
            → OnOk r ((base : Run) (s : State) → Switches m cs (suc n) is_lent made (activation e scope k) code q base s) → OnOk r (Asked q.machine q.callers.items v)
        enters q v r scope is law = on_ok r ((base : Run) (s : State) → Switches m cs (suc n) is_lent made (activation e scope k) code q base s) (Asked q.machine q.callers.items v)
            (λ law base. law base (state_of v) ∙ ap (λ o. unwound base cs (rest m.tasks (gave (frame_in base m) (drop (suc n) m.values) o)))
            (sym (call_is base ∙ ap (λ o. on_value o (λ v s. given_by is_lent made v (frame_in base m) s)) (gives-then scope (state_of v) first (runs base) is)))) law

        -- it does not
        pub enters_not : (z : Machine) (v : World) (r : Result (Unit {0}) Halt) (end : OpEnd) → IsEnd end (state_of v) first
            → OnOk r ((base : Run) (s : State) (o : Outcome Value) → IsEnd end s o → rest_of base z s ≡ rest m.tasks (gave (frame_in base m) (drop (suc n) m.values) o))
            → OnOk r (Asked z cs v)
        enters_not z v r end is law = on_ok r ((base : Run) (s : State) (o : Outcome Value) → IsEnd end s o → rest_of base z s ≡ rest m.tasks (gave (frame_in base m) (drop (suc n) m.values) o)) (Asked z cs v)
            (λ law base. ap (unwound base cs) (law base (state_of v) (asked base) (IsEnd-same end (state_of v) (asked base) _ (call_is base)
            (IsEnd-then end (state_of v) (on_value first (runs base)) (λ v s. given_by is_lent made v (frame_in base m) s) (IsEnd-then end (state_of v) first (runs base) is))))) law

-- no reference is called
pub rock_refused : (m : Machine) (w : World) (n : ℕ) (a : Arguments) (base : Run) → callee_of (top (drop n m.values)) ≡ None
    → called (top (drop n m.values)) a (frame_in base m) (state_of w) ≡ not_called (state_of w)
rock_refused m w n a base is = ap (λ c. called_by c a (frame_in base m) (state_of w)) is

-- what was refused is what was to be done
pub refused_ok : (m : Machine) (w : World) (cs : List Caller) (n : ℕ) (q : Runner) (r : Result (Unit {0}) Halt) (kind : Kind) (text : List ℕ) (found : Run → Outcome Value)
    → ((base : Run) → found base ≡ raises kind text (state_of w))
    → OnOk r ((base : Run) (s : State) → whole_of base q s ≡ unwound base cs (rest m.tasks (gave (frame_in base m) (drop (suc n) m.values) (raises kind text s))))
    → OnOk r ((base : Run) → whole_of base q (state_of w) ≡ unwound base cs (rest m.tasks (gave (frame_in base m) (drop (suc n) m.values) (found base))))
refused_ok m w cs n q r kind text found is law =
    on_ok r ((base : Run) (s : State) → whole_of base q s ≡ unwound base cs (rest m.tasks (gave (frame_in base m) (drop (suc n) m.values) (raises kind text s))))
    ((base : Run) → whole_of base q (state_of w) ≡ unwound base cs (rest m.tasks (gave (frame_in base m) (drop (suc n) m.values) (found base))))
    (λ law base. law base (state_of w) ∙ ap (λ o. unwound base cs (rest m.tasks (gave (frame_in base m) (drop (suc n) m.values) o))) (sym (is base))) law

-- a call of the object at a place was asked for
pub asked_at : (m : Machine) (w v : World) (cs : List Caller) (n : ℕ) (a : Arguments) (q : Runner) (r : Result (Unit {0}) Halt) (c : Oid × Bool) → callee_of (top (drop n m.values)) ≡ Some c
    → OnOk r ((base : Run) → whole_of base q (state_of v) ≡ unwound base cs (rest m.tasks (gave (frame_in base m) (drop (suc n) m.values) (called_by (Some c) a (frame_in base m) (state_of w)))))
    → OnOk r ((base : Run) → whole_of base q (state_of v) ≡ unwound base cs (rest m.tasks (gave (frame_in base m) (drop (suc n) m.values) (called (top (drop n m.values)) a (frame_in base m) (state_of w)))))
asked_at m w v cs n a q r c is law =
    on_ok r ((base : Run) → whole_of base q (state_of v) ≡ unwound base cs (rest m.tasks (gave (frame_in base m) (drop (suc n) m.values) (called_by (Some c) a (frame_in base m) (state_of w)))))
    ((base : Run) → whole_of base q (state_of v) ≡ unwound base cs (rest m.tasks (gave (frame_in base m) (drop (suc n) m.values) (called (top (drop n m.values)) a (frame_in base m) (state_of w)))))
    (λ law base. law base ∙ ap (λ x. unwound base cs (rest m.tasks (gave (frame_in base m) (drop (suc n) m.values) (called_by x a (frame_in base m) (state_of w))))) (sym is)) law

-- a call of an object is one of a function
pub calls_it : (m : Machine) (w v : World) (cs : List Caller) (n : ℕ) (a : Arguments) (q : Runner) (r : Result (Unit {0}) Halt) (at : Oid) (is_lent : Bool) (c : Callable) → IsCallableAt w.store.heap at c
    → OnOk r ((base : Run) → whole_of base q (state_of v) ≡ unwound base cs (rest m.tasks (gave (frame_in base m) (drop (suc n) m.values) (asked m w cs c.entry is_lent None n (before_all c.receiver a) base))))
    → OnOk r ((base : Run) → whole_of base q (state_of v) ≡ unwound base cs (rest m.tasks (gave (frame_in base m) (drop (suc n) m.values) (called_by (Some (at, is_lent)) a (frame_in base m) (state_of w)))))
calls_it m w v cs n a q r at is_lent c h law =
    on_ok r ((base : Run) → whole_of base q (state_of v) ≡ unwound base cs (rest m.tasks (gave (frame_in base m) (drop (suc n) m.values) (asked m w cs c.entry is_lent None n (before_all c.receiver a) base))))
    ((base : Run) → whole_of base q (state_of v) ≡ unwound base cs (rest m.tasks (gave (frame_in base m) (drop (suc n) m.values) (called_by (Some (at, is_lent)) a (frame_in base m) (state_of w)))))
    (λ law base. law base ∙ ap (λ o. unwound base cs (rest m.tasks (gave (frame_in base m) (drop (suc n) m.values) (on_value o (λ v s. got_by is_lent v (frame_in base m) s)))))
    (sym (h.called a (frame_in base m) (state_of w) refl))) law

pub one_less : (n : ℕ) → 0 < n → n ≡ suc (n - 1)
one_less n some = omega arith

-- what is called stands in the store
pub callee_held : (heap : List Owned) (v : Value) → IsSound heap v → IfSome (callee_of v) (λ (p : Oid × Bool). IsSound heap (value.Ref p.0))
callee_held heap (value.Rock rock) sound = tt
callee_held heap (value.Ref at) sound = sound
callee_held heap (value.Prox at) sound = sound

-- an exception in place of a call
pub refuses : (r : Runner) (n : Machine) (res : Result (Unit {0}) Halt) (count : ℕ) (kind : Kind) (text : List ℕ) (end : OpEnd) → Raises end (record { kind = kind; text = text })
    → OnOk res ((base : Run) (s : State) (o : Outcome Value) → IsEnd end s o → rest_of base n s ≡ rest r.machine.tasks (gave (frame_in base r.machine) (drop (suc count) r.machine.values) o))
    → OnOk res ((base : Run) (s : State) → unwound base r.callers.items (rest_of base n s)
    ≡ unwound base r.callers.items (rest r.machine.tasks (gave (frame_in base r.machine) (drop (suc count) r.machine.values) (raises kind text s))))
refuses r n res count kind text end is law =
    on_ok res ((base : Run) (s : State) (o : Outcome Value) → IsEnd end s o → rest_of base n s ≡ rest r.machine.tasks (gave (frame_in base r.machine) (drop (suc count) r.machine.values) o))
    ((base : Run) (s : State) → unwound base r.callers.items (rest_of base n s)
    ≡ unwound base r.callers.items (rest r.machine.tasks (gave (frame_in base r.machine) (drop (suc count) r.machine.values) (raises kind text s))))
    (λ law base s. ap (unwound base r.callers.items) (law base s (raises kind text s) (raises_end Value end (record { kind = kind; text = text }) s is))) law

pub function_named : (heap : List Owned) (e : Entry) → IsFunctionAt heap e → Names heap IsFunction e.function
function_named heap e h = subst (λ (c : Option Content). IsSomeAnd c IsFunction) (sym h.is) tt

-- the scope of the code is that of the meaning
pub enters_as : (e : Entry) (defaults : List Value) (s : State) (r : Result Oid OpEnd) (t : State) (ps qs : PureParams) (i j : ℕ) (us vs : Arguments) → ps ≡ qs → i ≡ j → us ≡ vs
    → Comes r t (entered e.side e.block e.within i ps defaults us s) → Comes r t (entered e.side e.block e.within j qs defaults vs s)
enters_as e defaults s r t ps qs i j us vs params counted all is =
    subst (λ ps. Comes r t (entered e.side e.block e.within j ps defaults vs s)) params
    (subst (λ i. Comes r t (entered e.side e.block e.within i ps defaults vs s)) counted
    (subst (λ us. Comes r t (entered e.side e.block e.within i ps defaults us s)) all is))

-- what an answer tells
module _ (r : Result Oid OpEnd) (s : State) (o : Outcome Oid) where
  pub comes_ok : (a : Oid) → r ≡ Ok a → Comes r s o → o ≡ gives a s
  comes_ok a is comes = subst (λ (r : Result Oid OpEnd). Comes r s o) is comes

  pub comes_end : (e : OpEnd) → r ≡ Err e → Comes r s o → IsEnd e s o
  comes_end e is comes = subst (λ (r : Result Oid OpEnd). Comes r s o) is comes

pub ok_held : (r : Result Oid OpEnd) (P : Oid → Type 0) (a : Oid) → r ≡ Ok a → IfOk r P → P a
ok_held r P a is h = subst (λ (r : Result Oid OpEnd). IfOk r P) is h
