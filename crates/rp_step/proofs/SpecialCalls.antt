-- Calls of special methods, from what is known of the object and of the method.
use Rattle.std.proofs.Common.{◌≡◌, ℕ, suc, Bool, List, drop, reverse, take, Option, Some, None, Result, codes, refl, sym, ap, ◌∙◌, subst}
use Rattle.std.specs.Prelude.{OnOk, option_map}
use Rattle.std.specs.Option.{option_map_or}
use Rattle.rp_base.specs.declared.kind.Kind.TheVariants.{TypeError}
use Rattle.rp_base.specs.declared.value.Name.{Name}
use Rattle.rp_base.specs.declared.value.Oid.{Oid}
use Rattle.rp_base.specs.declared.value.Value.{Value}
use Rattle.rp_base.specs.declared.value.Value.TheVariants as value
use Rattle.rp_frame.specs.Top.{top}
use Rattle.rp_frame.specs.declared.control.Control.TheVariants as control
use Rattle.rp_meaning.specs.Binding.{Arguments, behind, only}
use Rattle.rp_meaning.specs.BuiltIn.{not_called}
use Rattle.rp_meaning.specs.Frame.{Frame, Run}
use Rattle.rp_meaning.specs.Special.{Special, on_special, special}
use Rattle.rp_meaning.specs.State.{State, Outcome, heap_of}
use Rattle.rp_ops.specs.Outcome.{on_value, raises}
use Rattle.rp_proxy.specs.declared.world.World.{World}
use Rattle.rp_store.specs.Heap.{method_of}
use Rattle.rp_access.specs.Moment.{state_of}
use Rattle.rp_engine.specs.ArgumentSteps.{sum_of}
use Rattle.rp_engine.specs.DefinitionSteps.{callee_of, got_by}
use Rattle.rp_engine.specs.HandSteps.{held_by, size_of}
use Rattle.rp_engine.specs.Law.{frame_in}
use Rattle.rp_engine.specs.Rest.{begun, gave, rest}
use Rattle.rp_engine.specs.SpecialSteps.{special_called}
use Rattle.rp_engine.specs.declared.calling.Hand.{Hand}
use Rattle.rp_engine.specs.declared.halt.Halt.{Halt}
use Rattle.rp_engine.proofs.Moves.{on_ok}
use Rattle.rp_expressions.proofs.Spreads.{plain_hand, size_plain}
use Rattle.rp_step.specs.Callables.{IsCallWith, before_all}
use Rattle.rp_step.specs.Running.{CallsMethod, Enters, MakesSpecial, unwound, whole_of}
use Rattle.rp_step.specs.declared.callables.Callable.{Callable}
use Rattle.rp_step.specs.declared.runner.Runner.{Runner}
use Rattle.rp_step.proofs.Entries.{refused_ok}

-- a method that was found, and what is got of it
abbrev found_by : Option Special → Bool → Arguments → Frame → State → Outcome Value
found_by m lent a f s = on_value (on_special m (λ m. f.calls m.function (behind m.of a)) not_called s) (λ x s. got_by lent x f s)

-- by what is called

special_rock : (name : Name) (v : Value) (vs : List Value) (f : Frame) (s : State) → callee_of v ≡ None → special_called name v vs f s ≡ not_called s
special_rock name (value.Rock r) vs f s none = refl
special_rock name (value.Ref at) vs f s none = let k : Some at ≡ None = ap (option_map (λ (p : Oid × Bool). p.0)) none in absurd (cc)
special_rock name (value.Prox at) vs f s none = let k : Some at ≡ None = ap (option_map (λ (p : Oid × Bool). p.0)) none in absurd (cc)

special_found : (name : Name) (v : Value) (c : Oid × Bool) (vs : List Value) (f : Frame) (s : State) → callee_of v ≡ Some c
    → special_called name v vs f s ≡ found_by (special (heap_of s) (value.Ref c.0) name) c.1 (only vs) f s
special_found name (value.Rock r) c vs f s e = let k : None ≡ Some c = e in absurd (cc)
special_found name (value.Ref at) c vs f s e =
    subst (λ (c : Oid × Bool). special_called name (value.Ref at) vs f s ≡ found_by (special (heap_of s) (value.Ref c.0) name) c.1 (only vs) f s)
    (ap (λ (x : Option (Oid × Bool)). option_map_or (λ c. c) x c) e) refl
special_found name (value.Prox at) c vs f s e =
    subst (λ (c : Oid × Bool). special_called name (value.Prox at) vs f s ≡ found_by (special (heap_of s) (value.Ref c.0) name) c.1 (only vs) f s)
    (ap (λ (x : Option (Oid × Bool)). option_map_or (λ c. c) x c) e) refl

module _ (r : Runner) (w v : World) (q : Runner) (res : Result (Unit {0}) Halt) where
  module _ (n : ℕ) where
    abbrev callee : Value
    callee = top (drop (sum_of n 0) r.machine.values)

    abbrev args : List Value
    args = reverse (take n r.machine.values)

    -- no object is called
    pub special_refused : (name : Name) → callee_of callee ≡ None
        → OnOk res ((base : Run) (s : State) → whole_of base q s ≡ unwound base r.callers.items (rest r.machine.tasks (gave (frame_in base r.machine) (drop (suc (sum_of n 0)) r.machine.values)
        (raises TypeError (codes "call") s)))) → OnOk res (MakesSpecial name n r w q w)
    special_refused name none law =
        refused_ok r.machine w r.callers.items (sum_of n 0) q res TypeError (codes "call") (λ base. special_called name callee args (frame_in base r.machine) (state_of w))
        (λ base. special_rock name callee args (frame_in base r.machine) (state_of w) none) law

    -- an object is
    pub special_asked : (name : Name) (c : Oid × Bool) → callee_of callee ≡ Some c
        → OnOk res (CallsMethod (plain_hand n) (special w.store.heap (value.Ref c.0) name) c.1 r w q v) → OnOk res (MakesSpecial name n r w q v)
    special_asked name c is law =
        on_ok res (CallsMethod (plain_hand n) (special w.store.heap (value.Ref c.0) name) c.1 r w q v) (MakesSpecial name n r w q v)
        (λ law base. law base ∙ ap (λ o. unwound base r.callers.items (rest r.machine.tasks (gave (frame_in base r.machine) (drop (suc (sum_of n 0)) r.machine.values) o)))
        (sym (special_found name callee c args (frame_in base r.machine) (state_of w) is))) law

    -- it is what the machine asks for
    pub special_made : (name : Name) → MakesSpecial name n r w q v → (base : Run) → whole_of base q (state_of v)
        ≡ unwound base r.callers.items (rest r.machine.tasks (begun (frame_in base r.machine) (control.Special name n) r.machine.values r.machine.end (state_of w)))
    special_made name law base =
        law base ∙ ap (λ j. unwound base r.callers.items (rest r.machine.tasks (gave (frame_in base r.machine) (drop (suc j) r.machine.values)
        (special_called name (top (drop j r.machine.values)) args (frame_in base r.machine) (state_of w))))) (size_plain n)

  module _ (h : Hand) where
    abbrev held : Arguments
    held = held_by h r.machine.values

    module _ (at : Oid) (name : Name) (lent : Bool) (found : Option Oid) (value_is : found ≡ method_of w.store.heap at name) where
      -- it has no such method
      pub method_refused : found ≡ None
          → OnOk res ((base : Run) (s : State) → whole_of base q s ≡ unwound base r.callers.items (rest r.machine.tasks (gave (frame_in base r.machine) (drop (suc (size_of h)) r.machine.values)
          (raises TypeError (codes "call") s)))) → OnOk res (CallsMethod h (special w.store.heap (value.Ref at) name) lent r w q w)
      method_refused none law =
          refused_ok r.machine w r.callers.items (size_of h) q res TypeError (codes "call")
          (λ base. found_by (special w.store.heap (value.Ref at) name) lent held (frame_in base r.machine) (state_of w))
          (λ base. ap (λ (m : Option Oid). found_by (option_map (λ f. record { function = f; of = value.Ref at }) m) lent held (frame_in base r.machine) (state_of w))
          (sym value_is ∙ none)) law

      -- it has one
      pub method_called : (function : Oid) → found ≡ Some function → OnOk res (CallsMethod h (Some (record { function = function; of = value.Ref at })) lent r w q v)
          → OnOk res (CallsMethod h (special w.store.heap (value.Ref at) name) lent r w q v)
      method_called function some law =
          subst (λ (m : Option Oid). OnOk res (CallsMethod h (option_map (λ f. record { function = f; of = value.Ref at }) m) lent r w q v)) (sym (sym value_is ∙ some)) law

    -- a function is called behind the object
    pub enters_behind : (function at : Oid) (lent : Bool) (made : Option Oid) (c : Callable) → IsCallWith w.store.heap function (Some (value.Ref at)) c
        → OnOk res (Enters h c.entry.function (before_all c.receiver held) lent made r w q v) → OnOk res (Enters h function (behind (value.Ref at) held) lent made r w q v)
    enters_behind function at lent made c is law =
        subst (λ (o : Option Value). OnOk res (Enters h function (before_all o held) lent made r w q v)) is.receiver
        (subst (λ (place : Oid). OnOk res (Enters h place (before_all c.receiver held) lent made r w q v)) is.place law)
