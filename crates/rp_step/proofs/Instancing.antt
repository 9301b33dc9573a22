-- Calls of classes, from what is known of the instance that was made.
use Rattle.std.proofs.Common.{◌≡◌, ◌≢◌, ℕ, suc, List, [], ◌∷◌, Option, Some, None, Result, Ok, Err, codes, drop, refl, sym, ap, ◌∙◌, subst}
use Rattle.std.specs.Prelude.{Bool, OnOk, IsSomeAnd, option_map, slice_get}
use Rattle.rp_base.specs.declared.kind.Kind.TheVariants.{TypeError}
use Rattle.rp_base.specs.declared.value.Oid.{Oid}
use Rattle.rp_base.specs.declared.value.OpEnd.{OpEnd}
use Rattle.rp_base.specs.declared.value.Rock.TheVariants as rock
use Rattle.rp_base.specs.declared.value.Side.{Side}
use Rattle.rp_base.specs.declared.value.Value.{Value}
use Rattle.rp_base.specs.declared.value.Value.TheVariants as value
use Rattle.rp_base.specs.declared.word.TheConstants.{INIT}
use Rattle.rp_meaning.specs.Binding.{Arguments, behind, none}
use Rattle.rp_meaning.specs.Calls.{made_instance}
use Rattle.rp_meaning.specs.Frame.{Frame, Run}
use Rattle.rp_meaning.specs.Running.{calls_within}
use Rattle.rp_meaning.specs.State.{State, Outcome, heap_of}
use Rattle.rp_ops.specs.Outcome.{End, gives, on_value, raises}
use Rattle.rp_proxy.specs.declared.world.World.{World}
use Rattle.rp_store.specs.Heap.{Names, Owned, method_at, owner_at}
use Rattle.rp_store.specs.Object as object
use Rattle.rp_store.specs.Object.{Content}
use Rattle.rp_store.specs.Parts.{IsClass}
use Rattle.rp_access.specs.Comes.{Comes, IsEnd}
use Rattle.rp_access.specs.Moment.{state_of}
use Rattle.rp_meaning.proofs.Laws.{then_then}
use Rattle.rp_access.proofs.Going.{IsEnd-same, IsEnd-then, gives-then}
use Rattle.rp_enter.specs.Entering.{instance_made, lent_by}
use Rattle.rp_proxy.specs.Taken.{taken}
use Rattle.rp_step.specs.Callables.{initialised}
use Rattle.rp_engine.specs.DefinitionSteps.{code_call, code_of, got_by}
use Rattle.rp_engine.specs.HandSteps.{held_by, size_of}
use Rattle.rp_engine.specs.Law.{frame_in, rest_of}
use Rattle.rp_engine.specs.Moment.{run_of}
use Rattle.rp_engine.specs.Rest.{gave, rest}
use Rattle.rp_step.specs.Running.{CallsAt, Enters, Instances, unwound, whole_of}
use Rattle.rp_engine.specs.declared.calling.Hand.{Hand}
use Rattle.rp_engine.specs.declared.halt.Halt.{Halt}
use Rattle.rp_engine.specs.declared.machine.Machine.{Machine}
use Rattle.rp_step.specs.declared.runner.Runner.{Runner}
use Rattle.rp_engine.proofs.Moves.{on_ok}

-- a class is called
class_call : (at : Oid) (owner : Side) (c : Content) (a : Arguments) (f : Frame) (s : State) → IsClass c
    → code_of at owner c a f s ≡ made_instance owner at (method_at (heap_of s) at INIT) a f s
class_call at owner (object.list vs) a f s is = absurd is
class_call at owner (object.tuple vs) a f s is = absurd is
class_call at owner (object.dict es) a f s is = absurd is
class_call at owner (object.instance of fields) a f s is = absurd is
class_call at owner (object.class name declared methods) a f s is = refl
class_call at owner (object.function name unit block within defaults) a f s is = absurd is
class_call at owner (object.method receiver called) a f s is = absurd is
class_call at owner (object.scope block parent slots) a f s is = absurd is

found_class : (at : Oid) (o : Option Owned) (owner : Side) (a : Arguments) (f : Frame) (s : State)
    → IsSomeAnd (option_map (λ (o : Owned). o.content) o) IsClass → option_map (λ (o : Owned). o.owner) o ≡ Some owner
    → code_call at o a f s ≡ made_instance owner at (method_at (heap_of s) at INIT) a f s
found_class at None owner a f s is owned = absurd is
found_class at (Some o) owner a f s is owned =
    class_call at o.owner o.content a f s is ∙ ap (λ (x : Option Side). made_instance (owner_in x owner) at (method_at (heap_of s) at INIT) a f s) owned where
      owner_in : Option Side → Side → Side
      owner_in None other = other
      owner_in (Some owner) other = owner

pub calls_class : (r q : Runner) (w v : World) (h : Hand) (at : Oid) (lent : Bool) (res : Result (Unit {0}) Halt) (owner : Side) → Names w.store.heap IsClass at → owner_at w.store.heap at ≡ Some owner
    → OnOk res (Instances h owner at (method_at w.store.heap at INIT) lent r w q v) → OnOk res (CallsAt h at lent r w q v)
calls_class r q w v h at lent res owner class owned law =
    on_ok res (Instances h owner at (method_at w.store.heap at INIT) lent r w q v) (CallsAt h at lent r w q v)
    (λ law base. law base ∙ ap (λ o. unwound base r.callers.items (rest r.machine.tasks (gave (frame_in base r.machine) (drop (suc (size_of h)) r.machine.values)
    (on_value o (λ x s. got_by lent x (frame_in base r.machine) s)))))
    (sym (found_class at (slice_get w.store.heap at.0) owner (held_by h r.machine.values) (frame_in base r.machine) (state_of w) class owned))) law

-- by what it has for `__init__`
pub init_as : (r q : Runner) (w v : World) (h : Hand) (owner : Side) (class : Oid) (lent : Bool) (res : Result (Unit {0}) Halt) (init found : Option Oid) → init ≡ found
    → OnOk res (Instances h owner class found lent r w q v) → OnOk res (Instances h owner class init lent r w q v)
init_as r q w v h owner class lent res init found is law = subst (λ x. OnOk res (Instances h owner class x lent r w q v)) (sym is) law

-- what was answered when it was made
module _ (r : Result Oid OpEnd) (s : State) (o : Outcome Oid) where
  pub made_is : (at : Oid) → r ≡ Ok at → Comes r s o → o ≡ gives at s
  made_is at is comes = subst (λ (r : Result Oid OpEnd). Comes r s o) is comes

  pub made_ends : (e : OpEnd) → r ≡ Err e → Comes r s o → IsEnd e s o
  made_ends e is comes = subst (λ (r : Result Oid OpEnd). Comes r s o) is comes

-- without `__init__` there are no arguments

bare_wrong : (owner : Side) (class : Oid) (ns : List (List ℕ × Value)) (vs : List Value) (f : Frame) (s : State) → (ns ≡ [] → vs ≢ [])
    → made_instance owner class None (record { plain = vs; named = ns }) f s ≡ raises TypeError (codes "arguments") s
bare_wrong owner class [] [] f s some = absurd (some refl refl)
bare_wrong owner class [] (v ∷ vs) f s some = refl
bare_wrong owner class (n ∷ ns) vs f s some = refl

pub bare_refused : (owner : Side) (class : Oid) (a : Arguments) (f : Frame) (s : State) → (a.named ≡ [] → a.plain ≢ [])
    → made_instance owner class None a f s ≡ raises TypeError (codes "arguments") s
bare_refused owner class a f s some = bare_wrong owner class a.named a.plain f s some

bare_made : (owner : Side) (class : Oid) (a : Arguments) (f : Frame) (s : State) → a ≡ none
    → made_instance owner class None a f s ≡ on_value (instance_made owner class s) (λ at s. gives (value.Ref at) s)
bare_made owner class a f s nothing = ap (λ a. made_instance owner class None a f s) nothing

pub bare_asked_refused : (r : Runner) (w : World) (a : Arguments) (owner : Side) (class : Oid) (lent : Bool) (base : Run) → (a.named ≡ [] → a.plain ≢ [])
    → on_value (made_instance owner class None a (frame_in base r.machine) (state_of w)) (λ x s. got_by lent x (frame_in base r.machine) s)
    ≡ raises TypeError (codes "arguments") (state_of w)
bare_asked_refused r w a owner class lent base some =
    ap (λ o. on_value o (λ x s. got_by lent x (frame_in base r.machine) s)) (bare_refused owner class a (frame_in base r.machine) (state_of w) some)

module _ (r : Runner) (w u : World) (h : Hand) (owner : Side) (class : Oid) (lent : Bool) (nothing : held_by h r.machine.values ≡ none) where
  bare_then : (base : Run) → on_value (made_instance owner class None (held_by h r.machine.values) (frame_in base r.machine) (state_of w)) (λ x s. got_by lent x (frame_in base r.machine) s)
      ≡ on_value (instance_made owner class (state_of w)) (λ at s. got_by lent (value.Ref at) (frame_in base r.machine) s)
  bare_then base =
      ap (λ o. on_value o (λ x s. got_by lent x (frame_in base r.machine) s)) (bare_made owner class (held_by h r.machine.values) (frame_in base r.machine) (state_of w) nothing)
      ∙ then_then (instance_made owner class (state_of w)) (λ at s. gives (value.Ref at) s) (λ x s. got_by lent x (frame_in base r.machine) s)

  -- it is made
  pub bare_given : (q : Runner) (res : Result (Unit {0}) Halt) (at : Oid) → instance_made owner class (state_of w) ≡ gives at (state_of u)
      → OnOk res ((base : Run) → whole_of base q (state_of u) ≡ unwound base r.callers.items (rest r.machine.tasks (gave (frame_in base r.machine) (drop (suc (size_of h)) r.machine.values)
      (got_by lent (value.Ref at) (frame_in base r.machine) (state_of u)))))
      → OnOk res (Instances h owner class None lent r w q u)
  bare_given q res at made law =
      on_ok res ((base : Run) → whole_of base q (state_of u) ≡ unwound base r.callers.items (rest r.machine.tasks (gave (frame_in base r.machine) (drop (suc (size_of h)) r.machine.values)
      (got_by lent (value.Ref at) (frame_in base r.machine) (state_of u)))))
      (Instances h owner class None lent r w q u)
      (λ law base. law base ∙ ap (λ o. unwound base r.callers.items (rest r.machine.tasks (gave (frame_in base r.machine) (drop (suc (size_of h)) r.machine.values) o)))
      (sym (bare_then base ∙ gives-then at (state_of u) (instance_made owner class (state_of w)) (λ at s. got_by lent (value.Ref at) (frame_in base r.machine) s) made))) law

  -- it is not
  pub bare_ended : (z : Machine) (res : Result (Unit {0}) Halt) (end : OpEnd) → IsEnd end (state_of u) (instance_made owner class (state_of w))
      → OnOk res ((base : Run) (s : State) (o : Outcome Value) → IsEnd end s o → rest_of base z s ≡ rest r.machine.tasks (gave (frame_in base r.machine) (drop (suc (size_of h)) r.machine.values) o))
      → OnOk res (Instances h owner class None lent r w (record r { machine = z }) u)
  bare_ended z res end is law =
      on_ok res ((base : Run) (s : State) (o : Outcome Value) → IsEnd end s o → rest_of base z s ≡ rest r.machine.tasks (gave (frame_in base r.machine) (drop (suc (size_of h)) r.machine.values) o))
      (Instances h owner class None lent r w (record r { machine = z }) u)
      (λ law base. ap (unwound base r.callers.items) (law base (state_of u) _ (IsEnd-same end (state_of u) _ _ (bare_then base)
      (IsEnd-then end (state_of u) (instance_made owner class (state_of w)) (λ at s. got_by lent (value.Ref at) (frame_in base r.machine) s) is)))) law

-- the one who calls gets the instance
pub instance_given : (r : Runner) (h z : Machine) (w : World) (i j : ℕ) (at : Oid) (lent : Bool) (res : Result (Unit {0}) Halt) (a : Value) → h ≡ record r.machine { values = drop j r.machine.values } → j ≡ suc i
    → a ≡ taken w.store.heap r.machine.frame.side (lent_by lent (value.Ref at))
    → OnOk res ((base : Run) (s : State) → rest_of base z s ≡ rest h.tasks (gave (frame_in base h) h.values (gives a s)))
    → OnOk res ((base : Run) → unwound base r.callers.items (rest_of base z (state_of w)) ≡ unwound base r.callers.items (rest r.machine.tasks (gave (frame_in base r.machine) (drop (suc i) r.machine.values)
    (got_by lent (value.Ref at) (frame_in base r.machine) (state_of w)))))
instance_given r h z w i j at lent res a drops more is law =
    on_ok res ((base : Run) (s : State) → rest_of base z s ≡ rest r.machine.tasks (gave (frame_in base r.machine) (drop (suc i) r.machine.values) (gives a s)))
    ((base : Run) → unwound base r.callers.items (rest_of base z (state_of w)) ≡ unwound base r.callers.items (rest r.machine.tasks (gave (frame_in base r.machine) (drop (suc i) r.machine.values)
    (got_by lent (value.Ref at) (frame_in base r.machine) (state_of w)))))
    (λ law base. ap (unwound base r.callers.items) (law base (state_of w)
    ∙ ap (λ a. rest r.machine.tasks (gave (frame_in base r.machine) (drop (suc i) r.machine.values) (gives a (state_of w)))) is))
    (subst (λ (m : Machine). OnOk res ((base : Run) (s : State) → rest_of base z s ≡ rest m.tasks (gave (frame_in base m) m.values (gives a s))))
    (drops ∙ ap (λ k. record r.machine { values = drop k r.machine.values }) more) law)

-- the same goes on alike
then_same : {A B : Type 0} (o p : Outcome A) (go : A → State → Outcome B) → o ≡ p → on_value o go ≡ on_value p go
then_same o p go is = ap (λ o. on_value o go) is

-- `__init__` is called behind the instance
module _ (owner : Side) (class function at : Oid) (a : Arguments) (f : Frame) (s t : State) (made : instance_made owner class s ≡ gives at t) where
  init_by : (r : Result Value End) (u : State) → f.calls function (behind (value.Ref at) a) t ≡ record { answer = r; state = u }
      → made_instance owner class (Some function) a f s ≡ on_value (record { answer = r; state = u }) (λ x s. initialised at x s)
  init_by (Err e) u is = gives-then at t (instance_made owner class s) _ made ∙ then_same (f.calls function (behind (value.Ref at) a) t) (record { answer = Err e; state = u }) _ is
  init_by (Ok (value.Rock rock.Nil)) u is = gives-then at t (instance_made owner class s) _ made ∙ then_same (f.calls function (behind (value.Ref at) a) t) (record { answer = Ok (value.Rock rock.Nil); state = u }) _ is
  init_by (Ok (value.Rock (rock.Truth b))) u is = gives-then at t (instance_made owner class s) _ made ∙ then_same (f.calls function (behind (value.Ref at) a) t) (record { answer = Ok (value.Rock (rock.Truth b)); state = u }) _ is
  init_by (Ok (value.Rock (rock.Int i))) u is = gives-then at t (instance_made owner class s) _ made ∙ then_same (f.calls function (behind (value.Ref at) a) t) (record { answer = Ok (value.Rock (rock.Int i)); state = u }) _ is
  init_by (Ok (value.Rock (rock.Text x))) u is = gives-then at t (instance_made owner class s) _ made ∙ then_same (f.calls function (behind (value.Ref at) a) t) (record { answer = Ok (value.Rock (rock.Text x)); state = u }) _ is
  init_by (Ok (value.Rock (rock.Native id))) u is = gives-then at t (instance_made owner class s) _ made ∙ then_same (f.calls function (behind (value.Ref at) a) t) (record { answer = Ok (value.Rock (rock.Native id)); state = u }) _ is
  init_by (Ok (value.Rock (rock.Kind k))) u is = gives-then at t (instance_made owner class s) _ made ∙ then_same (f.calls function (behind (value.Ref at) a) t) (record { answer = Ok (value.Rock (rock.Kind k)); state = u }) _ is
  init_by (Ok (value.Rock (rock.Exc k x))) u is = gives-then at t (instance_made owner class s) _ made ∙ then_same (f.calls function (behind (value.Ref at) a) t) (record { answer = Ok (value.Rock (rock.Exc k x)); state = u }) _ is
  init_by (Ok (value.Ref b)) u is = gives-then at t (instance_made owner class s) _ made ∙ then_same (f.calls function (behind (value.Ref at) a) t) (record { answer = Ok (value.Ref b); state = u }) _ is
  init_by (Ok (value.Prox b)) u is = gives-then at t (instance_made owner class s) _ made ∙ then_same (f.calls function (behind (value.Ref at) a) t) (record { answer = Ok (value.Prox b); state = u }) _ is

  init_is : (o : Outcome Value) → f.calls function (behind (value.Ref at) a) t ≡ o → made_instance owner class (Some function) a f s ≡ on_value o (λ x s. initialised at x s)
  init_is o is = init_by o.answer o.state is

init_ends : (owner : Side) (class function : Oid) (a : Arguments) (f : Frame) (s t : State) (end : OpEnd) → IsEnd end t (instance_made owner class s)
    → IsEnd end t (made_instance owner class (Some function) a f s)
init_ends owner class function a f s t end is = IsEnd-then end t (instance_made owner class s) _ is

module _ (r : Runner) (w u : World) (h : Hand) (owner : Side) (class function : Oid) (lent : Bool) where
  pub init_given : (q : Runner) (v : World) (res : Result (Unit {0}) Halt) (at : Oid) → instance_made owner class (state_of w) ≡ gives at (state_of u)
      → OnOk res (Enters h function (behind (value.Ref at) (held_by h r.machine.values)) lent (Some at) r u q v)
      → OnOk res (Instances h owner class (Some function) lent r w q v)
  init_given q v res at made law =
      on_ok res (Enters h function (behind (value.Ref at) (held_by h r.machine.values)) lent (Some at) r u q v) (Instances h owner class (Some function) lent r w q v)
      (λ law base.
      let a = held_by h r.machine.values in
      let o = calls_within (run_of base r.machine.units.now) r.machine.frame.calls function (behind (value.Ref at) a) (state_of u) in
      law base ∙ ap (λ o. unwound base r.callers.items (rest r.machine.tasks (gave (frame_in base r.machine) (drop (suc (size_of h)) r.machine.values) o)))
      (sym (ap (λ o. on_value o (λ x s. got_by lent x (frame_in base r.machine) s)) (init_is owner class function at a (frame_in base r.machine) (state_of w) (state_of u) made o refl)
      ∙ then_then o (λ x s. initialised at x s) (λ x s. got_by lent x (frame_in base r.machine) s)))) law

  pub init_ended : (z : Machine) (res : Result (Unit {0}) Halt) (end : OpEnd) → IsEnd end (state_of u) (instance_made owner class (state_of w))
      → OnOk res ((base : Run) (s : State) (o : Outcome Value) → IsEnd end s o → rest_of base z s ≡ rest r.machine.tasks (gave (frame_in base r.machine) (drop (suc (size_of h)) r.machine.values) o))
      → OnOk res (Instances h owner class (Some function) lent r w (record r { machine = z }) u)
  init_ended z res end is law =
      on_ok res ((base : Run) (s : State) (o : Outcome Value) → IsEnd end s o → rest_of base z s ≡ rest r.machine.tasks (gave (frame_in base r.machine) (drop (suc (size_of h)) r.machine.values) o))
      (Instances h owner class (Some function) lent r w (record r { machine = z }) u)
      (λ law base. ap (unwound base r.callers.items) (law base (state_of u) _ (IsEnd-then end (state_of u) _ (λ x s. got_by lent x (frame_in base r.machine) s)
      (init_ends owner class function (held_by h r.machine.values) (frame_in base r.machine) (state_of w) (state_of u) end is)))) law
