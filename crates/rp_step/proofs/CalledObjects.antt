-- What a call of an object runs, from what stands at its place.
use Rattle.std.proofs.Common.{◌≡◌, List, [], Vec, Global, Option, Some, None, refl, sym, ap, ◌∙◌, subst}
use Rattle.std.specs.Prelude.{IsSomeAnd, option_map, slice_get}
use Rattle.std.specs.Option.{option_map_or}
use Rattle.rp_base.specs.declared.value.Name.{Name}
use Rattle.rp_base.specs.declared.value.Oid.{Oid}
use Rattle.rp_base.specs.declared.value.Side.{Side}
use Rattle.rp_base.specs.declared.value.Value.{Value}
use Rattle.rp_base.specs.declared.value.Value.TheVariants as value
use Rattle.rp_base.specs.declared.word.TheConstants.{CALL}
use Rattle.rp_meaning.specs.Binding.{Arguments, behind}
use Rattle.rp_meaning.specs.BuiltIn.{not_called}
use Rattle.rp_meaning.specs.Frame.{Frame}
use Rattle.rp_meaning.specs.Special.{Special, on_special, special}
use Rattle.rp_meaning.specs.State.{State, Outcome, heap_of}
use Rattle.rp_store.specs.Heap.{Names, Owned, content_at, method_of}
use Rattle.rp_store.specs.Object as object
use Rattle.rp_store.specs.Kept.{IsHeldBySome, IsScopeOf, IsSound}
use Rattle.rp_store.specs.Object.{Content, content_of}
use Rattle.rp_store.specs.Parts.{IsFunction, IsInstance, IsScope}
use Rattle.rp_store.specs.declared.object.Object.{Object}
use Rattle.rp_store.specs.declared.object.Object.TheVariants as stored
use Rattle.rp_store.specs.declared.object.Callee.TheVariants as callee
use Rattle.rp_engine.specs.DefinitionSteps.{code_call, code_of}
use Rattle.rp_enter.specs.declared.entering.Entry.{Entry}
use Rattle.rp_step.specs.Callables.{IsCallWith, IsCallableAt, IsFunctionAt, IsUncalledAt, before_all}
use Rattle.rp_step.specs.declared.callables.Callable.{Callable}

module _ (at : Oid) (a : Arguments) (f : Frame) (s : State) where
  -- what stands at a place is called
  found_by : (o : Option Owned) (c : Content) (x : Outcome Value) → option_map (λ (o : Owned). o.content) o ≡ Some c
      → ((owner : Side) → code_of at owner c a f s ≡ x) → code_call at o a f s ≡ x
  found_by None c x e is = let k : None ≡ Some c = e in absurd (cc)
  found_by (Some o) c x e is = ap (λ c. code_of at o.owner c a f s) (ap (λ (x : Option Content). option_map_or (λ c. c) x (object.list [])) e) ∙ is o.owner

  -- an instance is called by its special method
  abbrev Specially : Option Special → Outcome Value
  Specially o = on_special o (λ m. f.calls m.function (behind m.of a)) not_called s

  instance_call : (owner : Side) (c : Content) → IsInstance c → code_of at owner c a f s ≡ Specially (special (heap_of s) (value.Ref at) CALL)
  instance_call owner (object.list vs) is = absurd is
  instance_call owner (object.tuple vs) is = absurd is
  instance_call owner (object.dict es) is = absurd is
  instance_call owner (object.instance of fields) is = refl
  instance_call owner (object.class name declared methods) is = absurd is
  instance_call owner (object.function name unit block within defaults) is = absurd is
  instance_call owner (object.method receiver called) is = absurd is
  instance_call owner (object.scope block parent slots) is = absurd is

  found_instance : (o : Option Owned) → IsSomeAnd (option_map (λ (o : Owned). o.content) o) IsInstance → code_call at o a f s ≡ Specially (special (heap_of s) (value.Ref at) CALL)
  found_instance None is = absurd is
  found_instance (Some o) is = instance_call o.owner o.content is

  -- the call is that of the function
  called_with : (heap : List Owned) (function : Oid) (receiver : Option Value) (c : Callable) → IsCallWith heap function receiver c
      → f.calls function (before_all receiver a) s ≡ f.calls c.entry.function (before_all c.receiver a) s
  called_with heap function receiver c h =
      ap (λ at. f.calls at (before_all receiver a) s) (sym h.place) ∙ ap (λ r. f.calls c.entry.function (before_all r a) s) (sym h.receiver)

-- it has no code
abbrev pub HasNoCode : Content → Type 0
HasNoCode (object.list vs) = Unit {0}
HasNoCode (object.tuple vs) = Unit {0}
HasNoCode (object.dict es) = Unit {0}
HasNoCode (object.method receiver (callee.Native id)) = Unit {0}
HasNoCode (object.scope block parent slots) = Unit {0}
HasNoCode c = ⊥

no_code : (at : Oid) (owner : Side) (c : Content) (a : Arguments) (f : Frame) (s : State) → HasNoCode c → code_of at owner c a f s ≡ not_called s
no_code at owner (object.list vs) a f s is = refl
no_code at owner (object.tuple vs) a f s is = refl
no_code at owner (object.dict es) a f s is = refl
no_code at owner (object.instance of fields) a f s is = absurd is
no_code at owner (object.class name declared methods) a f s is = absurd is
no_code at owner (object.function name unit block within defaults) a f s is = absurd is
no_code at owner (object.method receiver (callee.Function function)) a f s is = absurd is
no_code at owner (object.method receiver (callee.Native id)) a f s is = refl
no_code at owner (object.scope block parent slots) a f s is = refl

module _ (heap : List Owned) (at : Oid) where
  callable : (function : Oid) (receiver : Option Value) (c : Callable)
      → ((a : Arguments) (f : Frame) (s : State) → heap_of s ≡ heap → code_call at (slice_get (heap_of s) at.0) a f s ≡ f.calls function (before_all receiver a) s)
      → IsCallWith heap function receiver c → IsCallableAt heap at c
  callable function receiver c is h = record {
    function = h.function;
    sound = h.sound;
    called = λ a f s same. is a f s same ∙ called_with at a f s heap function receiver c h;
  }

  there : (c : Content) (s : State) → content_at heap at ≡ Some c → heap_of s ≡ heap → content_at (heap_of s) at ≡ Some c
  there c s is same = ap (λ heap. content_at heap at) same ∙ is

  pub uncalled : (c : Content) → content_at heap at ≡ Some c → HasNoCode c → IsUncalledAt heap at
  uncalled c is none = λ a f s same. found_by at a f s (slice_get (heap_of s) at.0) c (not_called s) (there c s is same) (λ owner. no_code at owner c a f s none)

  -- a function itself, a bound one, and the special method of an instance

  pub function_callable : (c : Callable) → IsCallWith heap at None c → IsCallableAt heap at c
  function_callable c h = record {
    function = h.function;
    sound = h.sound;
    called = λ a f s same.
        let e = h.function in
        found_by at a f s (slice_get (heap_of s) at.0) (object.function e.name c.entry.side c.entry.block c.entry.within e.defaults) (f.calls at a s)
        (there (object.function e.name c.entry.side c.entry.block c.entry.within e.defaults) s
        (subst (λ place. content_at heap place ≡ Some (object.function e.name c.entry.side c.entry.block c.entry.within e.defaults)) h.place e.is) same) (λ owner. refl)
        ∙ called_with at a f s heap at None c h;
  }

  pub bound_callable : (function : Oid) (receiver : Value) (c : Callable) → content_at heap at ≡ Some (object.method receiver (callee.Function function))
      → IsCallWith heap function (Some receiver) c → IsCallableAt heap at c
  bound_callable function receiver c is h =
      callable function (Some receiver) c
      (λ a f s same. found_by at a f s (slice_get (heap_of s) at.0) (object.method receiver (callee.Function function)) (f.calls function (behind receiver a) s)
      (there (object.method receiver (callee.Function function)) s is same) (λ owner. refl)) h

  by_special : (o : Option Oid) → Names heap IsInstance at → method_of heap at CALL ≡ o → (a : Arguments) (f : Frame) (s : State) → heap_of s ≡ heap
      → code_call at (slice_get (heap_of s) at.0) a f s ≡ Specially at a f s (option_map (λ function. record { function = function; of = value.Ref at }) o)
  by_special o instance method a f s same =
      found_instance at a f s (slice_get (heap_of s) at.0) (subst (λ heap. IsSomeAnd (content_at heap at) IsInstance) (sym same) instance)
      ∙ ap (λ heap. Specially at a f s (special heap (value.Ref at) CALL)) same
      ∙ ap (λ (m : Option Oid). Specially at a f s (option_map (λ function. record { function = function; of = value.Ref at }) m)) method

  pub special_callable : (function : Oid) (c : Callable) → Names heap IsInstance at → method_of heap at CALL ≡ Some function
      → IsCallWith heap function (Some (value.Ref at)) c → IsCallableAt heap at c
  special_callable function c instance method h = callable function (Some (value.Ref at)) c (by_special (Some function) instance method) h

  pub special_uncalled : Names heap IsInstance at → method_of heap at CALL ≡ None → IsUncalledAt heap at
  special_uncalled instance method = λ a f s same. by_special None instance method a f s same

-- a function is no scope
no_scope : (o : Option Content) → IsSomeAnd o IsFunction → IsSomeAnd o (λ c. ¬ IsScope c)
no_scope None is = is
no_scope (Some (object.list vs)) is = absurd is
no_scope (Some (object.tuple vs)) is = absurd is
no_scope (Some (object.dict es)) is = absurd is
no_scope (Some (object.instance of fields)) is = absurd is
no_scope (Some (object.class name declared methods)) is = absurd is
no_scope (Some (object.function name unit block within defaults)) is = λ scope. scope
no_scope (Some (object.method receiver called)) is = absurd is
no_scope (Some (object.scope block parent slots)) is = absurd is

pub function_sound : (heap : List Owned) (at : Oid) → Names heap IsFunction at → IsSound heap (value.Ref at)
function_sound heap at is = no_scope (content_at heap at) is

-- what was found at a place is this function
pub function_there : (heap : List Owned) (o : Object) (e : Entry) (name : Option Name) (defaults : Vec Value Global) → content_at heap e.function ≡ Some (content_of o)
    → o ≡ stored.Function name e.side e.block e.within defaults → IsHeldBySome heap (content_of o) → IsFunctionAt heap e
function_there heap o e name defaults is same holds =
    let held = subst (λ (o : Object). IsHeldBySome heap (content_of o)) same holds in
    record {
      name = name;
      defaults = defaults.items;
      is = is ∙ ap (λ (o : Object). Some (content_of o)) same;
      scope = subst (λ (side : Side). IsScopeOf heap side e.within) (sym held.holds.0) held.holds.1;
    }
