-- Names and scopes (Python Language Reference, Naming and binding). A scope is an object of the store with a slot for each local name of its code
-- block; a slot is empty where the name is unbound. The exposed names and the built-in ones that are behind a global name are rules of our own.
use Rattle.std.specs.Prelude.{ℕ, zero, suc, List, ◌∷◌, length, position, option_map, option_and_then, Option, Some, None, find}
use Rattle.std.specs.Option.{option_map_or, option_or}
use Rattle.rp_base.specs.declared.kind.Kind.{Kind}
use Rattle.rp_base.specs.declared.kind.Kind.TheVariants.{NameError, UnboundLocalError}
use Rattle.rp_base.specs.declared.native.NativeId.{NativeId}
use Rattle.rp_base.specs.declared.native.NativeId.TheVariants.{RemoveSecurityProxy}
use Rattle.rp_base.specs.declared.value.Name.{Name}
use Rattle.rp_base.specs.declared.value.Oid.{Oid}
use Rattle.rp_base.specs.declared.value.Rock.TheVariants as rock
use Rattle.rp_base.specs.declared.value.Side.{Side}
use Rattle.rp_base.specs.declared.value.Value.{Value}
use Rattle.rp_base.specs.declared.value.Value.TheVariants as value
use Rattle.rp_base.specs.declared.kind.TheConstants.Kind.{ALL}
use Rattle.rp_base.specs.declared.native.TheConstants.NativeId.{FUNCTIONS}
use Rattle.rp_base.specs.Kind.{kind_name}
use Rattle.rp_base.specs.Same.{same_text}
use Rattle.rp_attributes.specs.Attributes.{method_named}
use Rattle.rp_ops.specs.Outcome.{gives, raises}
use Rattle.rp_proxy.specs.Taken.{taken}
use Rattle.rp_store.specs.Heap.{Owned, parent_at, slot_at as slot_value}
use Rattle.rp_store.specs.Key.{same_name}
use Rattle.rp_store.specs.Writers.{with_slot}
use Rattle.rp_meaning.specs.State.{State, Outcome, with_change, heap_of}

-- where a code block finds a name: in a slot of its own scope, in one of the scope so many blocks outwards, or among the globals
pub data Place : Type 0 where
  local : ℕ → Place
  outer : ℕ → ℕ → Place
  global : Place

-- the local names of each code block by its number, parameters first, and the place of a name in it; the program itself is block 0
pub record Layouts : Type 0 where
  pub locals : ℕ → List Name
  pub place : ℕ → Name → Place

-- a slot of the scope at a place
pub record Slot : Type 0 where
  pub scope : Oid
  pub index : ℕ

abbrev pub slot_in : Oid → ℕ → Slot
slot_in scope index = record { scope = scope; index = index }

-- the scope so many blocks outwards; past the outermost it is the outermost
abbrev pub outwards : ℕ → List Owned → Oid → Oid
outwards zero heap at = at
outwards (suc n) heap at = option_map_or (outwards n heap) (parent_at heap at) at

-- the global scope of the code that runs in a scope: no scope is more blocks outwards than there are objects
abbrev pub globals_of : List Owned → Oid → Oid
globals_of heap at = outwards (length heap) heap at

-- the slot of a name, where code runs in a scope; a global name has one where the program binds it
abbrev pub slot_at : Layouts → List Owned → Oid → Place → Name → Option Slot
slot_at layouts heap at (local i) name = Some (slot_in at i)
slot_at layouts heap at (outer n i) name = Some (slot_in (outwards n heap at) i)
slot_at layouts heap at global name = option_map (slot_in (globals_of heap at)) (position (same_name name) (layouts.locals 0))

-- what a slot holds, where it is bound
abbrev pub held : List Owned → Option Slot → Option Value
held heap slot = option_and_then (λ slot. slot_value heap slot.scope slot.index) slot

-- the state with a slot filled or emptied
abbrev pub with_slot_set : Option Slot → Option Value → State → State
with_slot_set None v s = s
with_slot_set (Some slot) v s = with_change slot.scope (with_slot slot.index v) s

-- trusted code alone has `removeSecurityProxy` (zope.security)
abbrev pub functions_of : Side → List NativeId
functions_of side = of side.0 where
  of : ℕ → List NativeId
  of zero = RemoveSecurityProxy ∷ FUNCTIONS
  of (suc n) = FUNCTIONS

-- what a built-in name stands for: a function, or a kind of exceptions
abbrev pub built_in : Side → List ℕ → Option Value
built_in side word = option_or
    (option_map (λ id. value.Rock (rock.Native id)) (method_named (functions_of side) word))
    (option_map (λ k. value.Rock (rock.Kind k)) (find (λ k. same_text (kind_name k) word) ALL))

-- the value of an exposed name, which stands in the scope at place 0, as a script takes it
abbrev pub exposed : Side → List Owned → List (List ℕ) → List ℕ → Option Value
exposed side heap expose word = of side.0 where
  of : ℕ → Option Value
  of zero = None
  of (suc n) = option_map (taken heap side) (held heap (option_map (slot_in (record { 0 = 0 })) (position (same_text word) expose)))

-- a global name: a variable of the program, else an exposed name, else a built-in one
abbrev pub global_value : Side → Option Value → List ℕ → State → Option Value
global_value side variable word s = option_or variable (option_or (exposed side (heap_of s) s.declarations.expose word) (built_in side word))

abbrev pub bound_or : Kind → List ℕ → Option Value → State → Outcome Value
bound_or kind word (Some v) s = gives v s
bound_or kind word None s = raises kind word s

-- the value of a name at its place, where its slot holds that
abbrev pub value_at : Side → Place → Option Value → List ℕ → State → Outcome Value
value_at side (local i) variable word s = bound_or UnboundLocalError word variable s
value_at side (outer n i) variable word s = bound_or NameError word variable s
value_at side global variable word s = bound_or NameError word (global_value side variable word s) s

-- what is raised where a name that is to be unbound is not bound
abbrev pub unbound_kind : Place → Kind
unbound_kind global = NameError
unbound_kind _ = UnboundLocalError
