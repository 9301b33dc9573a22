-- What a call of an object runs, and what the one who calls gets of it.
use Rattle.std.specs.Prelude.{◌≡◌, Bool, IfSome, List, Option, Some, None, codes, slice_get}
use Rattle.rp_base.specs.declared.kind.Kind.TheVariants.{TypeError}
use Rattle.rp_base.specs.declared.value.Name.{Name}
use Rattle.rp_base.specs.declared.value.Oid.{Oid}
use Rattle.rp_base.specs.declared.value.Rock.TheVariants as rock
use Rattle.rp_base.specs.declared.value.Value.{Value}
use Rattle.rp_base.specs.declared.value.Value.TheVariants as value
pub use Rattle.rp_enter.specs.Entering.{before_all}
use Rattle.rp_enter.specs.declared.entering.Entry.{Entry}
use Rattle.rp_meaning.specs.Binding.{Arguments}
use Rattle.rp_meaning.specs.BuiltIn.{not_called}
use Rattle.rp_meaning.specs.Frame.{Frame, Meaning}
pub use Rattle.rp_meaning.specs.Operators.{is_nil}
use Rattle.rp_meaning.specs.State.{State, Outcome, heap_of}
use Rattle.rp_ops.specs.Outcome.{gives, on_value, raises}
use Rattle.rp_store.specs.Heap.{Names, Owned, content_at, owner_at}
use Rattle.rp_store.specs.Kept.{IsScopeOf, IsSound}
use Rattle.rp_store.specs.Object as object
use Rattle.rp_store.specs.Parts.{IsClass}
use Rattle.rp_engine.specs.DefinitionSteps.{code_call, got_by}
use Rattle.rp_step.specs.declared.callables.Callable.{Callable}
use Rattle.rp_step.specs.declared.callables.Called.{Called}
use Rattle.rp_step.specs.declared.callables.Called.TheVariants as called

-- what stands at a place is this function
pub record IsFunctionAt (heap : List Owned) (e : Entry) : Type 0 where
  pub name : Option Name
  pub defaults : List Value
  pub is : content_at heap e.function ≡ Some (object.function name e.side e.block e.within defaults)
  pub scope : IsScopeOf heap e.side e.within

-- the function at a place, behind this value
pub record IsCallWith (heap : List Owned) (at : Oid) (first : Option Value) (c : Callable) : Type 0 where
  pub place : c.entry.function ≡ at
  pub receiver : c.receiver ≡ first
  pub function : IsFunctionAt heap c.entry
  pub sound : IfSome c.receiver (IsSound heap)

-- a call of the object at a place is a call of this function
pub record IsCallableAt (heap : List Owned) (at : Oid) (c : Callable) : Type 0 where
  pub function : IsFunctionAt heap c.entry
  pub sound : IfSome c.receiver (IsSound heap)
  pub called : (a : Arguments) (f : Frame) (s : State) → heap_of s ≡ heap
      → code_call at (slice_get (heap_of s) at.0) a f s ≡ f.calls c.entry.function (before_all c.receiver a) s

-- a call of the object at a place runs no code
abbrev pub IsUncalledAt : List Owned → Oid → Type 0
IsUncalledAt heap at = (a : Arguments) (f : Frame) (s : State) → heap_of s ≡ heap → code_call at (slice_get (heap_of s) at.0) a f s ≡ not_called s

-- what a call of the object at a place does
abbrev pub IsCalledAt : List Owned → Oid → Called → Type 0
IsCalledAt heap at (called.Code c) = IsCallableAt heap at c
IsCalledAt heap at (called.Class owner) = Names heap IsClass at × (owner_at heap at ≡ Some owner)
IsCalledAt heap at called.Nothing = IsUncalledAt heap at

-- an instance that was made is what a call gives, where `__init__` gave None
abbrev pub initialised : Oid → Value → State → Outcome Value
initialised at (value.Rock rock.Nil) s = gives (value.Ref at) s
initialised at _ s = raises TypeError (codes "init") s

-- what the one who calls gets of a value: it, or an instance that was made, through a proxy or not
abbrev pub given_by : Bool → Option Oid → Value → Meaning
given_by lent None v f s = got_by lent v f s
given_by lent (Some at) v f s = on_value (initialised at v s) (λ v s. got_by lent v f s)

-- the same, or the list or dict that a comprehension filled, whatever its turns came to
abbrev pub given_at : Option Oid → Bool → Option Oid → Value → Meaning
given_at None lent made v f s = given_by lent made v f s
given_at (Some at) lent made v f s = gives (value.Ref at) s
