-- What is called by an object, as the code tells it.
use Rattle.std.specs.Prelude.{◌≡◌, IsTrue, List, None, Some, is_some, slice_get}
use Rattle.rp_base.specs.declared.value.Oid.{Oid}
use Rattle.rp_base.specs.declared.value.Value.{Value}
use Rattle.rp_base.specs.declared.value.Value.TheVariants as value
use Rattle.rp_base.specs.declared.word.TheConstants.{CALL}
use Rattle.rp_meaning.specs.Special.{special}
use Rattle.rp_store.specs.Heap.{Owned, Names}
use Rattle.rp_store.specs.Kept.{IsSound}
use Rattle.rp_store.specs.Object as object
use Rattle.rp_store.specs.Object.{Content}
use Rattle.rp_store.specs.declared.object.Callee.TheVariants as callee
use Rattle.rp_access.specs.declared.callees.Called.{Called}
use Rattle.rp_access.specs.declared.callees.Called.TheVariants as called

-- the object at a place is nothing that may be called
abbrev pub IsUncalled : List Owned → Oid → Content → Type 0
IsUncalled heap at (object.function name unit block within defaults) = ⊥
IsUncalled heap at (object.method receiver called) = ⊥
IsUncalled heap at (object.class name declared methods) = ⊥
IsUncalled heap at (object.instance of fields) = special heap (value.Ref at) CALL ≡ None
IsUncalled heap at _ = Unit {0}

-- the object at a place is called by code: a function, a class, a bound function, or an instance whose class has the special method
abbrev pub IsCode : List Owned → Oid → Content → Type 0
IsCode heap at (object.function name unit block within defaults) = Unit {0}
IsCode heap at (object.class name declared methods) = Unit {0}
IsCode heap at (object.method receiver (callee.Function function)) = Unit {0}
IsCode heap at (object.instance of fields) = IsTrue (is_some (special heap (value.Ref at) CALL))
IsCode heap at _ = ⊥

-- what is called by the object at a place
abbrev pub IsCalledAt : List Owned → Oid → Called → Type 0
IsCalledAt heap at (called.Method owner receiver id) =
    slice_get heap at.0 ≡ Some (record { owner = owner; content = object.method receiver (callee.Native id) })
IsCalledAt heap at called.Other = Names heap (IsCode heap at) at
IsCalledAt heap at called.Nothing = Names heap (IsUncalled heap at) at

-- the receiver of a method that is called is a value of the store
abbrev pub IsReceiverSound : List Owned → Called → Type 0
IsReceiverSound heap (called.Method owner receiver id) = IsSound heap receiver
IsReceiverSound heap called.Other = Unit {0}
IsReceiverSound heap called.Nothing = Unit {0}

-- the value names the object at a place
abbrev pub IsAt : Value → Oid → Type 0
IsAt (value.Rock rock) at = ⊥
IsAt (value.Ref other) at = other ≡ at
IsAt (value.Prox other) at = other ≡ at
