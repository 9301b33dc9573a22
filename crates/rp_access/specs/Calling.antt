-- What an answer says of a call of a value by code of a side: where it is not done, that alone.
use Rattle.std.specs.Prelude.{◌≡◌, ◌≢◌, List, [], Option, Result, Ok, Err}
use Rattle.rp_base.specs.declared.native.NativeId.{NativeId}
use Rattle.rp_base.specs.declared.value.OpEnd.{OpEnd}
use Rattle.rp_base.specs.declared.value.Rock.TheVariants as rock
use Rattle.rp_base.specs.declared.value.Side.{Side}
use Rattle.rp_base.specs.declared.value.Value.{Value}
use Rattle.rp_base.specs.declared.value.Value.TheVariants as value
use Rattle.rp_base.specs.declared.word.TheConstants.{CALL}
use Rattle.rp_meaning.specs.Binding.{Arguments, only}
use Rattle.rp_meaning.specs.BuiltIn.{method_call}
use Rattle.rp_meaning.specs.Calls.{call}
use Rattle.rp_meaning.specs.Frame.{Frame}
use Rattle.rp_meaning.specs.State.{State, heap_of}
use Rattle.rp_ops.specs.Outcome.{gives}
use Rattle.rp_proxy.specs.declared.world.World.{World}
use Rattle.rp_store.specs.Heap.{Names}
use Rattle.rp_access.specs.CallSteps.{IsFunctionLeft}
use Rattle.rp_access.specs.Callees.{IsCode}
use Rattle.rp_access.specs.Comes.{ComesIfAny, IsEnd}
use Rattle.rp_access.specs.Moment.{decided_frame, state_of}
use Rattle.rp_access.specs.Parts.{asking}

abbrev pub CallComes : Side → Value → List Value → Result (Option Value) OpEnd → World → World → Type 0
CallComes side f args r old new = (frame : Frame) → frame.side ≡ side
    → ComesIfAny r (state_of new) (call f (only args) (decided_frame frame) (state_of old))

-- a call of code, once that is decided
abbrev pub IsCodeLeft : Value → State → State → Type 0
IsCodeLeft (value.Rock r) s t = ⊥
IsCodeLeft (value.Ref at) s t = (asking CALL (value.Ref at) s ≡ gives (tt {0}) t) × Names (heap_of t) (IsCode (heap_of t) at) at
IsCodeLeft (value.Prox at) s t = (asking CALL (value.Prox at) s ≡ gives (tt {0}) t) × Names (heap_of t) (IsCode (heap_of t) at) at

-- a call that is not done: of a function that is not done, or of code
abbrev pub IsCallLeft : Value → List Value → State → State → Type 0
IsCallLeft (value.Rock (rock.Native id)) args s t = IsFunctionLeft id args s t
IsCallLeft f args s t = IsCodeLeft f s t

-- a call with named arguments of a built-in method of a receiver is refused
abbrev pub IsMethodRefused : Value → NativeId → OpEnd → State → Type 0
IsMethodRefused receiver id e s =
    (owner : Side) (a : Arguments) (frame : Frame) → a.named ≢ [] → IsEnd e s (method_call owner receiver id a (decided_frame frame) s)

-- a call with named arguments that is refused
abbrev pub IsCallRefused : Value → Result (Unit {0}) OpEnd → State → State → Type 0
IsCallRefused f (Ok done) s t = Unit {0}
IsCallRefused f (Err e) s t = (a : Arguments) (frame : Frame) → a.named ≢ [] → IsEnd e t (call f a (decided_frame frame) s)
