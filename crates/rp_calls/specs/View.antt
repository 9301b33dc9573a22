-- What the code's slots are: a list, of values that are sound.
use Rattle.std.specs.Prelude.{List, All, Option, IfSome, Result, Ok, Err}
use Rattle.std.specs.declared.alloc.Global.{Global}
use Rattle.std.specs.declared.vec.Vec.{Vec}
use Rattle.rp_base.specs.declared.value.OpEnd.{OpEnd}
use Rattle.rp_base.specs.declared.value.Value.{Value}
use Rattle.rp_store.specs.Heap.{Owned}
use Rattle.rp_store.specs.Kept.{IsSound}

-- the slots that an answer gives
abbrev pub slots_of : Result (Vec (Option Value) Global) OpEnd → Result (List (Option Value)) OpEnd
slots_of (Ok slots) = Ok slots.items
slots_of (Err e) = Err e

abbrev pub AreSlotsSound : List Owned → List (Option Value) → Type 0
AreSlotsSound heap slots = All (λ slot. IfSome slot (IsSound heap)) slots
