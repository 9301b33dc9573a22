-- What an answer says of an outcome: a value, or why there is none. Want of memory says nothing.
use Rattle.std.specs.Prelude.{◌≡◌, Option, Some, None, Result, Ok, Err}
use Rattle.rp_base.specs.declared.value.OpEnd.{OpEnd}
use Rattle.rp_base.specs.declared.value.OpEnd.TheVariants as end
use Rattle.rp_meaning.specs.State.{State, Outcome}
use Rattle.rp_ops.specs.Outcome.{raised, no_step, no_cell, gives, ends}

-- the outcome is this end
abbrev pub IsEnd : {A : Type 0} → OpEnd → State → Outcome A → Type 0
IsEnd (end.Raised r) s o = o ≡ ends (raised r) s
IsEnd end.StopSteps s o = o ≡ ends no_step s
IsEnd end.StopCells s o = o ≡ ends no_cell s
IsEnd end.Memory s o = Unit {0}

abbrev pub Comes : {A : Type 0} → Result A OpEnd → State → Outcome A → Type 0
Comes (Ok a) s o = o ≡ gives a s
Comes (Err e) s o = IsEnd e s o

-- the same, where what was done gives this
abbrev pub ComesTo : {A : Type 0} → A → Result (Unit {0}) OpEnd → State → Outcome A → Type 0
ComesTo a (Ok nothing) s o = o ≡ gives a s
ComesTo a (Err e) s o = IsEnd e s o

-- the same, where nothing may be known
abbrev pub ComesIfAny : {A : Type 0} → Result (Option A) OpEnd → State → Outcome A → Type 0
ComesIfAny (Ok (Some a)) s o = o ≡ gives a s
ComesIfAny (Ok None) s o = Unit {0}
ComesIfAny (Err e) s o = IsEnd e s o
