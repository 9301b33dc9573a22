-- Unpacking, as the code has functions for it; each is a part of a form of rp_meaning (Python Language Reference, Assignment statements).
use Rattle.std.specs.Prelude.{◌≡◌, ℕ, suc, ◌++◌, List, [], ◌∷◌, Result, Ok, Err}
use Rattle.std.specs.declared.vec.Vec.{Vec}
use Rattle.std.specs.declared.alloc.Global.{Global}
use Rattle.rp_base.specs.declared.value.OpEnd.{OpEnd}
use Rattle.rp_base.specs.declared.value.Value.{Value}
use Rattle.rp_frame.specs.declared.spot.Spot.{Spot}
use Rattle.rp_meaning.specs.Frame.{Frame}
use Rattle.rp_meaning.specs.State.{State, Outcome}
use Rattle.rp_meaning.specs.Statements.{exactly}
use Rattle.rp_meaning.specs.Walks.{walk}
use Rattle.rp_ops.specs.Outcome.{gives, on_value}
use Rattle.rp_ops.specs.Walk.{Cursor}
use Rattle.rp_access.specs.Comes.{IsEnd}
use Rattle.rp_access.specs.Moment.{decided_frame}
use Rattle.rp_access.specs.Spots.{cursor_at}

-- so many elements of a value
abbrev pub unpacked : ℕ → Value → Frame → State → Outcome (List Value)
unpacked n v frame s = on_value (walk v frame s) (λ c s. exactly n c frame s)

-- so many elements of a walk behind those that were taken
abbrev pub exactly_behind : List Value → ℕ → Cursor → Frame → State → Outcome (List Value)
exactly_behind vs n c frame s = on_value (exactly n c frame s) (λ us s. gives (vs ++ us) s)

-- one of them is taken, or why there is none
abbrev pub TakesOne : List Value → ℕ → Value → Spot → Frame → State → Result (Value × Spot) OpEnd → State → Type 0
TakesOne vs n v p frame s (Ok e) t =
    exactly_behind vs (suc n) (cursor_at v p) (decided_frame frame) s ≡ exactly_behind (vs ++ e.0 ∷ []) n (cursor_at v e.1) (decided_frame frame) t
TakesOne vs n v p frame s (Err e) t = IsEnd e t (exactly_behind vs (suc n) (cursor_at v p) (decided_frame frame) s)

-- there is no more, or why not
abbrev pub TakesNone : List Value → Value → Spot → Frame → State → Result (Unit {0}) OpEnd → State → Type 0
TakesNone vs v p frame s (Ok nothing) t = exactly_behind vs 0 (cursor_at v p) (decided_frame frame) s ≡ gives vs t
TakesNone vs v p frame s (Err e) t = IsEnd e t (exactly_behind vs 0 (cursor_at v p) (decided_frame frame) s)

-- what was answered, by what the vector holds
abbrev pub items_of : Result (Vec Value Global) OpEnd → Result (List Value) OpEnd
items_of (Ok vs) = Ok vs.items
items_of (Err e) = Err e
