-- What a `for` statement still does once it walks, as the code has functions for it; each is a part of its form of rp_meaning.
use Rattle.std.specs.Prelude.{ℕ}
use Rattle.rp_meaning.specs.Frame.{Doing}
use Rattle.rp_meaning.specs.State.{on_next}
use Rattle.rp_meaning.specs.Statements.{Store}
use Rattle.rp_meaning.specs.Walks.{each, next_element, on_turn, turns, walk}
use Rattle.rp_ops.specs.Outcome.{on_value}
use Rattle.rp_ops.specs.Walk.{Cursor}

-- what is done with an element
abbrev pub each_turn : Store → Doing → Store
each_turn store body v f s = on_next (store v f s) (body f)

-- the turns of a loop that stands there
abbrev pub all_turns : Store → Doing → Cursor → Doing
all_turns store body c f s = each (each_turn store body) c f s

-- what is done with a value
abbrev pub over : Store → Doing → Store
over store body v f s = on_value (walk v f s) (λ c s. all_turns store body c f s)

-- the turns that a loop may still make from where it stands
abbrev pub walked : ℕ → Store → Doing → Cursor → Doing
walked n store body c f s = turns n (next_element f) (λ v s. each_turn store body v f s) c s

-- a turn with an element, and those behind it
abbrev pub turn_before : ℕ → Store → Doing → Cursor → Store
turn_before n store body c v f s = on_turn (each_turn store body v f s) (walked n store body c f)
