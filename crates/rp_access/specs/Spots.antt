-- Where a walk stands, as the code keeps it: the value that is walked, and the spot in it.
use Rattle.std.specs.Prelude.{ℕ, Bool, true, false, List, [], encode_utf8_all, get_or, if◌then◌else◌, option_map, Option, Some, None, Result, Ok, Err}
use Rattle.std.specs.Fmt.{is_char_start}
use Rattle.rp_base.specs.declared.value.Oid.{Oid}
use Rattle.rp_base.specs.declared.value.OpEnd.{OpEnd}
use Rattle.rp_base.specs.declared.value.Rock.{Rock}
use Rattle.rp_base.specs.declared.value.Rock.TheVariants as rock
use Rattle.rp_base.specs.declared.value.Side.{Side}
use Rattle.rp_base.specs.declared.value.Value.{Value}
use Rattle.rp_base.specs.declared.value.Value.TheVariants as value
use Rattle.rp_base.specs.declared.word.TheConstants.{ITER}
use Rattle.rp_frame.specs.declared.spot.Spot.{Spot}
use Rattle.rp_frame.specs.declared.spot.Spot.TheVariants as spot
use Rattle.rp_meaning.specs.State.{State, Outcome, heap_of, plainly}
use Rattle.rp_ops.specs.Outcome.{gives, on_found, on_value}
use Rattle.rp_ops.specs.Standing.{letters_left}
use Rattle.rp_ops.specs.Walk.{Cursor, characters_from, elements_from, keys_from, next_of, walk_of}
use Rattle.rp_proxy.specs.Taken.{taken}
use Rattle.rp_access.specs.Parts.{asking}

-- in the object at a place, lent or as it is; an object has no characters
abbrev pub object_cursor : Bool → Oid → Spot → Cursor
object_cursor lent at (spot.Element i) = elements_from lent at i
object_cursor lent at (spot.Key i size) = keys_from at i size
object_cursor lent at (spot.Letter i) = characters_from []

-- the characters of a text from a byte on; none where no character begins there
abbrev pub characters_at : List ℕ → ℕ → List ℕ
characters_at t i = if is_char_start (get_or (encode_utf8_all t) i 0) then letters_left t i else []

-- a text has characters alone, and another rock has nothing
abbrev pub text_cursor : List ℕ → Spot → Cursor
text_cursor t (spot.Letter i) = characters_from (characters_at t i)
text_cursor t _ = characters_from []

abbrev pub rock_cursor : Rock → Spot → Cursor
rock_cursor (rock.Text t) p = text_cursor t p
rock_cursor _ p = characters_from []

abbrev pub cursor_at : Value → Spot → Cursor
cursor_at (value.Rock r) p = rock_cursor r p
cursor_at (value.Ref at) p = object_cursor false at p
cursor_at (value.Prox at) p = object_cursor true at p

-- a spot that was found, as a cursor
abbrev pub walk_at : Value → Result Spot OpEnd → Result Cursor OpEnd
walk_at v (Ok p) = Ok (cursor_at v p)
walk_at v (Err e) = Err e

-- an element, and the spot behind it

abbrev pub object_next : Bool → Oid → Result (Option (Value × Spot)) OpEnd → Result (Option (Value × Cursor)) OpEnd
object_next lent at (Ok (Some e)) = Ok (Some (e.0, object_cursor lent at e.1))
object_next lent at (Ok None) = Ok None
object_next lent at (Err e) = Err e

abbrev pub text_next : List ℕ → Result (Option (Value × Spot)) OpEnd → Result (Option (Value × Cursor)) OpEnd
text_next t (Ok (Some e)) = Ok (Some (e.0, text_cursor t e.1))
text_next t (Ok None) = Ok None
text_next t (Err e) = Err e

abbrev pub next_at : Value → Result (Option (Value × Spot)) OpEnd → Result (Option (Value × Cursor)) OpEnd
next_at v (Ok (Some e)) = Ok (Some (e.0, cursor_at v e.1))
next_at v (Ok None) = Ok None
next_at v (Err e) = Err e

-- a walk that is begun, once that is decided
abbrev pub walk_asked : Value → State → Outcome Cursor
walk_asked v s = on_value (asking ITER v s) (λ _ s. on_found (walk_of (heap_of s) v) s gives)

-- the next element of a walk, as code of a side takes it
abbrev pub next_taken : Side → Cursor → State → Outcome (Option (Value × Cursor))
next_taken side c s = on_value (plainly (next_of c) s) (λ e s. gives (option_map (λ e. (taken (heap_of s) side e.0, e.1)) e) s)
