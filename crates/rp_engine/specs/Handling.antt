-- What a `try` statement still does once it stands in a part of it, as the code has functions for it; each is a part of its form of rp_meaning.
-- Exceptions that are waited with stand at hand as values.
use Rattle.std.specs.Prelude.{Bool, true, false, List, Option, Some, None}
use Rattle.rp_base.specs.declared.value.Name.{Name}
use Rattle.rp_base.specs.declared.value.Raised.{Raised}
use Rattle.rp_base.specs.declared.value.Rock.TheVariants as rock
use Rattle.rp_base.specs.declared.value.Value.{Value}
use Rattle.rp_base.specs.declared.value.Value.TheVariants as value
use Rattle.rp_frame.specs.declared.leaving.Leaving.{Leaving}
use Rattle.rp_frame.specs.declared.leaving.Leaving.TheVariants as leaving
use Rattle.rp_meaning.specs.Exceptions.{Handler, after, handle, handled, matches, otherwise, raise_again}
use Rattle.rp_meaning.specs.Expressions.{nil}
use Rattle.rp_meaning.specs.Frame.{Frame, Doing, without_name}
use Rattle.rp_meaning.specs.State.{State, broke, choose, continued, done, on_next, returned}
use Rattle.rp_meaning.specs.Statements.{Store}
use Rattle.rp_ops.specs.Outcome.{End, raised, gives, ends, on_value}

-- exceptions as values

abbrev pub thrown : Raised → Value
thrown r = value.Rock (rock.Exc r.kind r.text)

abbrev pub thrown_of : Value → Option Raised
thrown_of (value.Rock (rock.Exc k t)) = Some (record { kind = k; text = t })
thrown_of _ = None

-- what is handled; where nothing is, None
abbrev pub handling_value : Option Raised → Value
handling_value None = nil
handling_value (Some r) = thrown r

-- whether it is an exception, and no stop, which no part of a `try` statement takes
abbrev pub is_exception : End → Bool
is_exception (raised r) = true
is_exception _ = false

-- raising again what was handled

abbrev pub raise_handled : Option Raised → Doing
raise_handled r frame s = raise_again r s

-- the part before `finally`
abbrev pub guarded : Doing → List Handler → Doing → Doing
guarded body hs other frame s = otherwise (body frame s) (other frame) (λ r s. handle hs r frame s)

-- a handler's block: what it is done in, and what is done behind it

abbrev pub handling : Option Raised → Frame → Frame
handling r frame = record frame { handling = r }

abbrev pub without_as : Option Name → Frame → State → State
without_as None frame s = s
without_as (Some name) frame s = without_name name frame s

abbrev pub in_handler : Option Name → Doing → Raised → Doing
in_handler name body r frame s = after (body (handling (Some r) frame) s) (without_as name frame)

-- a handler, and those behind it, once the value in its clause is known

abbrev pub if_takes : Handler → List Handler → Raised → Store
if_takes h hs r v frame s = on_value (matches v r s) (λ b s. choose b (handled h.name h.body r frame) (handle hs r frame) s)

abbrev pub tried : Handler → List Handler → Option Raised → Store
tried h hs (Some r) v frame s = if_takes h hs r v frame s
tried h hs None v frame s = raise_again None s

-- handlers, at the end by which the block was cut off
abbrev pub caught : List Handler → End → Doing
caught hs (raised r) frame s = handle hs r frame s
caught hs e frame s = ends e s

-- what left the part before `finally`, behind its block

abbrev pub left : Leaving → Value → Doing
left leaving.Next v frame s = done s
left leaving.Broke v frame s = gives broke s
left leaving.Continued v frame s = gives continued s
left leaving.Raised v frame s = raise_again (thrown_of v) s
left leaving.Returned v frame s = gives (returned v) s

-- the block of `finally`, and what then leaves the statement

abbrev pub finished_by : Doing → Leaving → Value → Doing
finished_by last way v frame s = on_next (last frame s) (left way v frame)

abbrev pub finished : Doing → End → Doing
finished last (raised r) frame s = finished_by last leaving.Raised (thrown r) frame s
finished last e frame s = ends e s
