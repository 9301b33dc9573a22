-- Which open part takes what leaves it (Python Language Reference, The try statement, The break statement, The return statement). The parts are a
-- list, the innermost first; the code has them in a vector, the innermost last, and takes them off its end.
use Rattle.std.specs.Prelude.{Bool, true, false, List, [], ◌∷◌, Option, None, Some, if◌then◌else◌}
use Rattle.rp_unwind.specs.declared.handlers.Handler.{Handler}
use Rattle.rp_unwind.specs.declared.handlers.Part.{Part}
use Rattle.rp_unwind.specs.declared.handlers.Part.TheVariants.{Except, Finally, Loop}
use Rattle.rp_unwind.specs.declared.leaving.Leaving.{Leaving}
use Rattle.rp_unwind.specs.declared.leaving.Leaving.TheVariants.{Raised, Broke, Continued}

-- `finally` takes all that leaves, `except` exceptions, a loop `break` and `continue`
abbrev pub takes : Part → Leaving → Bool
takes Finally leaving = true
takes Except (Raised r) = true
takes Except _ = false
takes Loop Broke = true
takes Loop Continued = true
takes Loop _ = false

-- the innermost part that takes what leaves, and the parts around it
abbrev pub next : Leaving → List Handler → Option Handler × List Handler
next leaving [] = (None, [])
next leaving (part ∷ around) = if takes part.part leaving then (Some part, around) else next leaving around
