-- What a step of the machine does within a display: so many elements are at hand, and these expressions are left.
use Rattle.std.specs.Prelude.{◌≡◌, ℕ, List, drop, take, reverse}
use Rattle.rp_frame.specs.declared.display.Display.{Display}
use Rattle.rp_meaning.specs.Frame.{Meaning, Run}
use Rattle.rp_proxy.specs.declared.world.World.{World}
use Rattle.rp_engine.specs.DisplaySteps.{elements}
use Rattle.rp_engine.specs.Law.{frame_in, rest_of}
use Rattle.rp_access.specs.Moment.{state_of}
use Rattle.rp_engine.specs.Rest.{gave, rest}
use Rattle.rp_engine.specs.declared.machine.Machine.{Machine}

abbrev pub Gathers : Display → ℕ → List Meaning → Machine → World → Machine → World → Type 0
Gathers d n ms m w new v = (base : Run) → rest_of base new (state_of v)
    ≡ rest m.tasks (gave (frame_in base m) (drop n m.values) (elements d ms (reverse (take n m.values)) (frame_in base m) (state_of w)))
