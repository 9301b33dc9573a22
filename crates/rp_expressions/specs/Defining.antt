-- What a step of the machine does within the definition of a function: so many defaults are at hand, and these are left.
use Rattle.std.specs.Prelude.{◌≡◌, ℕ, List, Option, drop, take, reverse}
use Rattle.rp_base.specs.declared.value.Name.{Name}
use Rattle.rp_meaning.specs.Frame.{Meaning, Run}
use Rattle.rp_proxy.specs.declared.world.World.{World}
use Rattle.rp_engine.specs.DefinitionSteps.{with_defaults}
use Rattle.rp_engine.specs.Law.{frame_in, rest_of}
use Rattle.rp_access.specs.Moment.{state_of}
use Rattle.rp_engine.specs.Rest.{gave, rest}
use Rattle.rp_engine.specs.declared.machine.Machine.{Machine}

abbrev pub Defines : Option Name → ℕ → ℕ → List Meaning → Machine → World → Machine → World → Type 0
Defines name block n ms m w new v = (base : Run) → rest_of base new (state_of v)
    ≡ rest m.tasks (gave (frame_in base m) (drop n m.values) (with_defaults name block ms (reverse (take n m.values)) (frame_in base m) (state_of w)))
