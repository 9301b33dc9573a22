-- Lengths, as the code finds them in what a special method gave.
use Rattle.std.specs.Prelude.{ℤ, pos, Option, Some, None, codes}
use Rattle.rp_base.specs.declared.kind.Kind.TheVariants.{TypeError}
use Rattle.rp_base.specs.declared.value.Rock.TheVariants as rock
use Rattle.rp_base.specs.declared.value.Value.{Value}
use Rattle.rp_base.specs.declared.value.Value.TheVariants as value
use Rattle.rp_meaning.specs.State.{State, Outcome}
use Rattle.rp_ops.specs.Outcome.{gives, raises}

-- a number of at least 0
abbrev pub natural_of : Option ℤ → Option ℤ
natural_of (Some (pos n)) = Some (pos n)
natural_of _ = None

-- a number that was found, or that there is none
abbrev pub counted : Option ℤ → State → Outcome Value
counted (Some n) s = gives (value.Rock (rock.Int n)) s
counted None s = raises TypeError (codes "len") s
