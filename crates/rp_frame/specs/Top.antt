-- The last value at hand, and the values below it; None where there is none.
use Rattle.std.specs.Prelude.{List, [], ◌∷◌}
use Rattle.rp_base.specs.declared.value.Rock.TheVariants as rock
use Rattle.rp_base.specs.declared.value.Value.{Value}
use Rattle.rp_base.specs.declared.value.Value.TheVariants as value

abbrev pub top : List Value → Value
top [] = value.Rock rock.Nil
top (v ∷ vs) = v

abbrev pub below : List Value → List Value
below [] = []
below (v ∷ vs) = vs
