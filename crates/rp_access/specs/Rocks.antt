-- Values that are no references.
use Rattle.rp_base.specs.declared.value.Value.{Value}
use Rattle.rp_base.specs.declared.value.Value.TheVariants as value

abbrev pub IsRock : Value → Type 0
IsRock (value.Rock r) = Unit {0}
IsRock (value.Ref at) = ⊥
IsRock (value.Prox at) = ⊥
