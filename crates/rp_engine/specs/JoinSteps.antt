-- What `and` and `or` still do once the value of an operand is known, as the code has a function for it; each is a part of a form of rp_meaning.
use Rattle.std.specs.Prelude.{Bool, true, false, List}
use Rattle.rp_base.specs.declared.value.Value.{Value}
use Rattle.rp_meaning.specs.Expressions as forms
use Rattle.rp_meaning.specs.Frame.{Meaning}

-- `and` where all are to be true, else `or`
abbrev pub joined : Bool → List Meaning → Meaning
joined true ms = forms.and ms
joined false ms = forms.or ms

-- their operands behind a value
abbrev pub later : Bool → List Meaning → Value → Meaning
later true ms v = forms.later_and ms v
later false ms v = forms.later_or ms v
