-- What `raise` still does once its value is known, as the code has a function for it.
use Rattle.rp_base.specs.declared.value.Value.{Value}
use Rattle.rp_meaning.specs.Exceptions.{raise_value}
use Rattle.rp_meaning.specs.Frame.{Doing}

abbrev pub raised_value : Value → Doing
raised_value v frame s = raise_value v s
