-- What a dict display holds, from the values of its parts (Python Language Reference, Dictionary displays).
use Rattle.std.specs.Prelude.{List, [], ◌∷◌, Result, Ok, Err}
use Rattle.rp_base.specs.declared.value.OpEnd.{OpEnd}
use Rattle.rp_base.specs.declared.value.Raised.{Raised}
use Rattle.rp_base.specs.declared.value.Value.{Value}
use Rattle.rp_meaning.specs.Expressions.{dict_with}
use Rattle.rp_store.specs.Object as object
use Rattle.rp_store.specs.Object.{Content, Entries}

-- keys, each with the value behind it
abbrev pub couples : List Value → List (Value × Value)
couples (k ∷ v ∷ vs) = (k, v) ∷ couples vs
couples _ = []

-- a dict of these entries, to which keys are put, each with the value behind it
abbrev pub dict_from : Entries → List Value → Result Content Raised
dict_from es vs = dict_with (object.dict es) (couples vs)

-- entries that were answered, or into which some were put, as a dict
abbrev pub as_dict : Result Entries OpEnd → Result Content OpEnd
as_dict (Ok es) = Ok (object.dict es)
as_dict (Err e) = Err e

abbrev pub dict_then : Result (Unit {0}) OpEnd → Entries → Result Content OpEnd
dict_then (Ok nothing) es = Ok (object.dict es)
dict_then (Err e) es = Err e
