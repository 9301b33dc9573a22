-- What displays still do once some elements are known, as the code has a function for it; each is a part of a form of rp_meaning.
use Rattle.std.specs.Prelude.{List, [], ◌∷◌, ◌++◌, Result, Ok, Err}
use Rattle.rp_base.specs.declared.value.OpEnd.{OpEnd}
use Rattle.rp_base.specs.declared.value.Raised.{Raised}
use Rattle.rp_base.specs.declared.value.Side.{Side}
use Rattle.rp_base.specs.declared.value.Value.{Value}
use Rattle.rp_base.specs.declared.value.Value.TheVariants as value
use Rattle.rp_frame.specs.declared.display.Display.{Display}
use Rattle.rp_frame.specs.declared.display.Display.TheVariants as kind
use Rattle.rp_meaning.specs.Expressions as forms
use Rattle.rp_meaning.specs.Frame.{Meaning}
use Rattle.rp_meaning.specs.State.{State, Outcome, makes, stepped}
use Rattle.rp_ops.specs.Outcome.{gives, on_found, on_value}
use Rattle.rp_store.specs.Object as object
use Rattle.rp_store.specs.Object.{Content, content_of}
use Rattle.rp_store.specs.declared.object.Object.{Object}
use Rattle.rp_access.specs.Entries.{dict_from}

-- keys and values, in the order in which they are evaluated
abbrev pub parts : List (Meaning × Meaning) → List Meaning
parts [] = []
parts (p ∷ ps) = p.0 ∷ p.1 ∷ parts ps

-- what the object of a display holds, from the values of its parts
abbrev pub displayed : Display → List Value → Result Content Raised
displayed kind.List vs = Ok (object.list vs)
displayed kind.Tuple vs = Ok (object.tuple vs)
displayed kind.Dict vs = dict_from [] vs

-- an object that was answered, by what it holds
abbrev pub content_found : Result Object OpEnd → Result Content OpEnd
content_found (Ok o) = Ok (content_of o)
content_found (Err e) = Err e

-- a new object of a side
abbrev pub makes_of : Side → Content → State → Outcome Value
makes_of side content s = on_value (makes side content s) (λ at s. gives (value.Ref at) s)

-- the object of a display
abbrev pub makes_display : Side → Display → List Value → State → Outcome Value
makes_display side d vs s = on_found (displayed d vs) s (makes_of side)

-- a display, of which some parts are at hand
abbrev pub elements : Display → List Meaning → List Value → Meaning
elements d ms vs frame s = on_value (forms.values ms frame s) (λ ws s. makes_display frame.side d (vs ++ ws) s)

-- a display; of a dict its keys and values
abbrev pub display : Display → List Meaning → Meaning
display kind.List ms = forms.list ms
display kind.Tuple ms = forms.tuple ms
display kind.Dict ms = λ frame s. stepped s (elements kind.Dict ms [] frame)
