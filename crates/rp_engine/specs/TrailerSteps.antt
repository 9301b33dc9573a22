-- What trailers still do once a value is known, as the code has a function for it; each is a part of a form of rp_meaning.
use Rattle.std.specs.Prelude.{List}
use Rattle.rp_base.specs.declared.value.Name.{Name}
use Rattle.rp_base.specs.declared.value.Value.{Value}
use Rattle.rp_meaning.specs.Access.{get_attribute, get_item}
use Rattle.rp_meaning.specs.Expressions as forms
use Rattle.rp_meaning.specs.Frame.{Meaning}
use Rattle.rp_meaning.specs.State.{stepped}
use Rattle.rp_ops.specs.Outcome.{on_value}

-- the trailers behind a trailer, with its step before it, behind an attribute, and behind an item

abbrev pub next_trailer : (Value → Meaning) → List (Value → Meaning) → Value → Meaning
next_trailer t ts v frame s = on_value (stepped s (t v frame)) (λ w s. forms.trailers ts w frame s)

abbrev pub with_attribute : Name → List (Value → Meaning) → Value → Meaning
with_attribute n ts o frame s = on_value (get_attribute o n frame s) (λ w s. forms.trailers ts w frame s)

abbrev pub with_item : Value → List (Value → Meaning) → Value → Meaning
with_item o ts i frame s = on_value (get_item o i frame s) (λ w s. forms.trailers ts w frame s)
