-- Attributes and items that are read, behind their decisions (Python Language Reference, Primaries; zope.security, proxies).
use Rattle.rp_attributes.specs.Attributes as attributes
use Rattle.rp_base.specs.Names.{word_of}
use Rattle.rp_base.specs.declared.value.Name.{Name}
use Rattle.rp_base.specs.declared.value.Side.{Side}
use Rattle.rp_base.specs.declared.value.Value.{Value}
use Rattle.rp_base.specs.declared.word.TheConstants.{GET_ITEM}
use Rattle.rp_items.specs.Items as items
use Rattle.rp_meaning.specs.Frame.{through}
use Rattle.rp_meaning.specs.Special.{Special, on_special, special}
use Rattle.rp_meaning.specs.State.{State, Outcome, heap_of, plainly}
use Rattle.rp_ops.specs.Outcome.{gives, on_value}
use Rattle.rp_proxy.specs.Taken.{taken}
use Rattle.rp_access.specs.Parts.{asking}

-- what is got through a value, as code of a side gets it
abbrev pub got_by : Side → Value → Value → State → Outcome Value
got_by side from v s = gives (taken (heap_of s) side (through from v)) s

-- an attribute, and an item with what calls a special method, behind their decisions

abbrev pub attribute_asked : Side → Value → Name → State → Outcome Value
attribute_asked side o name s =
    on_value (asking name o s) (λ _ s. on_value (plainly (attributes.attribute side o name (word_of s.names name)) s) (got_by side o))

abbrev pub item_asked : (Special → State → Outcome Value) → Side → Value → Value → State → Outcome Value
item_asked call side o i s = on_value (asking GET_ITEM o s) (λ _ s.
    on_value (on_special (special (heap_of s) o GET_ITEM) call (plainly (items.item o i)) s) (got_by side o))
