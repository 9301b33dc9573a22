-- Lists, tuples and dicts that are made of what another value holds (Python Standard Library, Built-in Functions; zope.security, proxies: what is walked
-- out of a proxy is lent). Other way: a dict is made of the list of its entries, each handed out; the code puts one entry after another into a hashed dict.
use Rattle.std.specs.Prelude.{Bool, true, false, List, map, Option, Some, None}
use Rattle.std.specs.Option.{option_and_then, option_map_or}
use Rattle.rp_base.specs.declared.value.Oid.{Oid}
use Rattle.rp_base.specs.declared.value.Rock.{Rock}
use Rattle.rp_base.specs.declared.value.Side.{Side}
use Rattle.rp_base.specs.declared.value.Value.{Value}
use Rattle.rp_base.specs.declared.value.Value.TheVariants as value
use Rattle.rp_store.specs.Heap.{Owned, content_at}
use Rattle.rp_store.specs.Object as object
use Rattle.rp_store.specs.Object.{Content}
use Rattle.rp_store.specs.declared.key.Key.{Key}
use Rattle.rp_ops.specs.Binary.{new_object}
use Rattle.rp_ops.specs.Outcome.{State, Outcome, on_value}
use Rattle.rp_ops.specs.View.{handed, sequence_of}
use Rattle.rp_ops.specs.Walk.{elements}
use Rattle.rp_ops.specs.declared.sequences.Sequence.{Sequence}
use Rattle.rp_native.specs.Faults.{fails}
use Rattle.rp_native.specs.declared.fault.Fault.TheVariants as fault

-- `list(v)` and `tuple(v)`
abbrev pub sequence_copy : Side → Sequence → Value → State → Outcome Value
sequence_copy side kind v s = on_value (elements v s) (λ vs s. new_object side (sequence_of kind vs) s)

-- an entry whose value is lent, or as it is
abbrev pub entry_handed : Bool → Key × (Rock × Value) → Key × (Rock × Value)
entry_handed lent e = (e.0, (e.1.0, handed lent e.1.1))

abbrev pub entries_in : Content → Option (List (Key × (Rock × Value)))
entries_in (object.dict es) = Some es
entries_in c = None

-- the entries of the dict at a place; none where there is no dict
abbrev pub entries_of : List Owned → Oid → Option (List (Key × (Rock × Value)))
entries_of heap at = option_and_then entries_in (content_at heap at)

abbrev pub object_copy : Side → Bool → Oid → State → Outcome Value
object_copy side lent at s =
    option_map_or (λ es. new_object side (object.dict (map (entry_handed lent) es)) s) (entries_of s.store.heap at) (fails fault.Argument s)

-- `dict(v)`; the entries take no step
abbrev pub dict_copy : Side → Value → State → Outcome Value
dict_copy side (value.Rock r) s = fails fault.Argument s
dict_copy side (value.Ref at) s = object_copy side false at s
dict_copy side (value.Prox at) s = object_copy side true at s
