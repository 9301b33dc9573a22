-- Attributes, items, slices and membership, as code of a side has them (Python Language Reference, Primaries, Membership test operations;
-- zope.security, proxies): the decision first, then the special method or the plain operation.
use Rattle.std.specs.Prelude.{Bool, [], ◌∷◌}
use Rattle.rp_base.specs.declared.word.TheConstants.{GET_ITEM, SET_ITEM, DEL_ITEM, CONTAINS}
use Rattle.rp_base.specs.declared.value.Name.{Name}
use Rattle.rp_base.specs.declared.value.Value.{Value}
use Rattle.rp_attributes.specs.Attributes as attributes
use Rattle.rp_compare.specs.Membership as membership
use Rattle.rp_items.specs.Items as items
use Rattle.rp_items.specs.Slices as slices
use Rattle.rp_ops.specs.Operand.{truth_of}
use Rattle.rp_ops.specs.Outcome.{gives, on_value}
use Rattle.rp_base.specs.Names.{word_of}
use Rattle.rp_meaning.specs.State.{State, Outcome, Flow, plainly, plainly_done, done, heap_of}
use Rattle.rp_meaning.specs.Binding.{only}
use Rattle.rp_meaning.specs.Frame.{Frame, Meaning, Doing, asked_for, asked_to_set, got}
use Rattle.rp_meaning.specs.Special.{special, on_special}

-- `o.NAME`
abbrev pub get_attribute : Value → Name → Meaning
get_attribute o name frame s =
    asked_for frame name o s (λ s. on_value (plainly (attributes.attribute frame.side o name (word_of s.names name)) s) (λ v s. got o v frame s))

-- `o.NAME = v`
abbrev pub set_attribute : Value → Name → Value → Doing
set_attribute o name v frame s = asked_to_set frame name o s (λ s. plainly_done (attributes.set_attribute o name (word_of s.names name) v) s)

-- `del o.NAME`
abbrev pub del_attribute : Value → Name → Doing
del_attribute o name frame s = asked_to_set frame name o s (λ s. plainly_done (attributes.del_attribute o name (word_of s.names name)) s)

-- a special method that is called for what it does
abbrev pub called : Outcome Value → Outcome Flow
called o = on_value o (λ v s. done s)

-- `o[i]`
abbrev pub get_item : Value → Value → Meaning
get_item o i frame s = asked_for frame GET_ITEM o s (λ s. on_value
    (on_special (special (heap_of s) o GET_ITEM) (λ m. frame.calls m.function (only (m.of ∷ i ∷ []))) (plainly (items.item o i)) s)
    (λ v s. got o v frame s))

-- `o[i] = v`
abbrev pub set_item : Value → Value → Value → Doing
set_item o i v frame s = asked_for frame SET_ITEM o s (λ s. on_special (special (heap_of s) o SET_ITEM)
    (λ m s. called (frame.calls m.function (only (m.of ∷ i ∷ v ∷ [])) s))
    (plainly_done (items.set_item o i v)) s)

-- `del o[i]`
abbrev pub del_item : Value → Value → Doing
del_item o i frame s = asked_for frame DEL_ITEM o s (λ s. on_special (special (heap_of s) o DEL_ITEM)
    (λ m s. called (frame.calls m.function (only (m.of ∷ i ∷ [])) s))
    (plainly_done (items.del_item o i)) s)

-- `o[a:b:c]`, for which no special method is called
abbrev pub get_slice : Value → Value → Value → Value → Meaning
get_slice o a b c frame s = asked_for frame GET_ITEM o s (λ s. on_value (plainly (slices.slice o a b c) s) (λ v s. got o v frame s))

-- `v in o`; the truth of what `__contains__` gives is not decided
abbrev pub is_within : Value → Value → Frame → State → Outcome Bool
is_within v o frame s = asked_for frame CONTAINS o s (λ s. on_special (special (heap_of s) o CONTAINS)
    (λ m s. on_value (frame.calls m.function (only (m.of ∷ v ∷ [])) s) (λ r s. gives (truth_of (heap_of s) r) s))
    (plainly (membership.contains v o)) s)
