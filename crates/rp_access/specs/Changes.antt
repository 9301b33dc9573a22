-- Changes of attributes and items, and augmented assignment, behind their decisions: each is what a form of rp_meaning does once the values of its
-- parts are known. Where that form calls a special method, an item's change answers so, and nothing was done but the decision.
use Rattle.std.specs.Prelude.{◌≡◌, Option, Some, None, Result, Ok, Err}
use Rattle.rp_attributes.specs.Attributes as attributes
use Rattle.rp_base.specs.Names.{word_of}
use Rattle.rp_base.specs.declared.operator.BinOp.{BinOp}
use Rattle.rp_base.specs.declared.value.Name.{Name}
use Rattle.rp_base.specs.declared.value.OpEnd.{OpEnd}
use Rattle.rp_base.specs.declared.value.Side.{Side}
use Rattle.rp_base.specs.declared.value.Value.{Value}
use Rattle.rp_base.specs.declared.word.TheConstants.{DEL_ITEM, SET_ITEM}
use Rattle.rp_checker.specs.RowOf.{setting}
use Rattle.rp_items.specs.Items as items
use Rattle.rp_meaning.specs.Frame.{decided}
use Rattle.rp_meaning.specs.Operators.{augmented_name, in_place_name}
use Rattle.rp_meaning.specs.Special.{Special, on_special, special}
use Rattle.rp_meaning.specs.State.{State, Outcome, heap_of, monitor_of, plainly}
use Rattle.rp_ops.specs.Inplace.{inplace}
use Rattle.rp_ops.specs.Outcome.{gives, on_value}
use Rattle.rp_proxy.specs.Decide.{decide}
use Rattle.rp_proxy.specs.Taken.{taken}
use Rattle.rp_access.specs.Comes.{IsEnd}
use Rattle.rp_access.specs.Parts.{asking}
use Rattle.rp_access.specs.declared.changing.Change.{Change}
use Rattle.rp_access.specs.declared.changing.Change.TheVariants as change

-- whether the name may be set on the value
abbrev pub asking_to_set : Name → Value → State → Outcome (Unit {0})
asking_to_set name v s = decided (decide v (setting (word_of s.names name)) (monitor_of s)) s (gives (tt {0}))

-- `o.name = v`
abbrev pub attribute_set : Value → Name → Value → State → Outcome (Unit {0})
attribute_set o name v s = on_value (asking_to_set name o s) (λ _ s. plainly (attributes.set_attribute o name (word_of s.names name) v) s)

-- `del o.name`
abbrev pub attribute_deleted : Value → Name → State → Outcome (Unit {0})
attribute_deleted o name s = on_value (asking_to_set name o s) (λ _ s. plainly (attributes.del_attribute o name (word_of s.names name)) s)

-- a change of what an object holds, which a special method does where the object has one for it
abbrev pub changed_by : (Special → State → Outcome (Unit {0})) → Name → Value → (State → Outcome (Unit {0})) → State → Outcome (Unit {0})
changed_by call name o operation s = on_value (asking name o s) (λ _ s. on_special (special (heap_of s) o name) call operation s)

-- `o[i] = v`
abbrev pub item_set : (Special → State → Outcome (Unit {0})) → Value → Value → Value → State → Outcome (Unit {0})
item_set call o i v = changed_by call SET_ITEM o (plainly (items.set_item o i v))

-- `del o[i]`
abbrev pub item_deleted : (Special → State → Outcome (Unit {0})) → Value → Value → State → Outcome (Unit {0})
item_deleted call o i = changed_by call DEL_ITEM o (plainly (items.del_item o i))

-- what an answer says of such a change: that it was done, or why not; nothing, where a special method is left to do it

abbrev pub ChangeComes : Result Change OpEnd → State → Outcome (Unit {0}) → Type 0
ChangeComes (Ok change.Done) s o = o ≡ gives (tt {0}) s
ChangeComes (Ok change.Special) s o = Unit {0}
ChangeComes (Err e) s o = IsEnd e s o

-- the same, where the value is handed back that the method is to store
abbrev pub StoredComes : Result (Option Value) OpEnd → State → Outcome (Unit {0}) → Type 0
StoredComes (Ok None) s o = o ≡ gives (tt {0}) s
StoredComes (Ok (Some v)) s o = Unit {0}
StoredComes (Err e) s o = IsEnd e s o

-- `a op= b`
abbrev pub augmented : Side → BinOp → Value → Value → State → Outcome Value
augmented side op a b s =
    on_value (asking (in_place_name op) a s) (λ _ s. on_value (asking (augmented_name (heap_of s) op a) b s) (λ _ s.
    on_value (plainly (inplace side op a b) s) (λ v s. gives (taken (heap_of s) side v) s)))
