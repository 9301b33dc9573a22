-- Attributes: the fields and methods of instances, and the built-in methods of lists, tuples, dicts and texts (Python Language
-- Reference, Attribute references; Python Standard Library, Built-in types). Other way: a built-in method is the first of a list whose
-- name is the list of characters asked for, and fields and methods are looked up in lists of pairs. The code compares names by their
-- bytes, searches dicts that may be hashed, and changes the store in place.
use Rattle.std.specs.Prelude.{ℕ, List, find, map, slice_get, Option, Some, None}
use Rattle.std.specs.Map.{lookup}
use Rattle.std.specs.Option.{option_map, option_map_or}
use Rattle.rp_base.specs.declared.kind.Kind.TheVariants.{AttributeError}
use Rattle.rp_base.specs.declared.native.NativeId.{NativeId}
use Rattle.rp_base.specs.declared.value.Name.{Name}
use Rattle.rp_base.specs.declared.value.Oid.{Oid}
use Rattle.rp_base.specs.declared.value.Rock.{Rock}
use Rattle.rp_base.specs.declared.value.Rock.TheVariants as rock
use Rattle.rp_base.specs.declared.value.Side.{Side}
use Rattle.rp_base.specs.declared.value.Value.{Value}
use Rattle.rp_base.specs.declared.value.Value.TheVariants as value
use Rattle.rp_base.specs.Native.{native_name}
use Rattle.rp_base.specs.Same.{same_text}
use Rattle.rp_store.specs.Cost.{cell_if_new}
use Rattle.rp_store.specs.Heap.{Owned, content_at, field_at, method_at}
use Rattle.rp_store.specs.Key.{same_name}
use Rattle.rp_store.specs.declared.object.Callee.{Callee}
use Rattle.rp_store.specs.declared.object.Callee.TheVariants as callee
use Rattle.rp_store.specs.Object as object
use Rattle.rp_store.specs.Object.{Content}
use Rattle.rp_store.specs.Parts.{fields}
use Rattle.rp_store.specs.Writers.{with_field, without_field}
use Rattle.rp_ops.specs.Binary.{new_object}
use Rattle.rp_ops.specs.Operand.{lent}
use Rattle.rp_ops.specs.Outcome.{State, Outcome, gives, raises, on_value, charged, with_change}
use Rattle.rp_attributes.specs.BuiltIns.{methods_of}
use Rattle.rp_attributes.specs.declared.built_ins.Receiver.{Receiver}
use Rattle.rp_attributes.specs.declared.built_ins.Receiver.TheVariants as receiver

-- the built-in function or method of that name among some
abbrev pub method_named : List NativeId → List ℕ → Option NativeId
method_named ids word = find (λ id. same_text (native_name id) word) ids

-- the built-in method of that name of a kind of value
abbrev pub built_in_method : Receiver → List ℕ → Option NativeId
built_in_method kind word = method_named (map (λ m. m.0) (methods_of kind)) word

abbrev pub no_attribute : {A : Type 0} → List ℕ → State → Outcome A
no_attribute word s = raises AttributeError word s

-- a bound method, made for the owner of its receiver
abbrev pub bound : Side → Value → Option Callee → List ℕ → State → Outcome Value
bound owner receiver (Some called) word s = new_object owner (object.method receiver called) s
bound owner receiver None word s = no_attribute word s

-- what is called by the method of that name: a function of an instance's class, or a built-in method of the object's kind
abbrev pub method_of : Content → Name → List ℕ → State → Option Callee
method_of (object.list xs) name word s = option_map callee.Native (built_in_method receiver.List word)
method_of (object.tuple xs) name word s = option_map callee.Native (built_in_method receiver.Tuple word)
method_of (object.dict es) name word s = option_map callee.Native (built_in_method receiver.Dict word)
method_of (object.instance of fs) name word s = option_map callee.Function (method_at s.store.heap of name)
method_of c name word s = None

-- the field of an instance, else a method bound to the object at a place for its owner, which keeps the object plain
abbrev pub field_or_method : Side → Oid → Option Value → Option Callee → List ℕ → State → Outcome Value
field_or_method owner at (Some v) called word s = gives v s
field_or_method owner at None called word s = bound owner (value.Ref at) called word s

abbrev pub object_attribute : Oid → Owned → Name → List ℕ → State → Outcome Value
object_attribute at o name word s = field_or_method o.owner at (lookup (same_name name) (fields o.content)) (method_of o.content name word s) word s

abbrev pub attribute_at : Oid → Name → List ℕ → State → Outcome Value
attribute_at at name word s = option_map_or (λ o. object_attribute at o name word s) (slice_get s.store.heap at.0) (no_attribute word s)

-- a text has built-in methods, which are bound for the side of the running code
abbrev pub rock_attribute : Side → Rock → List ℕ → State → Outcome Value
rock_attribute side (rock.Text t) word s =
    bound side (value.Rock (rock.Text t)) (option_map callee.Native (built_in_method receiver.Text word)) word s
rock_attribute side r word s = no_attribute word s

-- `a.name`, where the name is that word; what is got through a proxy is lent
abbrev pub attribute : Side → Value → Name → List ℕ → State → Outcome Value
attribute side (value.Rock r) name word s = rock_attribute side r word s
attribute side (value.Ref at) name word s = attribute_at at name word s
attribute side (value.Prox at) name word s = on_value (attribute_at at name word s) (λ v s. gives (lent v) s)

-- storing and deleting: only instances take attributes, and a new field costs a cell

abbrev pub changes : Oid → (Content → Content) → State → Outcome (Unit {0})
changes at change s = gives tt (with_change s at change)

abbrev pub content_set : Oid → Content → Name → List ℕ → Value → State → Outcome (Unit {0})
content_set at (object.instance of fs) name word v s = charged (cell_if_new (field_at s.store.heap at name)) s (changes at (with_field name v))
content_set at c name word v s = no_attribute word s

abbrev pub field_deleted : Oid → Option Value → Name → List ℕ → State → Outcome (Unit {0})
field_deleted at (Some v) name word s = changes at (without_field name) s
field_deleted at None name word s = no_attribute word s

abbrev pub content_del : Oid → Content → Name → List ℕ → State → Outcome (Unit {0})
content_del at (object.instance of fs) name word s = field_deleted at (field_at s.store.heap at name) name word s
content_del at c name word s = no_attribute word s

abbrev pub set_at : Oid → Name → List ℕ → Value → State → Outcome (Unit {0})
set_at at name word v s = option_map_or (λ c. content_set at c name word v s) (content_at s.store.heap at) (no_attribute word s)

abbrev pub del_at : Oid → Name → List ℕ → State → Outcome (Unit {0})
del_at at name word s = option_map_or (λ c. content_del at c name word s) (content_at s.store.heap at) (no_attribute word s)

-- `a.name = v`
abbrev pub set_attribute : Value → Name → List ℕ → Value → State → Outcome (Unit {0})
set_attribute (value.Rock r) name word v s = no_attribute word s
set_attribute (value.Ref at) name word v s = set_at at name word v s
set_attribute (value.Prox at) name word v s = set_at at name word v s

-- `del a.name`
abbrev pub del_attribute : Value → Name → List ℕ → State → Outcome (Unit {0})
del_attribute (value.Rock r) name word s = no_attribute word s
del_attribute (value.Ref at) name word s = del_at at name word s
del_attribute (value.Prox at) name word s = del_at at name word s
