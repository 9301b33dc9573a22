-- What augmented assignment still does once some values are known, as the code has a function for it; each is a part of a form of rp_meaning.
use Rattle.rp_base.specs.declared.operator.BinOp.{BinOp}
use Rattle.rp_base.specs.declared.value.Name.{Name}
use Rattle.rp_base.specs.declared.value.Value.{Value}
use Rattle.rp_meaning.specs.Access as access
use Rattle.rp_meaning.specs.Frame.{Meaning, bind_name}
use Rattle.rp_meaning.specs.Operators.{augment}
use Rattle.rp_meaning.specs.Statements.{Store, assign}
use Rattle.rp_ops.specs.Outcome.{on_value}

-- the name, the operator and the name's value
abbrev pub name_augmented : Name → BinOp → Value → Store
name_augmented n op a b frame s = on_value (augment op a b frame s) (λ v s. bind_name n v frame s)

-- the object, the name, the operator and the attribute's value; and from the object on

abbrev pub attribute_augmented : Value → Name → BinOp → Value → Store
attribute_augmented o n op a b frame s = on_value (augment op a b frame s) (λ v s. access.set_attribute o n v frame s)

abbrev pub attribute_from : Name → BinOp → Meaning → Store
attribute_from n op m o = assign (access.get_attribute o n) (λ a. assign m (attribute_augmented o n op a))

-- the container, the key, the operator and the item; from the key on; and from the container on

abbrev pub item_augmented : Value → Value → BinOp → Value → Store
item_augmented o i op a b frame s = on_value (augment op a b frame s) (λ v s. access.set_item o i v frame s)

abbrev pub key_from : Value → BinOp → Meaning → Store
key_from o op m i = assign (access.get_item o i) (λ a. assign m (item_augmented o i op a))

abbrev pub item_from : Meaning → BinOp → Meaning → Store
item_from k op m o = assign k (key_from o op m)
