-- Operations that special methods do, once they are decided, as the code has functions for them; each is a part of a form of rp_meaning (Python Language
-- Reference, Special method names; zope.security, proxies).
use Rattle.std.specs.Prelude.{Bool, not, List, Option, ◌∷◌}
use Rattle.rp_base.specs.declared.operator.BinOp.{BinOp}
use Rattle.rp_base.specs.declared.value.Name.{Name}
use Rattle.rp_base.specs.declared.value.Value.{Value}
use Rattle.rp_meaning.specs.Binding.{only}
use Rattle.rp_meaning.specs.BuiltIn.{length_given, not_called}
use Rattle.rp_meaning.specs.Expressions.{trailers}
use Rattle.rp_meaning.specs.Frame.{Meaning, got}
use Rattle.rp_meaning.specs.Special.{Special, on_special, special}
use Rattle.rp_meaning.specs.State.{heap_of}
use Rattle.rp_meaning.specs.Statements.{Store, assign}
use Rattle.rp_ops.specs.Operand.{truth_of}
use Rattle.rp_ops.specs.Outcome.{on_value}
use Rattle.rp_tree.specs.declared.parts.Test.{Test}
use Rattle.rp_tree.specs.declared.parts.Test.TheVariants as test
use Rattle.rp_engine.specs.AugmentSteps.{item_augmented}
use Rattle.rp_engine.specs.ComparisonSteps.{by_test}

-- a special method that was found, called behind the object, and what is got of it through the object
abbrev pub called_by : Option Special → Value → List Value → Meaning
called_by m o vs f s = on_value (on_special m (λ m. f.calls m.function (only (m.of ∷ vs))) not_called s) (λ r s. got o r f s)

-- the special method of this name that the object's class has
abbrev pub special_called : Name → Value → List Value → Meaning
special_called name o vs f s = called_by (special (heap_of s) o name) o vs f s

-- whether a test holds, where the container has the value or not
abbrev pub holds_by : Test → Bool → Bool
holds_by test.NotWithin within = not within
holds_by _ within = within

-- the tests behind one, from what `__contains__` gave, which counts as a truth value that is not decided
abbrev pub with_contained : Test → Value → List (Test × Meaning) → Value → Meaning
with_contained t b ts r f s = by_test (holds_by t (truth_of (heap_of s) r)) b ts f s

-- the trailers behind `len`, from what `__len__` gave
abbrev pub with_length : List (Value → Meaning) → Value → Meaning
with_length ts r f s = on_value (length_given r s) (λ w s. trailers ts w f s)

-- the right side of an augmented assignment to an item, from the item on
abbrev pub from_got : Value → Value → BinOp → Meaning → Store
from_got o i op m a = assign m (item_augmented o i op a)
