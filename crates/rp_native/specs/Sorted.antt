-- Sorted lists of values that are all numbers or all texts (Python Standard Library, Built-in Functions): each is put before the first of those behind it that
-- is not less, so those that are not less than one another keep their order. Other way: the code takes a stable sort of the library.
use Rattle.std.specs.Prelude.{Bool, List, [], ◌∷◌, if◌then◌else◌}
use Rattle.rp_base.specs.declared.value.Side.{Side}
use Rattle.rp_base.specs.declared.value.Value.{Value}
use Rattle.rp_store.specs.Object as object
use Rattle.rp_ops.specs.Binary.{new_object}
use Rattle.rp_ops.specs.Outcome.{State, Outcome, on_value}
use Rattle.rp_ops.specs.Walk.{elements}
use Rattle.rp_native.specs.Extremes.{have_order, is_less}
use Rattle.rp_native.specs.Faults.{fails}
use Rattle.rp_native.specs.declared.fault.Fault.TheVariants as fault

-- put before the first that is not less
abbrev pub placed : {A : Type 0} → (A → A → Bool) → A → List A → List A
placed less v [] = v ∷ []
placed less v (w ∷ ws) = if less w v then w ∷ placed less v ws else v ∷ w ∷ ws

abbrev pub in_order : {A : Type 0} → (A → A → Bool) → List A → List A
in_order less [] = []
in_order less (v ∷ vs) = placed less v (in_order less vs)

abbrev pub sorted_list : Side → List Value → State → Outcome Value
sorted_list side vs s = if have_order vs then new_object side (object.list (in_order is_less vs)) s else fails fault.Argument s

-- `sorted(v)`
abbrev pub sorted : Side → Value → State → Outcome Value
sorted side v s = on_value (elements v s) (sorted_list side)
