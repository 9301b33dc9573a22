-- Special methods of instances (Python Language Reference, Special method names).
use Rattle.std.specs.Prelude.{List, option_map, Option, Some, None}
use Rattle.rp_base.specs.declared.value.Name.{Name}
use Rattle.rp_base.specs.declared.value.Oid.{Oid}
use Rattle.rp_base.specs.declared.value.Value.{Value}
use Rattle.rp_base.specs.declared.value.Value.TheVariants as value
use Rattle.rp_store.specs.Heap.{Owned, method_of}
use Rattle.rp_meaning.specs.State.{State, Outcome}

-- a method, and the instance that it is called on, which is plain for it
pub record Special : Type 0 where
  pub function : Oid
  pub of : Value

abbrev pub special_at : List Owned → Oid → Name → Option Special
special_at heap at name = option_map (λ function. record { function = function; of = value.Ref at }) (method_of heap at name)

-- the method of that name that the class of an instance has
abbrev pub special : List Owned → Value → Name → Option Special
special heap (value.Rock r) name = None
special heap (value.Ref at) name = special_at heap at name
special heap (value.Prox at) name = special_at heap at name

-- calls a special method where there is one, and does something else where there is none
abbrev pub on_special : {A : Type 0} → Option Special → (Special → State → Outcome A) → (State → Outcome A) → State → Outcome A
on_special (Some m) call otherwise s = call m s
on_special None call otherwise s = otherwise s
