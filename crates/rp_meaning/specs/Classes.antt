-- The `class` statement (Python Language Reference, Class definitions). Its functions are made in order; then the class is made, or a declared class
-- gets them in place of those that it had, which is a rule of our own.
use Rattle.std.specs.Prelude.{ℕ, zero, Bool, true, false, List, [], ◌∷◌, length, option_and_then, option_map, Option, Some, None, if◌then◌else◌}
use Rattle.std.specs.List.{list_all, position_from}
use Rattle.std.specs.Option.{option_map_or}
use Rattle.rp_base.specs.declared.value.Name.{Name}
use Rattle.rp_base.specs.declared.value.Oid.{Oid}
use Rattle.rp_base.specs.declared.value.Value.TheVariants as value
use Rattle.rp_base.specs.Same.{same_text}
use Rattle.rp_decl.specs.Records.{Class}
use Rattle.rp_dict.specs.Dict.{insert_entry}
use Rattle.rp_ops.specs.Outcome.{gives, on_value}
use Rattle.rp_base.specs.Names.{word_of}
use Rattle.rp_store.specs.Heap.{Owned, content_at}
use Rattle.rp_store.specs.Key.{same_name}
use Rattle.rp_store.specs.Object as object
use Rattle.rp_store.specs.Object.{Content}
use Rattle.rp_store.specs.Writers.{with_methods}
use Rattle.rp_meaning.specs.State.{State, Outcome, stepped, charged, makes, with_change, heap_of}
use Rattle.rp_meaning.specs.Frame.{Frame, Doing, bind_name}

-- a statement of a class block: a function that becomes a method, or one that makes none
pub data Part : Type 0 where
  method : Name → (Frame → State → Outcome Oid) → Part
  other : Doing → Part

abbrev pub Methods : Type 0
Methods = List (Name × Oid)

abbrev pub part_done : Part → Methods → Frame → State → Outcome Methods
part_done (method n m) ms frame s = on_value (m frame s) (λ at s. gives (insert_entry same_name ms n at) s)
part_done (other d) ms frame s = on_value (d frame s) (λ flow s. gives ms s)

-- the methods, with those before; each statement takes a step
abbrev pub methods_made : List Part → Methods → Frame → State → Outcome Methods
methods_made [] ms frame s = gives ms s
methods_made (p ∷ ps) ms frame s = on_value (stepped s (part_done p ms frame)) (λ ms s. methods_made ps ms frame s)

-- whether a class, or a function, stands at a place

abbrev pub is_class : Content → Bool
is_class (object.class name declared methods) = true
is_class c = false

abbrev pub is_function : Content → Bool
is_function (object.function name unit block within defaults) = true
is_function c = false

abbrev pub stands : (Content → Bool) → List Owned → Oid → Bool
stands test heap at = option_map_or test (content_at heap at) false

-- the methods, where all of them are functions, as those are that `def` makes
abbrev pub are_functions : List Owned → Methods → Bool
are_functions heap ms = list_all (λ m. stands is_function heap m.1) ms

abbrev pub functions_in : List Owned → Methods → Methods
functions_in heap ms = if are_functions heap ms then ms else []

-- the place of the declared class of a name, where a statement of the module stands in no function; they stand behind the exposed names
abbrev pub declared_place : Frame → List ℕ → List Class → Option Oid
declared_place frame word classes = of frame.side.0 frame.block where
  of : ℕ → ℕ → Option Oid
  of zero zero = option_map (λ i. record { 0 = i }) (position_from (λ c. same_text word c.name) 1 classes)
  of _ _ = None

-- the class that stands there
abbrev pub class_there : List Owned → Oid → Option Oid
class_there heap at = if stands is_class heap at then Some at else None

abbrev pub declared_at : Frame → List Owned → List ℕ → List Class → Option Oid
declared_at frame heap word classes = option_and_then (class_there heap) (declared_place frame word classes)

-- the class with its methods
abbrev pub class_made : Option Oid → Name → Methods → Frame → State → Outcome Oid
class_made (Some at) n ms frame s = charged (length ms) s (λ s. gives at (with_change at (with_methods ms) s))
class_made None n ms frame s = makes frame.side (object.class n false ms) s

abbrev pub class : Name → List Part → Doing
class n parts frame s = on_value (methods_made parts [] frame s) (λ ms s.
    on_value (class_made (declared_at frame (heap_of s) (word_of s.names n) s.declarations.classes) n (functions_in (heap_of s) ms) frame s)
    (λ at s. bind_name n (value.Ref at) frame s))
