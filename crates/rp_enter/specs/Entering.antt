-- What is done before the code of a function runs, as the code has a function for it; it is a part of a call of rp_meaning.
use Rattle.std.specs.Prelude.{ℕ, ◌-◌, ◌++◌, [], All, Bool, true, false, IfSome, List, Option, None, Some, length}
use Rattle.rp_base.specs.declared.value.Oid.{Oid}
use Rattle.rp_base.specs.declared.value.Side.{Side}
use Rattle.rp_base.specs.declared.value.Value.{Value}
use Rattle.rp_meaning.specs.Binding.{Arguments, behind, bind}
use Rattle.rp_meaning.specs.Expressions.{empty_slots}
use Rattle.rp_meaning.specs.Running.{slots_taken, taken_all}
use Rattle.rp_meaning.specs.State.{State, Outcome, heap_of, makes, plainly}
use Rattle.rp_ops.specs.Operand.{lent}
use Rattle.rp_ops.specs.Outcome.{on_value}
use Rattle.rp_store.specs.Heap.{Owned}
use Rattle.rp_store.specs.Kept.{IsFit, IsSound}
use Rattle.rp_store.specs.Object as object
use Rattle.rp_tree.specs.Expressions as tree

-- the slots of the parameters, and an empty one for each other of so many local names
abbrev pub filled_to : ℕ → List (Option Value) → List (Option Value)
filled_to locals bound = bound ++ empty_slots (locals - length bound)

-- a scope of a code block of a side, with these slots first
abbrev pub scope_made : Side → ℕ → Oid → ℕ → List (Option Value) → State → Outcome Oid
scope_made side number within locals bound s = makes side (object.scope (Some number) (Some within) (filled_to locals bound)) s

-- a new instance of a class, with no attribute
abbrev pub instance_made : Side → Oid → State → Outcome Oid
instance_made owner class s = makes owner (object.instance class []) s

-- the arguments are bound, what they are bound to is taken for the side, and the scope is made
abbrev pub entered_with : Side → ℕ → Oid → ℕ → tree.Params → List Value → Arguments → State → Outcome Oid
entered_with side number within locals ps defaults a s =
    on_value (plainly (bind side s.names ps defaults a) s) (λ bound s.
    scope_made side number within locals (slots_taken (heap_of s) side bound) s)

-- the same, once the arguments are taken for the side
abbrev pub entered : Side → ℕ → Oid → ℕ → tree.Params → List Value → Arguments → State → Outcome Oid
entered side number within locals ps defaults a s =
    entered_with side number within locals ps defaults (taken_all (heap_of s) side a) s

-- a value before the arguments, where there is one
abbrev pub before_all : Option Value → Arguments → Arguments
before_all None a = a
before_all (Some v) a = behind v a

-- slots as a scope of a side may hold them
abbrev pub AreSlotsFit : List Owned → Side → List (Option Value) → Type 0
AreSlotsFit heap side slots = All (λ slot. IfSome slot (IsFit heap side)) slots

-- values with names that stand in the store
abbrev pub AreNamedSound : List Owned → List (List ℕ × Value) → Type 0
AreNamedSound heap named = All (λ n. IsSound heap n.1) named

-- what was got by a call, through a proxy or not
abbrev pub lent_by : Bool → Value → Value
lent_by true v = lent v
lent_by false v = v
