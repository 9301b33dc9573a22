-- Sums of what walking a value gives (Python Standard Library, Built-in Functions). The kinds of the elements are tested once all are walked. Other way: the
-- numbers are a list of whole numbers of any size, and each partial sum is tested; the code adds within 64 bits.
use Rattle.std.specs.Prelude.{ℤ, pos, ◌+ℤ◌, Bool, List, [], ◌∷◌, filter_map, is_some, Result, Ok, Err, if◌then◌else◌}
use Rattle.std.specs.List.{list_all}
use Rattle.rp_base.specs.declared.value.Raised.{Raised}
use Rattle.rp_base.specs.declared.value.Value.{Value}
use Rattle.rp_ops.specs.Binary.{number_value}
use Rattle.rp_ops.specs.Keys.{index_number}
use Rattle.rp_ops.specs.Numbers.{fitted}
use Rattle.rp_ops.specs.Outcome.{State, Outcome, on_value}
use Rattle.rp_ops.specs.Walk.{elements}
use Rattle.rp_native.specs.Faults.{fails}
use Rattle.rp_native.specs.declared.fault.Fault.TheVariants as fault

abbrev pub is_number : Value → Bool
is_number v = is_some (index_number v)

abbrev pub are_numbers : List Value → Bool
are_numbers vs = list_all is_number vs

-- goes on with a number, where there is one
abbrev pub on_number : Result ℤ Raised → (ℤ → Result ℤ Raised) → Result ℤ Raised
on_number (Ok n) go = go n
on_number (Err r) go = Err r

-- the sum behind another; each partial sum has 64 bits
abbrev pub summed : ℤ → List ℤ → Result ℤ Raised
summed total [] = Ok total
summed total (n ∷ ns) = on_number (fitted (total +ℤ n)) (λ sum. summed sum ns)

abbrev pub sum_of : List Value → State → Outcome Value
sum_of vs s = if are_numbers vs then number_value (summed (pos 0) (filter_map index_number vs)) s else fails fault.Argument s

-- `sum(v)`
abbrev pub sum : Value → State → Outcome Value
sum v s = on_value (elements v s) sum_of
