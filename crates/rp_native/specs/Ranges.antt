-- Ranges (Python Standard Library, Ranges), as lists: the numbers from one up to another, or down, by a step. Other way: the m-th number is the first one and m times
-- the step, over whole numbers of any size; the code adds to or takes from the first one within 64 bits.
use Rattle.std.specs.Prelude.{ℕ, ℤ, pos, ◌+ℤ◌, ◌*ℤ◌, unsigned_abs, int_lt, List, [], ◌∷◌, map, Option, Some, Result, Ok, Err, if◌then◌else◌}
use Rattle.std.specs.Int.{div_ceil}
use Rattle.std.specs.List.{range_with_len}
use Rattle.std.specs.Ordering.{int_eq}
use Rattle.rp_base.specs.declared.value.Rock.TheVariants as rock
use Rattle.rp_base.specs.declared.value.Side.{Side}
use Rattle.rp_base.specs.declared.value.Value.{Value}
use Rattle.rp_base.specs.declared.value.Value.TheVariants as value
use Rattle.rp_store.specs.Object as object
use Rattle.rp_ops.specs.Binary.{new_object}
use Rattle.rp_ops.specs.Keys.{index_number}
use Rattle.rp_ops.specs.Outcome.{State, Outcome}
use Rattle.rp_items.specs.Slices.{distance}
use Rattle.rp_native.specs.Faults.{fails}
use Rattle.rp_native.specs.declared.fault.Fault.{Fault}
use Rattle.rp_native.specs.declared.fault.Fault.TheVariants as fault
use Rattle.rp_native.specs.declared.ranges.Bounds.{Bounds}

-- how many numbers there are before the last bound is reached
abbrev pub count : Bounds → ℕ
count b = div_ceil (if int_lt b.step (pos 0) then distance b.to b.from else distance b.from b.to) (unsigned_abs b.step)

abbrev pub member : Bounds → ℕ → Value
member b m = value.Rock (rock.Int (b.from +ℤ pos m *ℤ b.step))

abbrev pub numbers : Bounds → List Value
numbers b = map (member b) (range_with_len 0 (count b))

-- a step of 0 goes nowhere
abbrev pub bounds_by : Option ℤ → Option ℤ → Option ℤ → Result Bounds Fault
bounds_by (Some from) (Some to) (Some step) = if int_eq step (pos 0) then Err fault.Step else Ok (record { from = from; to = to; step = step })
bounds_by from to step = Err fault.Argument

-- `to`, `from, to` or `from, to, step`
abbrev pub bounds_of : List Value → Result Bounds Fault
bounds_of (to ∷ []) = bounds_by (Some (pos 0)) (index_number to) (Some (pos 1))
bounds_of (from ∷ to ∷ []) = bounds_by (index_number from) (index_number to) (Some (pos 1))
bounds_of (from ∷ to ∷ step ∷ []) = bounds_by (index_number from) (index_number to) (index_number step)
bounds_of vs = Err fault.Count

abbrev pub listed : Side → Result Bounds Fault → State → Outcome Value
listed side (Ok b) s = new_object side (object.list (numbers b)) s
listed side (Err f) s = fails f s

-- `range(to)`, `range(from, to)` and `range(from, to, step)`
abbrev pub range : Side → List Value → State → Outcome Value
range side vs s = listed side (bounds_of vs) s
