-- How the code counts in ranges: upwards or downwards, by numbers of at least 0.
use Rattle.std.specs.Prelude.{ℕ, ℤ, pos, ◌+ℤ◌, ◌-ℤ◌, int_lt, if◌then◌else◌}
use Rattle.rp_items.specs.Slices.{distance}
use Rattle.rp_native.specs.declared.ranges.Bounds.{Bounds}

-- how far it is from the first number to the bound
abbrev pub way : Bounds → ℕ
way b = if int_lt b.step (pos 0) then distance b.to b.from else distance b.from b.to

-- the number so far away
abbrev pub moved : ℤ → ℤ → ℕ → ℤ
moved from step away = if int_lt step (pos 0) then from -ℤ pos away else from +ℤ pos away
