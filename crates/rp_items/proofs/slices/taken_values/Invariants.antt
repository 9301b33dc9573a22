use Rattle.std.proofs.Common.{◌≡◌, filter_map, slice_get}
use Rattle.std.specs.List.{range_with_len}
use Rattle.rp_items.specs.SliceView.{place_at}
use Rattle.rp_items.proofs.slices.taken_values.Given as goal

-- the values at the places so far
abbrev pub invariant-loop-m : goal.invariant-loop-m
invariant-loop-m l = l.all.items ≡ filter_map (λ m. slice_get l.values (place_at l.places m)) (range_with_len 0 l.m)
