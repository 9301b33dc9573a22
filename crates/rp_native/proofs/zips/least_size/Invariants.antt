use Rattle.std.proofs.Common.{◌≡◌, drop, map, min}
use Rattle.std.specs.List.{fold}
use Rattle.rp_native.specs.Zips.{size}
use Rattle.rp_native.proofs.zips.least_size.Given as goal

-- the least of the sizes so far and of those that are left
abbrev pub invariant-loop-value : goal.invariant-loop-value
invariant-loop-value l = fold min l.fn.first (map (size l.store.heap) l.values) ≡ fold min l.least (map (size l.store.heap) (drop l.value-index l.values))
