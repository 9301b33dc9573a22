use Rattle.std.proofs.Common.{◌≡◌, ◌++◌, flat_map, string_bytes}
use Rattle.rp_gen.specs.Large.{below, sum_line}
use Rattle.rp_gen.proofs.input.add_sums.Given as goal

abbrev pub invariant-sums : goal.invariant-sums
invariant-sums l = string_bytes l.text ≡ string_bytes l.initial.text ++ flat_map sum_line (below l.i)
