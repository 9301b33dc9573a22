use Rattle.std.proofs.Common.{◌≡◌, ◌++◌, ◌-◌, codes, flat_map, string_bytes}
use Rattle.std.specs.List.{range_with_len}
use Rattle.rp_gen.specs.Large.{quoted_name}
use Rattle.rp_gen.proofs.input.add_names.Given as goal

abbrev pub invariant-names : goal.invariant-names
invariant-names l =
    string_bytes l.text
    ≡ string_bytes l.initial.text ++ flat_map (λ i. codes ", " ++ quoted_name i) (range_with_len 1 (l.i - 1))
