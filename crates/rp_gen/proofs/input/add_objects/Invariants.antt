use Rattle.std.proofs.Common.{◌≡◌, ◌++◌, flat_map, string_bytes}
use Rattle.rp_gen.specs.Large.{below, object_lines}
use Rattle.rp_gen.proofs.input.add_objects.Given as goal

abbrev pub invariant-objects : goal.invariant-objects
invariant-objects l = string_bytes l.text ≡ string_bytes l.initial.text ++ flat_map object_lines (below l.i)
