use Rattle.std.proofs.Common.{◌≡◌, ◌++◌, drop, map, Some}
use Rattle.std.specs.Option.{option_map}
use Rattle.rp_calls.specs.Binding.{filled, offered}
use Rattle.rp_calls.proofs.parameters.slots_from.Given as goal

abbrev pub invariant-loop-parameter : goal.invariant-loop-parameter
invariant-loop-parameter l =
    option_map (λ vs. l.slots.items ++ map Some vs) (filled (offered l.names (drop l.parameter-index l.plain) l.args l.defaults) l.named)
    ≡ option_map (map Some) (filled (offered l.names l.plain l.fn.args l.fn.defaults) l.named)
