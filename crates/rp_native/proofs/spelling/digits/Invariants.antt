use Rattle.std.proofs.Common.{◌≡◌, ◌<◌, ◌^◌, drop}
use Rattle.std.specs.Option.{option_map}
use Rattle.rp_native.specs.Numbers.{digits_behind}
use Rattle.rp_native.specs.Saturated.{saturated}
use Rattle.rp_native.proofs.spelling.digits.Given as goal

-- the digits that are left, behind the number so far, spell what all spell
abbrev pub invariant-loop-byte : goal.invariant-loop-byte
invariant-loop-byte l =
    (option_map saturated (digits_behind 0 l.bytes) ≡ option_map saturated (digits_behind l.number (drop l.byte-index l.bytes))) × (l.number < 2 ^ 64)
