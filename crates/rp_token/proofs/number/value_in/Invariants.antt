use Rattle.std.proofs.Common.{◌≡◌, chars, length, option_and_then}
use denote.Text.{Utf8}
use denote.Shadow.{shadow}
use Rattle.rp_token.specs.Number.{limited}
use Rattle.rp_token.proofs.Numbers.{value_after}
use Rattle.rp_token.proofs.number.value_in.Given as goal

-- the digits that are left give the number behind the value so far
abbrev pub invariant-digits : goal.invariant-digits
invariant-digits l = shadow (Utf8 l.rest)
    × (option_and_then limited (value_after l.base l.value (chars l.rest)) ≡ option_and_then limited (value_after l.base 0 (chars l.digits)))

abbrev pub decreases-digits : goal.decreases-digits
decreases-digits l = length (chars l.rest)
