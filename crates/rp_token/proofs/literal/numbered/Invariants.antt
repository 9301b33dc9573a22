use Rattle.std.proofs.Common.{◌≡◌, chars, drop}
use denote.Text.{Utf8}
use denote.Shadow.{shadow}
use Rattle.rp_token.proofs.Literals.{hex_after}
use Rattle.rp_token.proofs.literal.numbered.Given as goal

-- the digits that are left give the number behind the value so far
abbrev pub invariant-digits : goal.invariant-digits
invariant-digits l =
    record {
      is_text : shadow (Utf8 l.rest);
      value : hex_after l.value l.left (chars l.rest) ≡ hex_after 0 l.count (chars l.text);
      rest : drop l.left (chars l.rest) ≡ drop l.count (chars l.text);
    }

abbrev pub decreases-digits : goal.decreases-digits
decreases-digits l = l.left
