use Rattle.std.proofs.Common.{◌≡◌, ◌+◌, ◌≤◌, chars, length}
use denote.Text.{Utf8}
use denote.Shadow.{shadow}
use Rattle.rp_token.specs.Tokens.{joined_lines}
use Rattle.rp_token.proofs.text.joined_lines.Given as goal

-- the line ends so far and those to come
abbrev pub invariant-blanks : goal.invariant-blanks
invariant-blanks l =
    record {
      is_text : shadow (Utf8 l.rest);
      lines : l.lines + joined_lines 0 (chars l.rest) ≡ joined_lines 0 (chars l.text);
      counted : l.lines + length (chars l.rest) ≤ length (chars l.text);
    }

abbrev pub decreases-blanks : goal.decreases-blanks
decreases-blanks l = length (chars l.rest)
