use Rattle.std.proofs.Common.{◌≡◌, ◌+◌, ◌≤◌, chars, length, string_bytes}
use denote.Text.{Utf8}
use denote.Shadow.{shadow}
use Rattle.rp_token.specs.Literal.{literal_behind, with_front}
use Rattle.rp_token.specs.Reading.{quotes_seen}
use Rattle.rp_token.proofs.literal.Quotes.read.Given as goal

-- the literal is the text so far before the literal that is left
abbrev pub invariant-pieces : goal.invariant-pieces
invariant-pieces l =
    record {
      is_text : shadow (Utf8 l.rest);
      reading : with_front (chars (string_bytes l.value)) l.lines (literal_behind (quotes_seen l.self) 0 (chars l.rest)) ≡ literal_behind (quotes_seen l.self) 0 (chars l.text);
      counted : l.lines + length (chars l.rest) ≤ length (chars l.text);
    }

abbrev pub decreases-pieces : goal.decreases-pieces
decreases-pieces l = length (chars l.rest)
