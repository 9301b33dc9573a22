use Rattle.std.proofs.Common.{chars, length}
use denote.Text.{Utf8}
use denote.Shadow.{shadow}
use Rattle.rp_more.proofs.Trims.{Read}
use Rattle.rp_more.proofs.letters.without_last_blanks.Given as goal

-- the characters before the rest were read
abbrev pub invariant-letters : goal.invariant-letters
invariant-letters l =
    record {
      is_text : shadow (Utf8 l.rest);
      blank_text : shadow (Utf8 l.blanks);
      read : Read (chars l.text) (chars l.blanks) (chars l.rest);
    }

abbrev pub decreases-letters : goal.decreases-letters
decreases-letters l = length (chars l.rest)
