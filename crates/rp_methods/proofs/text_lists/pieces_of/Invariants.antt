use Rattle.std.proofs.Common.{◌≡◌, ◌++◌, chars, length, map}
use Rattle.std.specs.Str.{IsUtf8}
use Rattle.rp_methods.specs.Texts.{pieces, text_value}
use Rattle.rp_methods.proofs.text_lists.pieces_of.Given as goal

-- the pieces so far, and then those of what is left
abbrev pub invariant-loop-before : goal.invariant-loop-before
invariant-loop-before l = record {
  whole : l.all.items ++ map text_value (pieces (chars l.part) (chars l.rest)) ≡ map text_value (pieces (chars l.part) (chars l.text));
  utf8 : IsUtf8 l.rest;
}

abbrev pub decreases-loop-before : goal.decreases-loop-before
decreases-loop-before l = length l.rest
