use Rattle.std.proofs.Common.{◌≡◌, ◌+◌, ◌≤◌, chars, length}
use Rattle.std.specs.Str.{IsUtf8}
use Rattle.rp_methods.specs.Texts.{pieces}
use Rattle.rp_methods.proofs.text_pieces.count_of.Given as goal

-- those so far, and then those of what is left
abbrev pub invariant-loop-after : goal.invariant-loop-after
invariant-loop-after l = record {
  count : l.count + length (pieces (chars l.part) (chars l.rest)) ≡ length (pieces (chars l.part) (chars l.text));
  within : l.count + length l.rest ≤ length l.text;
  utf8 : IsUtf8 l.rest;
}

abbrev pub decreases-loop-after : goal.decreases-loop-after
decreases-loop-after l = length l.rest
