use Rattle.std.proofs.Common.{◌≡◌, ◌++◌, chars, encode_utf8_all, length, string_bytes}
use Rattle.std.specs.Str.{IsUtf8}
use Rattle.rp_methods.specs.Texts.{joined, pieces}
use Rattle.rp_methods.proofs.text_makers.replaced.Given as goal

-- the bytes so far, and then those of what is left
abbrev pub invariant-loop-before : goal.invariant-loop-before
invariant-loop-before l = record {
  whole : string_bytes l.all ++ encode_utf8_all (joined (chars l.to) (pieces (chars l.from) (chars l.rest))) ≡ encode_utf8_all (joined (chars l.to) (pieces (chars l.from) (chars l.text)));
  utf8 : IsUtf8 l.rest;
}

abbrev pub decreases-loop-before : goal.decreases-loop-before
decreases-loop-before l = length l.rest
