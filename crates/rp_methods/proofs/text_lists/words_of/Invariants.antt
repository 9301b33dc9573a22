use Rattle.std.proofs.Common.{◌≡◌, ◌++◌, chars, length, map}
use Rattle.std.specs.Str.{IsUtf8}
use Rattle.std.specs.Str.Iter.{split_whitespace_rest}
use Rattle.rp_methods.specs.Texts.{text_value, words}
use Rattle.rp_methods.proofs.text_lists.words_of.Given as goal

-- the words so far, and then those of what is left
abbrev pub invariant-loop-word : goal.invariant-loop-word
invariant-loop-word l = record {
  whole : l.all.items ++ map text_value (words (chars (split_whitespace_rest l.walk))) ≡ map text_value (words (chars l.text));
  utf8 : IsUtf8 (split_whitespace_rest l.walk);
}

abbrev pub decreases-loop-word : goal.decreases-loop-word
decreases-loop-word l = length (split_whitespace_rest l.walk)
