-- When two texts are the same.
use Rattle.std.specs.Prelude.{ℕ, Bool, List, encode_utf8_all, nat_eq}
use Rattle.std.specs.Cmp.Lexicographic.{pointwise}

-- the two texts, as lists of characters, have the same UTF-8 bytes
abbrev pub same_text : List ℕ → List ℕ → Bool
same_text x y = pointwise nat_eq (encode_utf8_all x) (encode_utf8_all y)
