-- Texts without the blanks at their ends.
use Rattle.std.proofs.Common.{◌≡◌, ◌==◌, Bool, true, false, ◌&&◌, cond, List, ℕ, [], ◌∷◌, chars, encode_utf8_all, length, refl, ap, ◌∙◌}
use lib.Utf8.{scalar, scalars}
use Rattle.std.specs.Char.{is_whitespace}
use Rattle.std.specs.Str.{IsUtf8, drop_trailing_whitespace, skip_leading_whitespace, trim, trim_end, trim_start}
use Rattle.std.proofs.lemmas.Bool.{and_from, and_parts}
use Rattle.std.proofs.lemmas.Str.{chars-encodes, scalars-chars}

scalars-skipped : (cs : List ℕ) → scalars cs ≡ true → scalars (skip_leading_whitespace cs) ≡ true
scalars-skipped [] all = refl
scalars-skipped (c ∷ cs) all = by (is_whitespace c) (scalars-skipped cs (and_parts (scalar c) (scalars cs) all).1) where
  by : (b : Bool) → scalars (skip_leading_whitespace cs) ≡ true → scalars (cond b (skip_leading_whitespace cs) (c ∷ cs)) ≡ true
  by true h = h
  by false h = all

scalars-dropped : (cs : List ℕ) → scalars cs ≡ true → scalars (drop_trailing_whitespace cs) ≡ true
scalars-dropped [] all = refl
scalars-dropped (c ∷ cs) all =
    by (is_whitespace c && length (drop_trailing_whitespace cs) == 0) (scalars-dropped cs (and_parts (scalar c) (scalars cs) all).1)
  where
    by : (b : Bool) → scalars (drop_trailing_whitespace cs) ≡ true → scalars (cond b [] (c ∷ drop_trailing_whitespace cs)) ≡ true
    by true h = refl
    by false h = and_from (scalar c) (scalars (drop_trailing_whitespace cs)) (and_parts (scalar c) (scalars cs) all).0 h

-- the characters that are left
pub chars-trimmed : (s r : List ℕ) → IsUtf8 s → r ≡ trim s → chars r ≡ drop_trailing_whitespace (skip_leading_whitespace (chars s))
unfolding trim_start trim_end
chars-trimmed s r us e =
    let front = skip_leading_whitespace (chars s) in
    let all = scalars-skipped (chars s) (scalars-chars s us) in
    ap chars e ∙ ap (λ (l : List ℕ). chars (encode_utf8_all (drop_trailing_whitespace l))) (chars-encodes front all)
    ∙ chars-encodes (drop_trailing_whitespace front) (scalars-dropped front all)
