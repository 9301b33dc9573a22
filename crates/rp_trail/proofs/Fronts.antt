-- The characters of the front of a line, from its bytes.
use Rattle.std.proofs.Common.{◌≡◌, ℕ, ◌<◌, ◌^◌, List, [], ◌∷◌, ◌++◌, ap, ◌∙◌, rules, refl}
use Rattle.std.specs.Fmt.{decimal}
use Rattle.std.specs.Str.{IsAscii, IsUtf8, chars}
use Rattle.std.proofs.lemmas.Fmt.{IsAscii-decimal}
use Rattle.std.proofs.lemmas.Str.{chars-append, chars-IsAscii, IsAscii-append, IsUtf8-from_ascii}

chars_blank : chars (32 ∷ []) ≡ 32 ∷ []
unfolding chars
chars_blank = refl

blank_is_text : IsUtf8 (32 ∷ [])
blank_is_text = search rules

blank_is_ascii : IsAscii (32 ∷ [])
blank_is_ascii = search rules

-- a blank is a character of its own
pub chars-blank : (text : List ℕ) → chars (32 ∷ text) ≡ 32 ∷ chars text
chars-blank text = chars-append (32 ∷ []) text blank_is_text ∙ ap (λ t. t ++ chars text) chars_blank

pub chars_front : (n k : ℕ) (who : List ℕ) → n < 2 ^ 64 → k < 2 ^ 64 → chars ((decimal n ++ 32 ∷ decimal k) ++ 32 ∷ who) ≡ (decimal n ++ 32 ∷ decimal k) ++ 32 ∷ chars who
chars_front n k who small few =
    let ascii = IsAscii-append (decimal n) (32 ∷ decimal k) (IsAscii-decimal n small) (IsAscii-append (32 ∷ []) (decimal k) blank_is_ascii (IsAscii-decimal k few)) in
    chars-append (decimal n ++ 32 ∷ decimal k) (32 ∷ who) (IsUtf8-from_ascii _ ascii)
    ∙ ap (λ t. t ++ chars (32 ∷ who)) (chars-IsAscii (decimal n ++ 32 ∷ decimal k) ascii)
    ∙ ap (λ t. (decimal n ++ 32 ∷ decimal k) ++ t) (chars-blank who)
