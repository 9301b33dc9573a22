-- The pieces of an f-literal's text (PEP 498, "Formatted string literals", without conversions and format specifications).
use Rattle.std.specs.Prelude.{ℕ, zero, suc, ◌+◌, ◌==◌, Bool, ◌||◌, ◌&&◌, not, if◌then◌else◌, List, [], ◌∷◌, length, take_while, drop, Option, Some, None}
use Rattle.std.specs.List.{list_all}
use Rattle.std.specs.Option.{option_map}
use Rattle.rp_token.specs.Characters.{first, is_blank, is_line_end}

-- some characters, or what stands between two braces
pub data Piece : Type 0 where
  run : List ℕ → Piece
  part : List ℕ → Piece

-- a character more before the pieces, in one run with the characters at their front
abbrev pub with_character : ℕ → List Piece → List Piece
with_character c (run cs ∷ ps) = run (c ∷ cs) ∷ ps
with_character c ps = run (c ∷ []) ∷ ps

abbrev pub is_brace : ℕ → Bool
is_brace c = (c == 123) || (c == 125)

-- what stands before the next `}`
abbrev pub enclosed : List ℕ → List ℕ
enclosed cs = take_while (λ c. not (c == 125)) cs

-- a part has no `{`, no `#` and no line end, and isn't blank
abbrev pub is_part : List ℕ → Bool
is_part cs = list_all (λ c. not ((c == 123) || ((c == 35) || is_line_end c))) cs && not (list_all is_blank cs)

-- The pieces of a text: `{{` and `}}` stand for one brace, a part stands between `{` and the next `}`, and any other character
-- but a brace stands for itself. None where the text is not made of these. The first so many characters are a rest of what
-- was read, and are passed over.
abbrev pub pieces_from : ℕ → List ℕ → Option (List Piece)
pieces_from n [] = Some []
pieces_from (suc n) (c ∷ cs) = pieces_from n cs
pieces_from zero (c ∷ cs) =
    let inside = enclosed cs in
    if is_brace c && (first cs == c) then option_map (with_character c) (pieces_from 1 cs)
    else if (c == 123) && (is_part inside && (first (drop (length inside) cs) == 125)) then option_map (λ ps. part inside ∷ ps) (pieces_from (length inside + 1) cs)
    else if is_brace c then None
    else option_map (with_character c) (pieces_from 0 cs)

abbrev pub pieces_of : List ℕ → Option (List Piece)
pieces_of text = pieces_from 0 text
