-- What the reader of literals gives, in the words of the definition.
use Rattle.std.specs.Prelude.{ℕ, ◌+◌, ◌<◌, ◌≤◌, ◌==◌, Bool, true, false, if◌then◌else◌, List, [], ◌∷◌, length, chars, ⊤}
use Rattle.std.specs.Str.{IsUtf8}
use Rattle.std.specs.Option.{option_map_or}
use Rattle.rp_token.specs.declared.literal.Quotes.{Quotes}
use Rattle.rp_token.specs.declared.literal.Piece.{Piece}
use Rattle.rp_token.specs.declared.literal.Piece.TheVariants as piece
use Rattle.rp_token.specs.declared.literal.Reading.{Reading}
use Rattle.rp_token.specs.declared.literal.Reading.TheVariants as reading
use Rattle.rp_token.specs.Literal as of

-- one quote or three
abbrev pub quotes : Bool → ℕ → List ℕ
quotes true q = q ∷ q ∷ q ∷ []
quotes false q = q ∷ []

abbrev pub quotes_seen : Quotes → List ℕ
quotes_seen q = quotes q.three q.quote

abbrev pub reading_seen : Reading → of.Reading
reading_seen (reading.Closed value rest lines) = of.closed value (chars rest.now) lines
reading_seen reading.Unclosed = of.unclosed
reading_seen (reading.BadEscape lines) = of.bad_escape lines

-- a literal whose front is this piece
abbrev pub piece_seen : List ℕ → Piece → of.Reading
piece_seen quotes (piece.Closed rest) = of.closed [] (chars rest.now) 0
piece_seen quotes piece.Unclosed = of.unclosed
piece_seen quotes piece.BadEscape = of.bad_escape 0
piece_seen quotes (piece.Letter c rest) = of.with_front (c ∷ []) 0 (of.literal_behind quotes 0 (chars rest.now))
piece_seen quotes (piece.LineEnd rest) = of.with_front (10 ∷ []) 1 (of.literal_behind quotes 0 (chars rest.now))
piece_seen quotes (piece.Joined rest) = of.with_front [] 1 (of.literal_behind quotes 0 (chars rest.now))

-- what a backslash and the characters behind it are
abbrev pub escape_seen : List ℕ → List ℕ → of.Reading
escape_seen quotes cs =
    if length cs == 0 then of.unclosed
    else option_map_or (λ e. of.with_front e.stands_for (of.line_ends cs) (of.literal_behind quotes e.taken cs)) (of.escape_of cs) (of.bad_escape 0)

-- a text of less than so many characters
abbrev pub IsLess : ℕ → List ℕ → Type 0
IsLess n rest = IsUtf8 rest × (length (chars rest) < n)

-- where the literal goes on behind the piece, less is left
abbrev pub LeavesLess : ℕ → Piece → Type 0
LeavesLess n (piece.Letter c rest) = IsLess n rest.now
LeavesLess n (piece.LineEnd rest) = IsLess n rest.now
LeavesLess n (piece.Joined rest) = IsLess n rest.now
LeavesLess n (piece.Closed rest) = IsLess n rest.now
LeavesLess n _ = ⊤

-- the line ends are of a text of so many characters, and so is the rest behind a closed literal
abbrev pub LeavesLines : ℕ → Reading → Type 0
LeavesLines n (reading.Closed value rest lines) = IsUtf8 rest.now × (lines + length (chars rest.now) ≤ n)
LeavesLines n (reading.BadEscape lines) = lines ≤ n
LeavesLines n reading.Unclosed = ⊤
