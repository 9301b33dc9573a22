-- What the reader of pieces gives, in the words of the definition.
use Rattle.std.specs.Prelude.{ℕ, ◌+◌, ◌==◌, ◌&&◌, if◌then◌else◌, List, [], ◌∷◌, length, drop, chars, Option, None, ⊤}
use Rattle.std.specs.Option.{option_map}
use Rattle.rp_more.specs.declared.pieces.Front.{Front}
use Rattle.rp_more.specs.declared.pieces.Front.TheVariants as front
use Rattle.rp_more.specs.declared.pieces.Piece.{Piece}
use Rattle.rp_more.specs.declared.pieces.Piece.TheVariants as piece
use Rattle.rp_token.specs.Characters.{first}
use Rattle.rp_token.specs.Reading.{IsLess}
use Rattle.rp_more.specs.Pieces as of

abbrev pub piece_seen : Piece → of.Piece
piece_seen (piece.Run t) = of.run t
piece_seen (piece.Part inside) = of.part (chars inside.now)

-- the pieces of a text whose front this is
abbrev pub front_seen : Front → Option (List of.Piece)
front_seen (front.Letter c rest) = option_map (of.with_character c) (of.pieces_from 0 (chars rest.now))
front_seen (front.Part inside rest) = option_map (λ ps. of.part (chars inside.now) ∷ ps) (of.pieces_from 0 (chars rest.now))
front_seen front.Wrong = None

-- characters before the pieces, in one run with those at their front
abbrev pub with_run : List ℕ → List of.Piece → List of.Piece
with_run [] ps = ps
with_run (c ∷ cs) ps = of.with_character c (with_run cs ps)

-- where the text goes on behind the front, less is left
abbrev pub LeavesLess : ℕ → Front → Type 0
LeavesLess n (front.Letter c rest) = IsLess n rest.now
LeavesLess n (front.Part inside rest) = IsLess n rest.now
LeavesLess n front.Wrong = ⊤

-- the pieces behind a single `{`
abbrev pub part_behind : List ℕ → Option (List of.Piece)
part_behind cs =
    let inside = of.enclosed cs in
    if of.is_part inside && (first (drop (length inside) cs) == 125) then option_map (λ ps. of.part inside ∷ ps) (of.pieces_from (length inside + 1) cs) else None
