use Rattle.std.proofs.Common.{◌≡◌, ◌++◌, map, chars, length, string_bytes}
use denote.Shadow.{shadow}
use denote.Text.{Utf8}
use Rattle.std.specs.Option.{option_map}
use Rattle.rp_more.specs.Pieces.{pieces_from, pieces_of}
use Rattle.rp_more.specs.PieceSteps.{piece_seen, with_run}
use Rattle.rp_more.proofs.pieces.read_pieces.Given as goal

abbrev pub invariant-fronts : goal.invariant-fronts
invariant-fronts l =
    record {
      is_text : shadow (Utf8 l.rest);
      same : pieces_of (chars l.text) ≡ option_map (λ ps. map piece_seen l.pieces.whole.items ++ with_run (chars (string_bytes l.pieces.run)) ps) (pieces_from 0 (chars l.rest));
    }

abbrev pub decreases-fronts : goal.decreases-fronts
decreases-fronts l = length (chars l.rest)
