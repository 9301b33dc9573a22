use Rattle.std.proofs.Common.{◌≡◌, ℕ, List, [], ◌++◌, drop, map}
use Rattle.rp_more.specs.Literals.{elements, with_front}
use Rattle.rp_more.specs.LiteralSteps.{comma_before, in_place, items_of}
use Rattle.rp_more.specs.NameSteps.{Follow}
use Rattle.rp_more.specs.PieceSteps.{piece_seen}
use Rattle.rp_base.specs.Names.{GrowsTo}
use Rattle.rp_more.proofs.literals.add_elements.Given as goal

abbrev pub invariant-loop-piece : goal.invariant-loop-piece
invariant-loop-piece l =
    record {
      grown : GrowsTo l.fn.names l.names;
      follows : Follow l.fn.names l.names l.fn.written.items l.written.items;
      same : (more : List (List ℕ)) →
          with_front (items_of (l.names ++ more) l.fn.written.items) (in_place l.place (elements [] (map piece_seen l.pieces)))
          ≡ with_front (items_of (l.names ++ more) l.written.items) (in_place l.place (elements (comma_before l.first) (map piece_seen (drop l.piece-index l.pieces))));
    }
