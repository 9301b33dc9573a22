use Rattle.std.proofs.Common.{◌≡◌, rules, length, map, chars, string_bytes}
use Rattle.std.proofs.lemmas.Str.{IsUtf8-string_bytes}
use Rattle.rp_token.proofs.Texts.{chars-push}
use Rattle.rp_more.specs.PieceSteps.{piece_seen}
use Rattle.rp_more.specs.Pieces.{pieces_from, pieces_of}
use Rattle.rp_more.proofs.ReadPieces.{pieces-begin, pieces-end, pieces-letter, pieces-part}
use Rattle.rp_base.proofs.CallerLemmas.{no-chars}
use Rattle.rp_more.proofs.pieces.read_pieces.Goals as goal

pub fronts-init : goal.fronts-init
fronts-init c = record { is_text = c.utf8.text; same = pieces-begin c.new.result.items (string_bytes c.new-2.result) c.args.text.now c.new.ensures.items c.new-2.ensures.bytes }

pub fronts-preserved-in-Letter : goal.fronts-preserved-in-Letter
fronts-preserved-in-Letter c =
    let old = c.fronts.pieces in
    record {
      is_text = c.in-Letter.ensures.rest.0;
      same = pieces-letter (map piece_seen old.whole.items) (chars (string_bytes old.run)) (chars (string_bytes c.push.new.self)) c.in-Letter.letter (pieces_from 0 (chars c.fronts.rest.now))
          (pieces_from 0 (chars c.in-Letter.next.now)) (pieces_of (chars c.args.text.now)) c.fronts.invariant.same c.in-Letter.ensures.front
          (chars-push (string_bytes old.run) (string_bytes c.push.new.self) c.in-Letter.letter (IsUtf8-string_bytes old.run) (IsUtf8-string_bytes c.push.new.self) c.in_ok-push-in-Letter.ensures.bytes);
    }

pub fronts-preserved : goal.fronts-preserved
fronts-preserved c =
    let old = c.fronts.pieces in
    let new = c.add_part.new.self in
    record {
      is_text = c.in-Part.ensures.rest.0;
      same = pieces-part (map piece_seen old.whole.items) (map piece_seen new.whole.items) (chars (string_bytes old.run)) (chars (string_bytes new.run)) (chars c.in-Part.inside.now)
          (pieces_from 0 (chars c.fronts.rest.now)) (pieces_from 0 (chars c.in-Part.next.now)) (pieces_of (chars c.args.text.now)) c.fronts.invariant.same c.in-Part.ensures.front
          c.in_ok-add_part-in-Part.ensures.pieces c.in_ok-add_part-in-Part.ensures.run;
    }

pub returns : goal.returns
returns c =
    let old = c.fronts.pieces in
    let empty : length c.fronts.rest.now ≡ 0 = search rules in
    pieces-end (map piece_seen old.whole.items) (chars (string_bytes old.run)) (chars c.fronts.rest.now) (map piece_seen c.end_run.new.self.whole.items) (pieces_of (chars c.args.text.now))
    c.fronts.invariant.same (no-chars c.fronts.rest.now empty) c.in_ok-end_run.ensures.pieces
