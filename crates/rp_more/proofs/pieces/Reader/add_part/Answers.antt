use Rattle.std.proofs.Common.{chars, refl, string_bytes}
use Rattle.rp_more.proofs.ReadPieces.{part-filled}
use Rattle.rp_more.proofs.pieces.Reader.add_part.Goals as goal

pub returns-clause-pieces : goal.returns-clause-pieces
returns-clause-pieces c =
    part-filled c.args.self.now.whole.items c.end_run.new.self.whole.items c.push.new.self.items _ (chars c.args.inside.now) (chars (string_bytes c.args.self.now.run))
    c.in_ok-end_run.ensures.pieces c.in_ok-push.ensures.items refl
