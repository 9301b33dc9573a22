use Rattle.std.proofs.Common.{◌≡◌, ◌++◌, sym, ap, subst, chars, Ok}
use Rattle.rp_more.specs.LiteralSteps.{Leads, in_place, items_of}
use Rattle.rp_more.specs.Literals.{piece_forms, with_front}
use Rattle.rp_more.specs.Pieces.{Piece, part}
use Rattle.rp_more.specs.PieceSteps.{piece_seen}
use Rattle.rp_more.proofs.NameWords.{Follow-text}
use Rattle.rp_more.proofs.literals.add_piece.Goals as goal

pub returns-in-Part-clause-leads : goal.returns-in-Part-clause-leads
returns-in-Part-clause-leads c = λ more.
    let names = c.add_expression.new.names ++ more in
    let is : piece_seen c.args.piece.now ≡ part (chars c.in-Part.inside.now) = ap piece_seen c.in-Part.is in
    subst (λ (p : Piece). Leads (with_front (items_of names c.args.written.now.items) (in_place c.args.place (piece_forms p))) (Ok (items_of names c.add_expression.new.written.items)) c.add_expression.result)
    (sym is) (c.add_expression.ensures.leads more)

pub returns-in_ok-push-in-Run-clause-follows : goal.returns-in_ok-push-in-Run-clause-follows
returns-in_ok-push-in-Run-clause-follows c =
    Follow-text c.args.place _ c.args.names.now c.args.written.now.items c.push.new.written.items c.in_ok-push-in-Run.ensures.items
