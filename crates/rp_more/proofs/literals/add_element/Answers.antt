use Rattle.std.proofs.Common.{◌++◌, [], refl}
use Rattle.std.proofs.lemmas.Result.{IfOk-weaker}
use Rattle.rp_more.specs.LiteralSteps.{comma_before, items_of}
use Rattle.rp_more.specs.NameSteps.{Follow}
use Rattle.rp_more.specs.PieceSteps.{piece_seen}
use Rattle.rp_more.proofs.Leading.{Leads-element}
use Rattle.rp_more.proofs.NameWords.{Follow-then, Follow-words, comma-words}
use Rattle.rp_more.proofs.literals.add_element.Goals as goal

pub returns-clause-leads : goal.returns-clause-leads
returns-clause-leads c = λ more ps.
    let names = c.add_piece.new.names ++ more in
    Leads-element c.args.place (items_of names c.args.written.now.items) (items_of names c.add_comma.new.written.items) (items_of names c.add_piece.new.written.items) c.args.first
    (piece_seen c.args.piece.now) ps c.add_piece.result (c.in_ok-add_comma.ensures names) (c.add_piece.ensures.leads more)

pub returns-clause-follows : goal.returns-clause-follows
returns-clause-follows c =
    let old = c.args.names.now in
    let new = c.add_piece.new.names in
    let before = c.args.written.now.items in
    let comma = c.add_comma.new.written.items in
    let after = c.add_piece.new.written.items in
    let one = Follow-words c.args.place (comma_before c.args.first) [] old old before comma (λ more. c.in_ok-add_comma.ensures (old ++ more)) (comma-words c.args.first) refl in
    IfOk-weaker c.add_piece.result (λ _. Follow old new comma after) (λ _. Follow old new before after)
    (λ _ follows. Follow-then old old new before comma after c.add_piece.ensures.grown one follows) c.add_piece.ensures.follows
