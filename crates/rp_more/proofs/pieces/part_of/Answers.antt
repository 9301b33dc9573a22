use Rattle.std.proofs.Common.{◌∙◌, ◌∷◌, sym, ap, arith, length, chars, option_map}
use Rattle.std.proofs.lemmas.List.{length-drop}
use Rattle.rp_more.specs.Pieces.{enclosed, part, pieces_from}
use Rattle.rp_more.proofs.FrontPieces.{pieces-part}
use Rattle.rp_more.proofs.pieces.part_of.Goals as goal

pub returns-then-first-eq125-clause-front : goal.returns-then-first-eq125-clause-front
returns-then-first-eq125-clause-front c =
    let cs = chars c.args.text.now in
    let inside = chars c.split.result.0.now in
    let rest = chars c.split.result.1.now in
    pieces-part cs inside rest c.split.ensures.run c.split.ensures.rest (sym c.is_part.ensures ∙ c.if-is_part.true) (sym c.first.ensures ∙ c.if-first-eq125.true)
    ∙ (λ k. option_map (λ ps. part inside ∷ ps) (pieces_from 0 (sym c.behind.ensures k)))

pub returns-then-first-eq125-clause-rest : goal.returns-then-first-eq125-clause-rest
returns-then-first-eq125-clause-rest c =
    let cs = chars c.args.text.now in
    let rest = chars c.split.result.1.now in
    let shorter = ap length c.behind.ensures ∙ length-drop 1 rest in
    let left = ap length c.split.ensures.rest ∙ length-drop (length (enclosed cs)) cs in
    (c.behind.utf8, omega arith)
