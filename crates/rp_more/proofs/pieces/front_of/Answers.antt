use Rattle.std.proofs.Common.{◌≡◌, ◌∙◌, ◌<◌, ◌==◌, sym, arith, rules, false, chars, length}
use Rattle.std.specs.Option.{option_map}
use Rattle.std.proofs.lemmas.List.{length-drop}
use Rattle.rp_token.specs.Characters.{first}
use Rattle.rp_more.specs.Pieces.{pieces_from, with_character}
use Rattle.rp_more.proofs.FrontPieces.{pieces-plain}
use Rattle.rp_base.proofs.CallerLemmas.{some_chars}
use Rattle.rp_more.proofs.pieces.front_of.Goals as goal

pub returns-clause-front : goal.returns-clause-front
returns-clause-front c =
    let cs = chars c.args.text.now in
    let some : 0 < length cs = some_chars c.args.text.now c.utf8.text c.requires in
    let opening : (first cs == 123) ≡ false = rw (← c.first-letter.ensures) (search rules) in
    let closing : (first cs == 125) ≡ false = rw (← c.first-letter.ensures) (search rules) in
    pieces-plain cs some opening closing ∙ (λ i. option_map (with_character (sym c.first-letter.ensures i)) (pieces_from 0 (sym c.behind-rest.ensures i)))

pub returns-clause-rest : goal.returns-clause-rest
returns-clause-rest c =
    let cs = chars c.args.text.now in
    let some : 0 < length cs = some_chars c.args.text.now c.utf8.text c.requires in
    (c.behind-rest.utf8, rw c.behind-rest.ensures (omega (arith, length-drop 1 cs)))
