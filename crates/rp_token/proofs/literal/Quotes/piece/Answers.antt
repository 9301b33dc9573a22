use Rattle.std.proofs.Common.{◌≡◌, ◌∙◌, refl, rules, arith, chars, false, nat_eq}
use Rattle.std.specs.List.{starts_with}
use Rattle.rp_token.specs.Reading.{quotes_seen}
use Rattle.std.proofs.lemmas.List.{length-drop, nil_from_length}
use Rattle.rp_token.specs.Characters.{first}
use Rattle.rp_token.proofs.Texts.{no_chars}
use Rattle.rp_token.proofs.Literals.{literal-escape}
use Rattle.rp_base.proofs.CallerLemmas.{some_chars}
use Rattle.rp_token.proofs.literal.Quotes.piece.Goals as goal

pub returns-then-is_empty-clause-meaning : goal.returns-then-is_empty-clause-meaning
returns-then-is_empty-clause-meaning c = let none = nil_from_length _ (no_chars c.args.text.now (search rules)) in rw none refl

pub returns-in-92-clause-meaning : goal.returns-in-92-clause-meaning
returns-in-92-clause-meaning c =
    let cs = chars c.args.text.now in
    let other : starts_with nat_eq cs (quotes_seen c.args.self) ≡ false = search rules in
    let backslash : first cs ≡ 92 = search rules in
    literal-escape (quotes_seen c.args.self) cs other backslash ∙ rw (← c.behind.ensures) (c.escape.ensures.meaning (quotes_seen c.args.self))

pub returns-in_default-first-clause-rest : goal.returns-in_default-first-clause-rest
returns-in_default-first-clause-rest c =
    let letters = some_chars c.args.text.now c.utf8.text (search rules) in
    (c.behind-in_default-first.utf8, rw c.behind-in_default-first.ensures (omega (arith, length-drop 1 (chars c.args.text.now))))
