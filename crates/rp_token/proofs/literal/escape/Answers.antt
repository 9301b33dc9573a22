use Rattle.std.proofs.Common.{◌≡◌, ◌∙◌, ◌<◌, ◌==◌, refl, sym, ap, rules, arith, chars, length, drop, Some, None, [], ◌∷◌}
use Rattle.std.specs.Map.{lookup}
use Rattle.std.proofs.lemmas.List.{length-drop}
use Rattle.rp_token.specs.Characters.{first, line_end_length}
use Rattle.rp_token.specs.Literal.{literal_behind, with_front, plain_escapes, numbered_escapes}
use Rattle.rp_token.proofs.Texts.{no_chars, not_empty}
use Rattle.rp_token.proofs.Literals.{drop-suc, escape-bad, escape-ended, escape-numbered}
use Rattle.rp_base.proofs.CallerLemmas.{some_chars}
use Rattle.rp_token.proofs.literal.escape.Goals as goal

pub returns-then-is_empty-clause-meaning : goal.returns-then-is_empty-clause-meaning
returns-then-is_empty-clause-meaning c = λ quotes. escape-ended quotes _ (no_chars c.args.text.now (search rules))

pub returns-in_default-digits_of_escape-clause-meaning : goal.returns-in_default-digits_of_escape-clause-meaning
returns-in_default-digits_of_escape-clause-meaning c =
    let plain : line_end_length (chars c.args.text.now) ≡ 0 = search rules in
    let letter : lookup (λ d. d == first (chars c.args.text.now)) plain_escapes ≡ None = rw (← c.first-letter.ensures) (sym c.plain_escape.ensures ∙ c.in_default.is) in
    let digits : lookup (λ d. d == first (chars c.args.text.now)) numbered_escapes ≡ None = rw (← c.first-letter.ensures) (sym c.digits_of_escape.ensures ∙ c.in_default-digits_of_escape.is) in
    λ quotes. escape-bad quotes (chars c.args.text.now) (some_chars c.args.text.now c.utf8.text (search rules)) plain letter digits

pub returns-in-Some-numbered-clause-meaning : goal.returns-in-Some-numbered-clause-meaning
returns-in-Some-numbered-clause-meaning c =
    let cs = chars c.args.text.now in
    let count = c.in-Some-digits_of_escape.count in
    let plain : line_end_length cs ≡ 0 = search rules in
    let letter : lookup (λ d. d == first cs) plain_escapes ≡ None = rw (← c.first-letter.ensures) (sym c.plain_escape.ensures ∙ c.in_default.is) in
    let digits : lookup (λ d. d == first cs) numbered_escapes ≡ Some count = rw (← c.first-letter.ensures) (sym c.digits_of_escape.ensures ∙ c.in-Some-digits_of_escape.is) in
    let number = rw c.behind-rest.ensures at c.in-Some-numbered.ensures.meaning.0 in
    let rest = drop-suc count cs ∙ ap (drop count) (sym c.behind-rest.ensures) ∙ sym c.in-Some-numbered.ensures.meaning.1 in
    λ quotes. escape-numbered quotes cs count (some_chars c.args.text.now c.utf8.text (not_empty _ _ c.is_empty.ensures c.if-is_empty.false)) plain letter digits ∙ rw number (ap (λ ds. with_front (c.in-Some-numbered.letter ∷ []) 0 (literal_behind quotes 0 ds)) rest)

pub returns-in-Some-numbered-clause-rest : goal.returns-in-Some-numbered-clause-rest
returns-in-Some-numbered-clause-rest c =
    let word : 0 < length c.args.text.now = not_empty _ _ c.is_empty.ensures c.if-is_empty.false in
    let some = some_chars c.args.text.now c.utf8.text word in
    let count = c.in-Some-digits_of_escape.count in
    let rest = ap length (c.in-Some-numbered.ensures.meaning.1 ∙ ap (drop count) c.behind-rest.ensures) in
    (c.in-Some-numbered.ensures.text, omega (arith, rest, length-drop count (drop 1 (chars c.args.text.now)), length-drop 1 (chars c.args.text.now)))

pub returns-in-None-clause-meaning : goal.returns-in-None-clause-meaning
returns-in-None-clause-meaning c =
    let cs = chars c.args.text.now in
    let count = c.in-Some-digits_of_escape.count in
    let plain : line_end_length cs ≡ 0 = search rules in
    let letter : lookup (λ d. d == first cs) plain_escapes ≡ None = rw (← c.first-letter.ensures) (sym c.plain_escape.ensures ∙ c.in_default.is) in
    let digits : lookup (λ d. d == first cs) numbered_escapes ≡ Some count = rw (← c.first-letter.ensures) (sym c.digits_of_escape.ensures ∙ c.in-Some-digits_of_escape.is) in
    let number = rw c.behind-rest.ensures at c.in-None.ensures.meaning in
    λ quotes. escape-numbered quotes cs count (some_chars c.args.text.now c.utf8.text (not_empty _ _ c.is_empty.ensures c.if-is_empty.false)) plain letter digits ∙ rw number refl
