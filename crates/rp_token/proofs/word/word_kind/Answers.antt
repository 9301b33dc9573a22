use Rattle.std.proofs.Common.{◌∙◌, rules, sym, ap, chars, Some}
use Rattle.rp_base.specs.Names.{with_words}
use Rattle.rp_token.specs.Form.{name}
use Rattle.rp_token.specs.WordSteps.{form_words}
use Rattle.rp_token.proofs.NameWords.{word_form-keyword}
use Rattle.rp_token.proofs.Rules.{held_among, word_form-name}
use Rattle.rp_token.proofs.word.word_kind.Goals as goal

pub returns-clause-form : goal.returns-clause-form
returns-clause-form c =
    let word = chars c.args.word.now in
    λ more. ap (λ w. Some (name w)) (held_among c.intern.new.self more c.in_ok-name.name.0 _ c.in_ok-name.ensures.place)
    ∙ sym (word_form-name word word c.in_default.ensures (c.is_plain.ensures (search rules)) c.in_default.ensures)

pub returns-in-Some-clause-words : goal.returns-in-Some-clause-words
returns-in-Some-clause-words c =
    let word = chars c.args.word.now in
    ap (with_words c.args.names.now) (sym (word_form-keyword word c.in-Some.ensures.0))

pub returns-clause-words : goal.returns-clause-words
returns-clause-words c =
    let word = chars c.args.word.now in
    c.in_ok-name.ensures.words
    ∙ ap (λ form. with_words c.args.names.now (form_words form)) (sym (word_form-name word word c.in_default.ensures (c.is_plain.ensures (search rules)) c.in_default.ensures))
