use Rattle.std.proofs.Common.{◌≡◌, ◌∙◌, sym, ap, chars, true, false, Some}
use Rattle.rp_base.specs.Keyword.{is_keyword}
use Rattle.rp_base.specs.Identifier.{identifier_of}
use Rattle.rp_base.specs.Names.{with_word, with_words}
use Rattle.rp_token.specs.Form.{name}
use Rattle.rp_token.specs.WordSteps.{form_words}
use Rattle.rp_token.proofs.Rules.{held_among, word_form-name, word_form-refused}
use Rattle.rp_base.proofs.CallerLemmas.{is_keyword-chars}
use Rattle.rp_token.proofs.word.name_of_form.Goals as goal

pub returns-then-is_keyword-clause-form : goal.returns-then-is_keyword-clause-form
returns-then-is_keyword-clause-form c =
    let word = chars c.args.word.now in
    let is : identifier_of word ≡ Some c.in-Some.form = sym c.in_ok-form.ensures.form ∙ c.in-Some.is in
    let refused : is_keyword c.in-Some.form ≡ true = ap is_keyword (sym c.as_str.ensures) ∙ sym (is_keyword-chars c.as_str.result.now c.as_str.utf8) ∙ sym c.is_keyword.ensures ∙ c.if-is_keyword.true in
    λ more. sym (word_form-refused word c.in-Some.form c.requires is refused)

pub returns-clause-form : goal.returns-clause-form
returns-clause-form c =
    let word = chars c.args.word.now in
    let is : identifier_of word ≡ Some c.in-Some.form = sym c.in_ok-form.ensures.form ∙ c.in-Some.is in
    let other : is_keyword c.in-Some.form ≡ false = ap is_keyword (sym c.as_str.ensures) ∙ sym (is_keyword-chars c.as_str.result.now c.as_str.utf8) ∙ sym c.is_keyword.ensures ∙ c.if-is_keyword.false in
    λ more. ap (λ w. Some (name w)) (held_among c.intern.new.self more c.in_ok-name.name.0 _ c.in_ok-name.ensures.place ∙ c.as_str-2.ensures) ∙ sym (word_form-name word c.in-Some.form c.requires is other)

pub returns-then-is_keyword-clause-words : goal.returns-then-is_keyword-clause-words
returns-then-is_keyword-clause-words c =
    let word = chars c.args.word.now in
    let is : identifier_of word ≡ Some c.in-Some.form = sym c.in_ok-form.ensures.form ∙ c.in-Some.is in
    let refused : is_keyword c.in-Some.form ≡ true = ap is_keyword (sym c.as_str.ensures) ∙ sym (is_keyword-chars c.as_str.result.now c.as_str.utf8) ∙ sym c.is_keyword.ensures ∙ c.if-is_keyword.true in
    ap (λ form. with_words c.args.names.now (form_words form)) (sym (word_form-refused word c.in-Some.form c.requires is refused))

pub returns-clause-words : goal.returns-clause-words
returns-clause-words c =
    let word = chars c.args.word.now in
    let is : identifier_of word ≡ Some c.in-Some.form = sym c.in_ok-form.ensures.form ∙ c.in-Some.is in
    let other : is_keyword c.in-Some.form ≡ false = ap is_keyword (sym c.as_str.ensures) ∙ sym (is_keyword-chars c.as_str.result.now c.as_str.utf8) ∙ sym c.is_keyword.ensures ∙ c.if-is_keyword.false in
    c.in_ok-name.ensures.words ∙ ap (with_word c.args.names.now) c.as_str-2.ensures
    ∙ ap (λ form. with_words c.args.names.now (form_words form)) (sym (word_form-name word c.in-Some.form c.requires is other))
