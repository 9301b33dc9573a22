use Rattle.std.proofs.Common.{◌≡◌, ◌∙◌, ◌++◌, sym, ap, chars, Some, None, Ok, option_map}
use Rattle.rp_base.specs.Names.{with_words}
use Rattle.rp_token.specs.Lexer.{state}
use Rattle.rp_token.specs.Tokens.{word_form}
use Rattle.rp_token.specs.View.{form_view}
use Rattle.rp_token.specs.WordSteps.{form_words}
use Rattle.rp_token.proofs.NameWords.{front_words-word}
use Rattle.rp_token.proofs.Rules.{behind_word-taken}
use Rattle.rp_token.proofs.Words.{is_identifier-run}
use Rattle.rp_token.proofs.lexer.Lexer.word.Goals as goal

pub word_kind-requires : goal.word_kind-requires
word_kind-requires c = rw c.split.ensures.run (is_identifier-run (chars c.args.self.now.rest.now) c.requires)

pub returns-in_ok-take-in-Some-clause-goes : goal.returns-in_ok-take-in-Some-clause-goes
returns-in_ok-take-in-Some-clause-goes c =
    let word = chars c.split.result.0.now in
    let rest = chars c.split.result.1.now in
    λ more.
    let names = c.word_kind.new.names ++ more in
    let form : word_form word ≡ Some (form_view names c.in-Some.kind) = sym (c.in_ok-kind.ensures.form more) ∙ ap (option_map (form_view names)) c.in-Some.is in
    behind_word-taken (state names c.args.self.now) word rest (Some (form_view names c.in-Some.kind)) c.split.ensures.run c.split.ensures.rest form
    ∙ ap Ok (sym (c.in_ok-take-in-Some.ensures names))

pub returns-in-None-clause-goes : goal.returns-in-None-clause-goes
returns-in-None-clause-goes c =
    let word = chars c.split.result.0.now in
    let rest = chars c.split.result.1.now in
    λ more.
    let names = c.word_kind.new.names ++ more in
    let form : word_form word ≡ None = sym (c.in_ok-kind.ensures.form more) ∙ ap (option_map (form_view names)) c.in-None.is in
    behind_word-taken (state names c.args.self.now) word rest None c.split.ensures.run c.split.ensures.rest form

pub returns-in_ok-take-in-Some-clause-words : goal.returns-in_ok-take-in-Some-clause-words
returns-in_ok-take-in-Some-clause-words c =
    let old = c.args.names.now in
    c.in_ok-kind.ensures.words ∙ ap (λ word. with_words old (form_words (word_form word))) c.split.ensures.run
    ∙ ap (with_words old) (sym (front_words-word (chars c.args.self.now.rest.now) c.requires))
