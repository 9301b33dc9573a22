use Rattle.std.proofs.Common.{◌≡◌, ◌∙◌, chars, map, sym, Ok}
use Rattle.rp_base.specs.Names.{with_words}
use Rattle.rp_base.proofs.CallerLemmas.{with_words-then}
use Rattle.rp_token.specs.NameWords.{name_words, words_of}
use Rattle.rp_token.specs.Tokens.{tokens_of}
use Rattle.rp_token.specs.View.{item_view}
use Rattle.rp_more.specs.Expanded.{expanded}
use Rattle.rp_program.specs.ProgramWords.{item_words}
use Rattle.rp_program.proofs.Programs.{is_read}
use Rattle.rp_program.proofs.program.text_tokens.Goals as goal

pub returns-clause-read : goal.returns-clause-read
returns-clause-read c =
    is_read c.args.text.now c.tokens.new.names c.expand.new.names c.in_ok-given.given.items
    c.in_ok-expanded.expanded.items c.utf8.text c.hold_each_once.ensures c.in_ok-expanded.ensures.held
    c.in_ok-given.ensures.tokens c.in_ok-expanded.ensures.expanded

pub returns-clause-words : goal.returns-clause-words
returns-clause-words c =
    let n0 = c.args.names.now in
    let n1 = c.tokens.new.names in
    let n2 = c.expand.new.names in
    let items = map (item_view n1) c.in_ok-given.given.items in
    let read : tokens_of (chars c.args.text.now) ≡ Ok items = c.in_ok-given.ensures.tokens in
    let given : n1 ≡ with_words n0 (name_words items) =
    c.in_ok-given.ensures.words ∙ (λ k. with_words n0 (words_of (read k))) in
    let more : n2 ≡ with_words n1 (words_of (expanded items)) = c.in_ok-expanded.ensures.words in
    with_words-then n0 n1 n2 (name_words items) (words_of (expanded items)) given more
    ∙ (λ k. with_words n0 (item_words (sym read k)))
