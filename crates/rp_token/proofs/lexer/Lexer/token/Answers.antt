use Rattle.std.proofs.Common.{◌∙◌, ◌++◌, ◌==◌, ◌||◌, chars, sym, ap}
use Rattle.std.specs.Char.{is_ascii_digit}
use Rattle.rp_base.specs.Identifier.{is_start}
use Rattle.rp_token.specs.Lexer.{state}
use Rattle.rp_token.specs.Tokens.{behind_literal, behind_mark, behind_number, behind_token, behind_word}
use Rattle.rp_token.proofs.NameWords.{unadded}
use Rattle.rp_token.proofs.Rules.{Goes-on, behind_token-literal, behind_token-mark, behind_token-number, behind_token-word}
use Rattle.rp_token.proofs.lexer.Lexer.token.Goals as goal

pub returns-then-is_start-clause-goes : goal.returns-then-is_start-clause-goes
returns-then-is_start-clause-goes c =
    let old = c.args.self.now in
    let starts = ap is_start (sym c.first-letter.ensures) ∙ sym c.is_start.ensures ∙ c.if-is_start.true in
    λ more. Goes-on (c.word.new.names ++ more) behind_token behind_word c.word.result old old c.word.new.self (behind_token-word (state (c.word.new.names ++ more) old) starts) (c.word.ensures.goes more)

pub returns-then-is_ascii_digit-clause-goes : goal.returns-then-is_ascii_digit-clause-goes
returns-then-is_ascii_digit-clause-goes c =
    let old = c.args.self.now in
    let starts = ap is_start (sym c.first-letter.ensures) ∙ sym c.is_start.ensures ∙ c.if-is_start.false in
    let digit = ap is_ascii_digit (sym c.first-letter.ensures) ∙ sym c.is_ascii_digit.ensures.value ∙ c.if-is_ascii_digit.true in
    λ more. Goes-on (c.args.names.now ++ more) behind_token behind_number c.number.result old old c.number.new.self (behind_token-number (state (c.args.names.now ++ more) old) starts digit) (c.number.ensures (c.args.names.now ++ more))

pub returns-then-is_quote-clause-goes : goal.returns-then-is_quote-clause-goes
returns-then-is_quote-clause-goes c =
    let old = c.args.self.now in
    let starts = ap is_start (sym c.first-letter.ensures) ∙ sym c.is_start.ensures ∙ c.if-is_start.false in
    let digit = ap is_ascii_digit (sym c.first-letter.ensures) ∙ sym c.is_ascii_digit.ensures.value ∙ c.if-is_ascii_digit.false in
    let quote = ap (λ n. (n == 39) || (n == 34)) (sym c.first-letter.ensures) ∙ sym c.is_quote.ensures ∙ c.if-is_quote.true in
    λ more. Goes-on (c.args.names.now ++ more) behind_token behind_literal c.literal.result old old c.literal.new.self (behind_token-literal (state (c.args.names.now ++ more) old) starts digit quote) (c.literal.ensures (c.args.names.now ++ more))

pub returns-clause-goes : goal.returns-clause-goes
returns-clause-goes c =
    let old = c.args.self.now in
    let starts = ap is_start (sym c.first-letter.ensures) ∙ sym c.is_start.ensures ∙ c.if-is_start.false in
    let digit = ap is_ascii_digit (sym c.first-letter.ensures) ∙ sym c.is_ascii_digit.ensures.value ∙ c.if-is_ascii_digit.false in
    let quote = ap (λ n. (n == 39) || (n == 34)) (sym c.first-letter.ensures) ∙ sym c.is_quote.ensures ∙ c.if-is_quote.false in
    λ more. Goes-on (c.args.names.now ++ more) behind_token behind_mark c.mark.result old old c.mark.new.self (behind_token-mark (state (c.args.names.now ++ more) old) starts digit quote) (c.mark.ensures (c.args.names.now ++ more))

pub returns-then-is_ascii_digit-clause-words : goal.returns-then-is_ascii_digit-clause-words
returns-then-is_ascii_digit-clause-words c =
    let starts = ap is_start (sym c.first-letter.ensures) ∙ sym c.is_start.ensures ∙ c.if-is_start.false in
    unadded c.args.names.now (chars c.args.self.now.rest.now) c.number.result starts

pub returns-then-is_quote-clause-words : goal.returns-then-is_quote-clause-words
returns-then-is_quote-clause-words c =
    let starts = ap is_start (sym c.first-letter.ensures) ∙ sym c.is_start.ensures ∙ c.if-is_start.false in
    unadded c.args.names.now (chars c.args.self.now.rest.now) c.literal.result starts

pub returns-clause-words : goal.returns-clause-words
returns-clause-words c =
    let starts = ap is_start (sym c.first-letter.ensures) ∙ sym c.is_start.ensures ∙ c.if-is_start.false in
    unadded c.args.names.now (chars c.args.self.now.rest.now) c.mark.result starts
