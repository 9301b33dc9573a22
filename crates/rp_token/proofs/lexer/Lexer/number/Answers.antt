use Rattle.std.proofs.Common.{◌∙◌, arith, sym, ap, chars, Some, None, Ok, option_map}
use Rattle.rp_token.specs.Form.{number}
use Rattle.rp_token.specs.Lexer.{state}
use Rattle.rp_token.specs.Number.{number_of}
use Rattle.rp_token.specs.Tokens.{taken}
use Rattle.rp_token.specs.View.{form_view}
use Rattle.rp_token.specs.declared.token.TokenKind.TheVariants as kind
use Rattle.rp_token.proofs.Rules.{behind_number-taken, number_found, number_limit, number_none}
use Rattle.std.proofs.lemmas.Int.{to_z_pos}
use mir.Syntax.{w64}
use mir.Val.{of_z, to_z}
use Rattle.rp_token.proofs.lexer.Lexer.number.Goals as goal

pub returns-in_ok-take-in-Some : goal.returns-in_ok-take-in-Some
returns-in_ok-take-in-Some c =
    let word = chars c.split.result.0.now in
    let rest = chars c.split.result.1.now in
    let (n, found, value) = number_found (number_of word) c.in-Some.number c.in-Some.ensures in
    let most = number_limit word n found in
    λ names.
    behind_number-taken (state names c.args.self.now) word rest (Some (number n)) c.split.ensures.run c.split.ensures.rest (ap (option_map number) found)
    ∙ ap Ok (sym (c.in_ok-take-in-Some.ensures names ∙ ap (λ z. taken (form_view names (kind.Int (to_z w64 (of_z w64 z)))) rest (state names c.args.self.now)) value
    ∙ ap (λ z. taken (form_view names (kind.Int z)) rest (state names c.args.self.now)) (to_z_pos w64 n (omega arith))))

pub returns-in-None : goal.returns-in-None
returns-in-None c =
    let word = chars c.split.result.0.now in
    let rest = chars c.split.result.1.now in
    λ names. behind_number-taken (state names c.args.self.now) word rest None c.split.ensures.run c.split.ensures.rest (ap (option_map number) (number_none (number_of word) c.in-None.ensures))
