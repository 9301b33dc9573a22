use Rattle.std.proofs.Common.{◌∙◌, sym, ap, chars, length, ◌==◌}
use Rattle.std.specs.List.{list_any}
use Rattle.rp_token.specs.Lexer.{state}
use Rattle.rp_token.specs.Tokens.{begun, indented}
use Rattle.rp_token.proofs.Rules.{Goes-on, begun-column, blanks_length}
use Rattle.rp_token.proofs.lexer.Lexer.begin_line.Goals as goal

pub returns : goal.returns
returns c =
    let old = c.args.self.now in
    let rest = chars c.split.result.1.now in
    let column = blanks_length c.split.result.0.now (chars old.rest.now) c.split.ensures.text c.split.ensures.run in
    let some = sym c.is_empty_line.ensures ∙ c.if-is_empty_line.false in
    let plain = ap (list_any (λ c. c == 9)) (sym c.split.ensures.run) ∙ sym c.has_tab.ensures ∙ c.if-has_tab.false in
    λ names.
    Goes-on names begun (indented (length c.split.result.0.now) rest) c.indent.result old old c.indent.new.self
    (begun-column (state names old) rest (length c.split.result.0.now) c.split.ensures.rest column some plain) (c.indent.ensures names)
