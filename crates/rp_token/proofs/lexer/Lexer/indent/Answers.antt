use Rattle.std.proofs.Common.{◌≡◌, ◌∙◌, ◌==◌, ◌+◌, nat_lt, ap, arith, chars, false}
use Rattle.rp_token.specs.Characters.{first}
use Rattle.rp_token.specs.Lexer.{state}
use Rattle.rp_token.specs.Tokens.{closed_to}
use Rattle.std.proofs.lemmas.Bool.{le-ltb, ne_eqb}
use Rattle.rp_token.proofs.Rules.{indented-refused, joined_lines-le}
use Rattle.rp_token.proofs.lexer.Lexer.indent.Goals as goal

pub overflow_add-line : goal.overflow_add-line
overflow_add-line c =
    let lines = joined_lines-le 0 (chars c.args.rest.now) in
    let counted = c.args.self.now.counted in
    rw c.joined_lines.ensures (omega arith)

pub returns-then-top-column-2 : goal.returns-then-top-column-2
returns-then-top-column-2 c =
    let rest = chars c.args.rest.now in
    let line = ap (λ n. c.args.self.now.line + n) c.joined_lines.ensures in
    let below : nat_lt (first c.args.self.now.columns) c.args.column ≡ false = le-ltb _ _ (rw c.top.ensures at c.if-top-column.false) in
    let other : (first c.close.new.self.columns == c.args.column) ≡ false = ne_eqb _ _ (rw c.top-2.ensures at c.if-top-column-2.true) in
    λ names.
    indented-refused c.args.column rest (state names c.args.self.now) (state names c.close.new.self) below
    (c.in_ok-close.ensures names ∙ (λ k. closed_to c.args.column rest (line k) c.args.self.now.columns (state names c.args.self.now))) other
