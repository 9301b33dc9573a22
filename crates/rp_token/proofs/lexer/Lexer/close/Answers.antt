use Rattle.std.proofs.Common.{◌∙◌, ◌<◌, ℕ, List, ap, arith, chars, length, []}
use Rattle.std.proofs.lemmas.List.{length-drop}
use Rattle.rp_token.specs.Characters.{first}
use Rattle.rp_token.specs.Form.{dedent}
use Rattle.rp_token.specs.Lexer.{state}
use Rattle.rp_token.specs.Tokens.{State, with_token}
use Rattle.rp_token.proofs.Columns.{closed_to-turn, some_column}
use Rattle.rp_token.proofs.lexer.Lexer.close.Goals as goal

pub columns-smaller : goal.columns-smaller
columns-smaller c =
    let old = c.columns.self in
    let above : c.args.column < first old.columns = rw c.top.ensures at c.columns-test.true in
    let some = some_column c.args.column old.columns above in
    let less = ap length (ap (λ (s : State). s.columns) (c.in_ok-push.ensures []) ∙ c.pop.ensures) ∙ length-drop 1 old.columns in
    omega arith

pub columns-preserved : goal.columns-preserved
columns-preserved c =
    let old = c.columns.self in
    let rest = chars c.args.rest.now in
    let above : c.args.column < first old.columns = rw c.top.ensures at c.columns-test.true in
    λ names.
    let is = c.in_ok-push.ensures names ∙ ap (λ (columns : List ℕ). with_token dedent rest rest c.args.line (record (state names old) { columns = columns })) c.pop.ensures in
    closed_to-turn c.args.column rest c.args.line old.columns (state names old) (state names c.push.new.self) above is ∙ c.columns.invariant names
