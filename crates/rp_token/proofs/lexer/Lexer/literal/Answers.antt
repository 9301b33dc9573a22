use Rattle.std.proofs.Common.{◌∙◌, [], ap, arith, chars, length}
use Rattle.std.proofs.lemmas.List.{length-drop}
use Rattle.rp_token.specs.Tokens.{State, opening}
use Rattle.rp_token.proofs.lexer.Lexer.literal.Goals as goal

pub overflow_add-self : goal.overflow_add-self
overflow_add-self c =
    let old = c.args.self.now in
    let counted = old.counted in
    let lines = (rw c.in-Closed.is at c.in_ok-text.ensures.rest).1 in
    let line = ap (λ (s : State). s.line) (c.in_ok-take-in-Closed.ensures []) in
    let less = ap length c.open_quotes.ensures.rest ∙ length-drop (length (opening (chars old.rest.now))) (chars old.rest.now) in
    omega arith

pub invariant_of-self : goal.invariant_of-self
invariant_of-self c =
    let old = c.args.self.now in
    let counted = old.counted in
    let lines = (rw c.in-Closed.is at c.in_ok-text.ensures.rest).1 in
    let line = ap (λ (s : State). s.line) (c.in_ok-take-in-Closed.ensures []) in
    let left = ap (λ (s : State). length s.left) (c.in_ok-take-in-Closed.ensures []) in
    let less = ap length c.open_quotes.ensures.rest ∙ length-drop (length (opening (chars old.rest.now))) (chars old.rest.now) in
    record { is_text = c.take.new.self.is_text; counted = omega arith }
