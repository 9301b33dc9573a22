use Rattle.std.proofs.Common.{◌∙◌, [], ap, arith, chars, length}
use Rattle.std.proofs.lemmas.List.{length-drop}
use Rattle.rp_token.specs.Characters.{line_end_length}
use Rattle.rp_token.specs.Tokens.{State}
use Rattle.rp_token.proofs.Rules.{line_end-some}
use Rattle.rp_token.proofs.lexer.Lexer.end_line.Goals as goal

pub overflow_add-self-in-Inside : goal.overflow_add-self-in-Inside
overflow_add-self-in-Inside c =
    let old = c.args.self.now in
    let counted = old.counted in
    let line = ap (λ (s : State). s.line) (c.in_ok-take.ensures []) in
    let some = line_end-some (chars old.rest.now) c.requires in
    omega arith

pub invariant_of-self-in-Inside : goal.invariant_of-self-in-Inside
invariant_of-self-in-Inside c =
    let old = c.args.self.now in
    let counted = old.counted in
    let ends = c.requires in
    let line = ap (λ (s : State). s.line) (c.in_ok-take.ensures []) in
    let left = ap (λ (s : State). length s.left) (c.in_ok-take.ensures []) in
    let some = line_end-some (chars old.rest.now) c.requires in
    let less = ap length c.behind_line_end-rest.ensures ∙ length-drop (line_end_length (chars old.rest.now)) (chars old.rest.now) in
    record { is_text = c.take.new.self.is_text; counted = omega arith }
