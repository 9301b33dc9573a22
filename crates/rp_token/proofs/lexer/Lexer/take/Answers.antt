use Rattle.std.proofs.Common.{[], ap, arith}
use Rattle.std.proofs.lemmas.Grind.{merely}
use Rattle.rp_token.specs.Tokens.{State}
use Rattle.rp_token.proofs.lexer.Lexer.take.Goals as goal

pub invariant_of-self : goal.invariant_of-self
invariant_of-self c =
    let line = ap (λ (s : State). s.line) (c.in_ok-push.ensures []) in
    let counted = c.args.self.now.counted in
    let less = c.requires.rest in
    let text = c.requires.text in
    record { is_text = merely c.requires.text; counted = omega arith }
