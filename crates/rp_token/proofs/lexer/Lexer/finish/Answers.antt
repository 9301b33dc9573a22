use Rattle.std.proofs.Common.{◌≡◌, ◌∙◌, [], List, sym, ap, rules, true, false, nat_lt, length, Ok, Result, map}
use Rattle.std.proofs.lemmas.Str.{chars-nil}
use Rattle.rp_token.specs.Form.{Item, end_of_text, newline}
use Rattle.rp_token.specs.declared.fault.TokenFault.{TokenFault}
use Rattle.rp_token.specs.Lexer.{state}
use Rattle.rp_token.specs.Tokens.{State, closed_to, ending, is_inside, with_token}
use Rattle.rp_token.specs.View.{item_view}
use Rattle.rp_token.proofs.Rules.{ending-inside, ending-outside}
use Rattle.rp_token.proofs.lexer.Lexer.finish.Goals as goal
use Rattle.rp_token.proofs.lexer.Lexer.finish.Goals.{in-Inside+in_ok-push, in_default}

pub returns : goal.returns
returns c =
    let old = c.args.self in
    let none : nat_lt 0 (length old.brackets) ≡ false = search rules in
    λ names.
    let s = state names old in
    let closed = state names c.close.new.self in
    let shown : State → Result (List Item) TokenFault = λ t. Ok t.items in
    let end = ap shown (sym (c.in_ok-push-2.ensures names ∙ (λ k. with_token end_of_text (chars-nil k) (chars-nil k) old.line closed))) in
    elim c.match-self.branch as (λ _. ending s ≡ Ok (map (item_view names) c.push-2.new.self.tokens.items)) [
      | in-Inside+in_ok-push w ↦
          let ended = state names c.match-self.self in
          let is : ended ≡ with_token newline [] [] old.line s = (λ k. state names (w.self-is k)) ∙ w.in_ok-push.ensures names ∙ (λ k. with_token newline (chars-nil k) (chars-nil k) old.line s) in
          let columns = ap (λ (t : State). t.columns) is in
          let shut = c.in_ok-close.ensures names ∙ (λ k. closed_to 0 (chars-nil k) old.line (columns k) ended) in
          let inside : is_inside old.stage ≡ true = ap is_inside w.in-Inside.is in
          ending-inside s ended closed none inside is shut ∙ end
      | in_default w ↦
          let shut = c.in_ok-close.ensures names ∙ (λ k. closed_to 0 (chars-nil k) old.line ((w.self-is k).columns) (state names (w.self-is k))) in
          let outside : is_inside old.stage ≡ false = search rules in
          ending-outside s closed none outside shut ∙ end
    ]
