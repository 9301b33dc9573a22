use Rattle.std.proofs.Common.{◌≡◌, ◌∙◌, sym, ap, arith, [], length, Ok, Err}
use Rattle.rp_token.specs.Lexer.{state}
use Rattle.rp_token.specs.Tokens.{behind_mark, bracketed}
use Rattle.rp_token.proofs.Rules.{Goes-fault, IsMark-text, behind_mark-fault, behind_mark-taken, bracketed-left, err_handed}
use Rattle.rp_token.specs.declared.fault.TokenFault.{TokenFault}
use Rattle.rp_token.proofs.lexer.Lexer.mark.Goals as goal

pub take-requires-clause-rest : goal.take-requires-clause-rest
take-requires-clause-rest c =
    let less = IsMark-text _ _ c.in-Some.kind c.in-Some.rest.now c.in-Some.ensures in
    let left = ap length (bracketed-left c.first.result (state [] c.args.self.now) (state [] c.bracket.new.self) (c.in_ok-bracket-in-Some.ensures [])) in
    omega arith

pub returns-in_ok-take-in-Some : goal.returns-in_ok-take-in-Some
returns-in_ok-take-in-Some c = λ names.
    let s = state names c.args.self.now in
    let t = state names c.bracket.new.self in
    let bracket = rw c.first.ensures at c.in_ok-bracket-in-Some.ensures names in
    behind_mark-taken names s t c.in-Some.kind c.in-Some.rest.now c.in-Some.ensures bracket ∙ ap Ok (sym (c.in_ok-take-in-Some.ensures names))

pub returns-in_err-bracket-in-Some : goal.returns-in_err-bracket-in-Some
returns-in_err-bracket-in-Some c =
    let old = c.args.self.now in
    let f = c.in_err-bracket-in-Some.field-0.0 in
    let is = err_handed c.from_residual.result f c.from_residual.ensures.1 in
    λ names.
    let refused = λ (g : TokenFault) (bracket : bracketed c.first.result (state names old) ≡ Err g).
    behind_mark-fault (state names old) c.in-Some.kind c.in-Some.rest.now c.in-Some.ensures g (rw c.first.ensures at bracket) in
    rw is (Goes-fault names behind_mark (bracketed c.first.result) f old c.bracket.new.self c.bracket.new.self refused (c.in_err-bracket-in-Some.ensures names))
