use Rattle.std.proofs.Common.{◌≡◌, ◌++◌, [], ap, subst, rules, true, false, OnOk}
use Rattle.rp_base.specs.Names.{with_words}
use Rattle.rp_token.specs.Lexer.{state}
use Rattle.rp_token.specs.Tokens.{begun, in_line, is_fresh, step}
use Rattle.rp_token.specs.WordSteps.{front_words}
use Rattle.rp_token.proofs.NameWords.{begun-left}
use Rattle.rp_token.proofs.Rules.{Goes-fault, Goes-on, err_handed, step-fault, step-fresh, step-within}
use Rattle.rp_token.proofs.lexer.Lexer.step.Goals as goal

pub returns-in_err-begin_line-in-Fresh-clause-goes : goal.returns-in_err-begin_line-in-Fresh-clause-goes
returns-in_err-begin_line-in-Fresh-clause-goes c =
    let old = c.args.self.now in
    let f = c.in_err-begin_line-in-Fresh.field-0.0 in
    let is = err_handed c.from_residual.result f c.from_residual.ensures.1 in
    let fresh : is_fresh old.stage ≡ true = ap is_fresh c.in-Fresh.is in
    λ more.
    let names = c.args.names.now ++ more in
    rw is (Goes-fault names step begun f old c.begin_line.new.self c.begin_line.new.self (step-fault (state names old) fresh) (c.in_err-begin_line-in-Fresh.ensures names))

pub returns-in_ok-begin_line-in-Fresh-clause-goes : goal.returns-in_ok-begin_line-in-Fresh-clause-goes
returns-in_ok-begin_line-in-Fresh-clause-goes c =
    let old = c.args.self.now in
    let mid = c.begin_line.new.self in
    let fresh : is_fresh old.stage ≡ true = ap is_fresh c.in-Fresh.is in
    λ more.
    let names = c.in_line.new.names ++ more in
    Goes-on names step in_line c.in_line.result old mid c.in_line.new.self (step-fresh (state names old) (state names mid) fresh (c.in_ok-begin_line-in-Fresh.ensures names)) (c.in_line.ensures.goes more)

pub returns-in_default : goal.returns-in_default
returns-in_default c =
    let old = c.args.self.now in
    let within : is_fresh old.stage ≡ false = search rules in
    record {
      goes = λ more.
          let names = c.in_line-in_default.new.names ++ more in
          Goes-on names step in_line c.in_line-in_default.result old old c.in_line-in_default.new.self (step-within (state names old) within) (c.in_line-in_default.ensures.goes more);
      grown = c.in_line-in_default.ensures.grown;
      words = c.in_line-in_default.ensures.words;
    }

pub returns-in_ok-begin_line-in-Fresh-clause-words : goal.returns-in_ok-begin_line-in-Fresh-clause-words
returns-in_ok-begin_line-in-Fresh-clause-words c =
    let left = begun-left (state [] c.args.self.now) (state [] c.begin_line.new.self) (c.in_ok-begin_line-in-Fresh.ensures []) in
    subst (λ cs. OnOk c.in_line.result (c.in_line.new.names ≡ with_words c.args.names.now (front_words cs))) left c.in_line.ensures.words
