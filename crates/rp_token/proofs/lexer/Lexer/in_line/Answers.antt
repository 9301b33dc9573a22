use Rattle.std.proofs.Common.{◌≡◌, ◌∙◌, ◌++◌, ◌==◌, sym, refl, ap, arith, rules, true, false, chars, Ok}
use Rattle.std.proofs.lemmas.Grind.{common_steps}
use Rattle.rp_token.specs.Characters.{first, is_blank, is_line_end}
use Rattle.rp_token.specs.Lexer.{state}
use Rattle.rp_token.specs.Tokens.{behind_line_end, behind_token, in_line, joined}
use Rattle.rp_token.proofs.NameWords.{blank_starts-none, unadded, unadded-at}
use Rattle.rp_token.proofs.Rules.{Goes-on, in_line-backslash, in_line-cr, in_line-lf, in_line-token}
use Rattle.rp_token.proofs.lexer.Lexer.in_line.Goals as goal

pub returns-in-10-clause-goes : goal.returns-in-10-clause-goes
returns-in-10-clause-goes c = λ more.
    let names = c.args.names.now ++ more in
    Goes-on names in_line behind_line_end c.end_line.result c.args.self.now c.args.self.now c.end_line.new.self (in_line-lf (state names c.args.self.now) (sym c.first.ensures ∙ c.in-10.is)) (c.end_line.ensures names)

pub returns-in-13-clause-goes : goal.returns-in-13-clause-goes
returns-in-13-clause-goes c = λ more.
    let names = c.args.names.now ++ more in
    Goes-on names in_line behind_line_end c.end_line-in-13.result c.args.self.now c.args.self.now c.end_line-in-13.new.self (in_line-cr (state names c.args.self.now) (sym c.first.ensures ∙ c.in-13.is)) (c.end_line-in-13.ensures names)

pub returns-in-92-clause-goes : goal.returns-in-92-clause-goes
returns-in-92-clause-goes c = λ more.
    let names = c.args.names.now ++ more in
    Goes-on names in_line joined c.join.result c.args.self.now c.args.self.now c.join.new.self (in_line-backslash (state names c.args.self.now) (sym c.first.ensures ∙ c.in-92.is)) (c.join.ensures names)

pub returns-in_default-clause-goes : goal.returns-in_default-clause-goes
returns-in_default-clause-goes c =
    let cs = chars c.args.self.now.rest.now in
    let blank : is_blank (first cs) ≡ false = rw (← c.first.ensures) (search rules) in
    let comment : (first cs == 35) ≡ false = rw (← c.first.ensures) (search rules) in
    let end : is_line_end (first cs) ≡ false = rw (← c.first.ensures) (search rules) in
    let backslash : (first cs == 92) ≡ false = rw (← c.first.ensures) (search rules) in
    λ more.
    let names = c.token.new.names ++ more in
    Goes-on names in_line behind_token c.token.result c.args.self.now c.args.self.now c.token.new.self (in_line-token (state names c.args.self.now) blank comment end backslash) (c.token.ensures.goes more)

pub returns-in-32-clause-words : goal.returns-in-32-clause-words
returns-in-32-clause-words c =
    let blank : is_blank c.first.result ≡ true = first_of (search rules, grind (arith, common_steps)) in
    let cs = chars c.args.self.now.rest.now in
    unadded c.args.names.now cs (Ok tt) (blank_starts-none (first cs) (ap is_blank (sym c.first.ensures) ∙ blank))

pub returns-in-35-clause-words : goal.returns-in-35-clause-words
returns-in-35-clause-words c =
    unadded-at 35 c.args.names.now (chars c.args.self.now.rest.now) (Ok tt) (sym c.first.ensures ∙ c.in-35.is) (omega arith) refl refl

pub returns-in-10-clause-words : goal.returns-in-10-clause-words
returns-in-10-clause-words c =
    unadded-at 10 c.args.names.now (chars c.args.self.now.rest.now) c.end_line.result (sym c.first.ensures ∙ c.in-10.is) (omega arith) refl refl

pub returns-in-13-clause-words : goal.returns-in-13-clause-words
returns-in-13-clause-words c =
    unadded-at 13 c.args.names.now (chars c.args.self.now.rest.now) c.end_line-in-13.result (sym c.first.ensures ∙ c.in-13.is) (omega arith) refl refl

pub returns-in-92-clause-words : goal.returns-in-92-clause-words
returns-in-92-clause-words c =
    unadded-at 92 c.args.names.now (chars c.args.self.now.rest.now) c.join.result (sym c.first.ensures ∙ c.in-92.is) (omega arith) refl refl
