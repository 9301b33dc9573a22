use Rattle.std.proofs.Common.{◌≡◌, ◌∙◌, rules, ap, true, false, drop, chars}
use Rattle.rp_token.specs.Characters.{first}
use Rattle.rp_token.proofs.Literals.{starts_with-one, starts_with-three, drop-three}
use Rattle.rp_token.proofs.literal.Quotes.strip.Goals as goal

pub returns-then-not-self-clause-meaning : goal.returns-then-not-self-clause-meaning
returns-then-not-self-clause-meaning c =
    let one : c.args.self.three ≡ false = search rules in
    let is : first (chars c.args.text.now) ≡ c.args.self.quote = search rules in
    rw one (starts_with-one _ _ c.requires is, c.behind-second.ensures)

pub returns-then-first-self-3-clause-meaning : goal.returns-then-first-self-3-clause-meaning
returns-then-first-self-3-clause-meaning c =
    let many : c.args.self.three ≡ true = search rules in
    let cs = chars c.args.text.now in
    let is : first cs ≡ c.args.self.quote = search rules in
    let second : first (drop 1 cs) ≡ c.args.self.quote = rw (← c.behind-second.ensures) (search rules) in
    let third : first (drop 1 (drop 1 cs)) ≡ c.args.self.quote = rw (← c.behind-second.ensures, ← c.behind-third.ensures) (search rules) in
    rw many (starts_with-three _ _ c.requires is second third, c.behind.ensures ∙ ap (drop 1) (c.behind-third.ensures ∙ ap (drop 1) c.behind-second.ensures) ∙ drop-three cs)
