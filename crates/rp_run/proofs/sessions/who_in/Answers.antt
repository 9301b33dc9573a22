use Rattle.std.proofs.Common.{◌≡◌, ◌<◌, ◌-◌, ◌∙◌, ℕ, ap, arith, chars, get_or, length, sym}
use Rattle.std.proofs.lemmas.Str.{chars-nil}
use Rattle.rp_words.specs.declared.command.Pair.{Pair}
use Rattle.rp_run.proofs.Trails.{who-past, who-there}
use Rattle.rp_run.proofs.sessions.who_in.Goals as goal

pub returns-then-place-pairs : goal.returns-then-place-pairs
returns-then-place-pairs c =
    let pairs = c.args.pairs.now in
    let p = c.index-pairs-place.result in
    let place : c.saturating_sub-place.result ≡ c.args.session - 1 = omega arith in
    let inside : c.args.session - 1 < length pairs = omega arith in
    let is : p ≡ get_or pairs (c.args.session - 1) p =
    c.index-pairs-place.is ∙ ap (λ (n : ℕ). get_or pairs n p) place in
    let read = ap (λ (q : Pair). q.who) c.index-pairs-place.is in
    let shown = c.as_str.ensures in
    let its : chars c.as_str.result.now ≡ p.who = cc in
    its ∙ who-there pairs c.args.session p inside is

pub returns-else-place-pairs : goal.returns-else-place-pairs
returns-else-place-pairs c = chars-nil ∙ who-past c.args.pairs.now c.args.session (omega arith)
