use Rattle.std.proofs.Common.{Bool, ap, sym, ◌∙◌, is_some}
use Rattle.rp_ops.specs.Outcome.{gives}
use Rattle.rp_compare.proofs.Rounds.{looked-up}
use Rattle.rp_compare.proofs.Sought.{key-sought}
use Rattle.rp_base.proofs.CallerLemmas.{is_some-copied}
use Rattle.rp_compare.proofs.membership.has_key.Goals as goal

pub returns-in-Some : goal.returns-in-Some
returns-in-Some c =
    let found = ap is_some (looked-up c.args.entries.now c.in-Some.key c.get.result c.get.ensures.value) ∙ is_some-copied c.get.result ∙ sym c.is_some.ensures in
    (λ s. key-sought c.args.a.now c.in-Rock.rock c.in-Some.key c.args.entries.now s c.in-Rock.is (sym c.in-Some.is ∙ c.in_ok-key.ensures) ∙ ap (λ (b : Bool). gives b s) found)
