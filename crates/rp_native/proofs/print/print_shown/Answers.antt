use Rattle.std.proofs.Common.{List, ℕ, ◌++◌, sym, ap, ◌∙◌}
use Rattle.rp_ops.specs.Outcome.{gives, state_of}
use Rattle.rp_show.specs.Show.{show}
use Rattle.rp_show.specs.ShowView.{added}
use Rattle.rp_show.proofs.CallerLemmas.{passes_on, stops}
use Rattle.rp_native.proofs.print.print_shown.Goals as goal

pub returns-in_err-text-clause-plain : goal.returns-in_err-text-clause-plain
returns-in_err-text-clause-plain c =
    let e = c.in_err-text.field-0.0 in
    let s = state_of c.show.new.store c.show.new.meter.left in
    let o = show c.args.names.now c.args.value.now (state_of c.args.store.now c.args.meter.now.left) in
    stops c.from_residual.result e c.args.line.now s (added c.args.line.now o) c.from_residual.ensures.1
    (passes_on e s o (λ t s. gives (c.args.line.now ++ t) s) c.in_err-text.ensures.plain)

pub returns-clause-plain : goal.returns-clause-plain
returns-clause-plain c =
    let s = state_of c.show.new.store c.show.new.meter.left in
    ap (added c.args.line.now) c.in_ok-text.ensures.plain
    ∙ ap (λ (l : List ℕ). gives l s) (ap (λ t. c.args.line.now ++ t) (sym c.as_str.ensures) ∙ sym c.in_ok-add.ensures.added)
