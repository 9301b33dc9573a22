use Rattle.std.proofs.Common.{List, ℕ, chars, ◌++◌, sym, ap, ◌∙◌}
use Rattle.rp_ops.specs.Outcome.{gives, state_of}
use Rattle.rp_show.specs.Show.{printed}
use Rattle.rp_show.specs.ShowView.{added}
use Rattle.rp_show.proofs.CallerLemmas.{passes_on, stops}
use Rattle.rp_native.proofs.print.print_text.Goals as goal

pub returns-in_err-charge_text-clause-plain : goal.returns-in_err-charge_text-clause-plain
returns-in_err-charge_text-clause-plain c = λ steps.
    let e = c.in_err-charge_text.field-0.0 in
    let s = state_of c.charge_text.new.store steps in
    let o = printed (chars c.args.text.now) (state_of c.args.store.now steps) in
    stops c.from_residual.result e c.args.line.now s (added c.args.line.now o) c.from_residual.ensures.1
    (passes_on e s o (λ t s. gives (c.args.line.now ++ t) s) (c.in_err-charge_text.ensures.plain steps))

pub returns-clause-plain : goal.returns-clause-plain
returns-clause-plain c = λ steps.
    ap (added c.args.line.now) (c.in_ok-charge_text.ensures.plain steps) ∙ ap (λ (l : List ℕ). gives l (state_of c.charge_text.new.store steps)) (sym c.in_ok-add.ensures.added)
