use Rattle.std.proofs.Common.{List, ℕ, codes, sym, subst}
use Rattle.std.specs.Str.{chars}
use Rattle.rp_ops.specs.Outcome.{Outcome, state_of}
use Rattle.rp_show.specs.Show.{followed, printed}
use Rattle.rp_show.specs.ShowView.{Writes, added}
use Rattle.rp_native.specs.Print.{argument}
use Rattle.rp_show.proofs.CallerLemmas.{on_ok, passes, stops}
use Rattle.rp_native.proofs.print.print_behind.Goals as goal

pub returns-in_err-print_text-clause-plain : goal.returns-in_err-print_text-clause-plain
unfolding chars
returns-in_err-print_text-clause-plain c =
    let steps = c.args.meter.now.left in
    let e = c.in_err-print_text.field-0.0 in
    let s = state_of c.print_text.new.store steps in
    let old = state_of c.args.store.now steps in
    let o = printed (codes " ") old in
    stops c.from_residual.result e c.print_text.new.line s (added c.args.line.now (followed o (argument c.args.names.now c.args.value.now))) c.from_residual.ensures.1
    (passes e c.args.line.now s o (argument c.args.names.now c.args.value.now) (c.in_err-print_text.ensures.plain steps))

pub returns-clause-plain : goal.returns-clause-plain
unfolding chars
returns-clause-plain c =
    let steps = c.args.meter.now.left in
    let old = state_of c.args.store.now steps in
    let s = state_of c.print_argument.new.store c.print_argument.new.meter.left in
    subst (λ (o : Outcome (List ℕ)). Writes c.print_argument.result c.print_argument.new.line s o)
    (sym (on_ok c.args.line.now c.print_text.new.line (state_of c.print_text.new.store steps) (printed (codes " ") old) (argument c.args.names.now c.args.value.now)
    (c.in_ok-print_text.ensures.plain steps))) c.print_argument.ensures.plain
