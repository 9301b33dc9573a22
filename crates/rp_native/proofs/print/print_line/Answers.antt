use Rattle.std.proofs.Common.{List, ℕ, sym, ap, ◌∙◌}
use Rattle.rp_ops.specs.Outcome.{gives, state_of}
use Rattle.rp_native.specs.Print.{print_line}
use Rattle.rp_show.proofs.CallerLemmas.{text_stops}
use Rattle.rp_native.proofs.print.print_line.Goals as goal

pub returns-in_err-print_arguments-clause-plain : goal.returns-in_err-print_arguments-clause-plain
returns-in_err-print_arguments-clause-plain c =
    let e = c.in_err-print_arguments.field-0.0 in
    let end = state_of c.print_arguments.new.store c.print_arguments.new.meter.left in
    text_stops c.from_residual.result e end (print_line c.args.names.now c.args.args.now (state_of c.args.store.now c.args.meter.now.left))
    c.from_residual.ensures.1 c.in_err-print_arguments.ensures.plain

pub returns-clause-plain : goal.returns-clause-plain
returns-clause-plain c =
    let end = state_of c.print_arguments.new.store c.print_arguments.new.meter.left in
    c.in_ok-print_arguments.ensures.plain ∙ ap (λ (t : List ℕ). gives t end) (sym (c.in_ok-new.ensures ∙ c.as_str.ensures))
