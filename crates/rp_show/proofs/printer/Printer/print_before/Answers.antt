use Rattle.std.proofs.Common.{List, ℕ, sym, subst}
use Rattle.std.specs.Prelude.{codes}
use Rattle.std.specs.Str.{chars}
use Rattle.rp_ops.specs.Outcome.{Outcome}
use Rattle.rp_show.specs.Show.{printed}
use Rattle.rp_show.specs.Shown.{shown_inside}
use Rattle.rp_show.specs.ShowView.{Writes, added, before_value, moment}
use Rattle.rp_show.proofs.Lines.{goes_on, passes_both, stops}
use Rattle.rp_show.proofs.printer.Printer.print_before.Goals as goal

pub returns-in_err-print_rock-clause-plain : goal.returns-in_err-print_rock-clause-plain
returns-in_err-print_rock-clause-plain c = λ heap steps.
    let line = c.args.self.now.line in
    let s = moment heap c.args.self.now.purse steps in
    let end = moment heap c.print_rock.new.self.purse steps in
    let f = c.in_err-print_rock.field-0.0 in
    stops c.from_residual.result f c.print_rock.new.self.line end (added line (printed (before_value c.args.key.now) s)) c.from_residual.ensures.1
    (passes_both f line (shown_inside c.args.key.now) (codes ": ") end s (c.in_err-print_rock.ensures.plain heap steps))

pub returns-clause-plain : goal.returns-clause-plain
unfolding chars
returns-clause-plain c = λ heap steps.
    let line = c.args.self.now.line in
    let s = moment heap c.args.self.now.purse steps in
    let middle = moment heap c.print_rock.new.self.purse steps in
    subst (λ (o : Outcome (List ℕ)). Writes c.print.result c.print.new.self.line (moment heap c.print.new.self.purse steps) o)
    (sym (goes_on line c.print_rock.new.self.line (shown_inside c.args.key.now) (codes ": ") middle s (c.in_ok-print_rock.ensures.plain heap steps)))
    (c.print.ensures.plain heap steps)
