use Rattle.std.proofs.Common.{Bool, sym, ap, ◌∙◌, subst}
use Rattle.std.specs.Str.{chars}
use Rattle.rp_show.specs.ShowView.{added, gap, moment}
use Rattle.rp_show.specs.Prints.{Prints}
use Rattle.rp_show.specs.Show.{printed}
use Rattle.rp_show.proofs.Lines.{gap-none}
use Rattle.rp_show.proofs.printer.Printer.separate.Goals as goal

pub returns-then-first-clause-plain : goal.returns-then-first-clause-plain
returns-then-first-clause-plain c = λ heap steps.
    let line = c.args.self.now.line in
    let s = moment heap c.args.self.now.purse steps in
    ap (λ (b : Bool). added line (printed (gap b) s)) c.if-first.true ∙ gap-none line s

pub returns-clause-plain : goal.returns-clause-plain
unfolding chars
returns-clause-plain c = λ heap steps.
    subst (λ (b : Bool). Prints c.print.result c.print.new.self c.args.self.now heap steps steps (printed (gap b))) (sym c.if-first.false) (c.print.ensures.plain heap steps)
