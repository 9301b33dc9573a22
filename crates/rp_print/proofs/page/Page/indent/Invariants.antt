use Rattle.std.proofs.Common.{◌≡◌}
use Rattle.rp_print.specs.PageSteps.{written}
use Rattle.rp_print.specs.Texts.{indentation}
use Rattle.rp_print.proofs.page.Page.indent.Given as goal

abbrev pub invariant-spaces : goal.invariant-spaces
invariant-spaces l = written l.self (indentation l.left) ≡ written l.initial.self (indentation l.initial.left)

abbrev pub decreases-spaces : goal.decreases-spaces
decreases-spaces l = l.left
