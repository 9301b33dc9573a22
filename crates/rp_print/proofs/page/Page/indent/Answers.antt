use Rattle.rp_print.proofs.Pages.{indented_all}
use Rattle.rp_print.proofs.page.Page.indent.Goals as goal

pub returns : goal.returns
returns c = indented_all _ _ _ c.spaces-test.false c.spaces.invariant
