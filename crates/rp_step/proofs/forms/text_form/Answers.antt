use Rattle.std.proofs.Common.{sym}
use Rattle.rp_step.proofs.forms.text_form.Goals as goal

pub returns-clause-law : goal.returns-clause-law
returns-clause-law c = rw (sym c.in_ok-copy.ensures) c.literal_form.ensures.law
