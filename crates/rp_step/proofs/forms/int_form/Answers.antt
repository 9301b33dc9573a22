use Rattle.std.proofs.Common.{sym}
use Rattle.rp_step.proofs.forms.int_form.Goals as goal

pub literal_form-requires-clause-fit : goal.literal_form-requires-clause-fit
literal_form-requires-clause-fit c = λ heap. rw c.int_value-value.ensures (tt, tt)

pub returns-clause-law : goal.returns-clause-law
returns-clause-law c = rw (sym c.int_value-value.ensures) c.literal_form.ensures.law
