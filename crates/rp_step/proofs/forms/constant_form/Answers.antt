use Rattle.rp_step.proofs.forms.constant_form.Goals as goal

pub returns-in-Nil-clause-law : goal.returns-in-Nil-clause-law
returns-in-Nil-clause-law c = rw c.in-Nil.is c.literal_form.ensures.law

pub returns-in-Truth-clause-law : goal.returns-in-Truth-clause-law
returns-in-Truth-clause-law c = rw c.in-Truth.is c.literal_form-in-Truth.ensures.law
