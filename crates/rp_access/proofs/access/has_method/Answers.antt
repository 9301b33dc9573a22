use Rattle.std.proofs.Common.{sym, ap, ◌∙◌}
use Rattle.std.specs.Prelude.{is_some}
use Rattle.rp_access.proofs.Decided.{no_special_prox, no_special_ref}
use Rattle.rp_access.proofs.access.has_method.Goals as goal

pub returns-in-Ref-clause-none : goal.returns-in-Ref-clause-none
returns-in-Ref-clause-none c = λ e. rw c.in-Ref.is (no_special_ref c.args.store.now.heap c.in-Ref.at c.args.name (ap is_some (sym c.method_of.ensures.value) ∙ sym c.is_some.ensures ∙ e))

pub returns-in-Prox-clause-none : goal.returns-in-Prox-clause-none
returns-in-Prox-clause-none c = λ e. rw c.in-Prox.is (no_special_prox c.args.store.now.heap c.in-Prox.at c.args.name (ap is_some (sym c.method_of-in-Prox.ensures.value) ∙ sym c.is_some-in-Prox.ensures ∙ e))
