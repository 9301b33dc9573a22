use Rattle.std.proofs.Common.{ℕ, List, ap, sym}
use Rattle.rp_base.specs.declared.kind.Kind.TheVariants.{ForbiddenAttribute}
use Rattle.rp_base.specs.declared.value.Name.{Name}
use Rattle.std.specs.Prelude.{Option}
use Rattle.rp_meaning.specs.State.{Outcome}
use Rattle.rp_ops.specs.Outcome.{ends, raised}
use Rattle.rp_access.proofs.named_attributes.forbidden.Goals as goal

pub returns-in-Ok : goal.returns-in-Ok
returns-in-Ok c = λ s. ap (λ (t : List ℕ). let o : Outcome (Option Name) = ends (raised (record { kind = ForbiddenAttribute; text = t })) s in o) (sym c.in-Ok.ensures)
