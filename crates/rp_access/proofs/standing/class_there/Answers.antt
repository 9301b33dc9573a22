use Rattle.std.proofs.Common.{Some, None, ap, sym, ◌∙◌}
use Rattle.std.specs.Prelude.{if◌then◌else◌}
use Rattle.rp_access.proofs.standing.class_there.Goals as goal

pub returns-then-is_class-clause-place : goal.returns-then-is_class-clause-place
returns-then-is_class-clause-place c = sym (ap (λ b. if b then Some c.args.at else None) (sym c.is_class.ensures.value ∙ c.if-is_class.true))

pub returns-then-is_class-clause-class : goal.returns-then-is_class-clause-class
returns-then-is_class-clause-class c = c.is_class.ensures.class c.if-is_class.true

pub returns-then-is_class-clause-held : goal.returns-then-is_class-clause-held
returns-then-is_class-clause-held c = c.is_class.ensures.held c.if-is_class.true

pub returns-clause-place : goal.returns-clause-place
returns-clause-place c = sym (ap (λ b. if b then Some c.args.at else None) (sym c.is_class.ensures.value ∙ c.if-is_class.false))
