use Rattle.std.proofs.Common.{ap, is_some, sym, ◌∙◌}
use Rattle.rp_statements.proofs.ClassParts.{none_counted, some_counted}
use Rattle.rp_engine.specs.Does as does
use Rattle.rp_statements.proofs.class_blocks.part_count.Goals as goal

pub returns-then-is_some : goal.returns-then-is_some
returns-then-is_some c = some_counted (does.part_form c.args.form.now) (ap is_some (sym c.method_name.ensures) ∙ sym c.is_some.ensures ∙ c.if-is_some.true)

pub returns : goal.returns
returns c = none_counted (does.part_form c.args.form.now) (ap is_some (sym c.method_name.ensures) ∙ sym c.is_some.ensures ∙ c.if-is_some.false)
