use Rattle.std.proofs.Common.{sym, ◌∙◌}
use Rattle.rp_calls.proofs.Tables.{note-again, note-first}
use Rattle.rp_calls.proofs.named_arguments.note.Goals as goal

pub returns-in_ok-insert-2 : goal.returns-in_ok-insert-2
returns-in_ok-insert-2 c =
    note-again c.args.table.now c.insert.new.self c.insert-then-is_some.new.self c.args.name c.args.value c.in_ok-insert.field-0
    c.in_ok-insert.ensures.old (sym c.is_some.ensures ∙ c.if-is_some.true) c.in_ok-insert.ensures.updates c.in_ok-insert-2.ensures.updates

pub returns-else-is_some : goal.returns-else-is_some
returns-else-is_some c =
    note-first c.args.table.now c.insert.new.self c.args.name c.args.value c.in_ok-insert.field-0
    c.in_ok-insert.ensures.old (sym c.is_some.ensures ∙ c.if-is_some.false) c.in_ok-insert.ensures.updates
