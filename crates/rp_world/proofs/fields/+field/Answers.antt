use Rattle.std.proofs.Common.{◌≡◌, IfOk, sym, ap, subst, ◌∙◌}
use Rattle.rp_decl.specs.Records.{Field, table}
use Rattle.rp_decl.specs.View.{entries_view, field_view}
use Rattle.rp_meaning.specs.Load.{field_made}
use Rattle.rp_store.proofs.CallerLemmas.{AreSound-next, KeepsShape-trans}
use Rattle.rp_world.proofs.Turns.{entries-turn, list-turn, table-turn, table-view}
use Rattle.rp_world.proofs.fields.+field.Goals as goal

pub place_field-returns-in-Table-clause-placed : goal.place_field-returns-in-Table-clause-placed
place_field-returns-in-Table-clause-placed t c =
    let view : field_view c.args.field.now ≡ table (entries_view c.in-Table.entries.items) = ap field_view c.in-Table.is ∙ table-view c.in-Table.entries in
    subst (λ (f : Field). IfOk c.place_table.result (λ value. field_made f c.args.store.now ≡ (value, c.place_table.new.store))) (sym view)
    (rw c.deref-in-Table.ensures.value at c.place_table.ensures.placed)

pub place_list-fields-preserved : goal.place_list-fields-preserved
place_list-fields-preserved t c =
    let known = c.fields.invariant in
    let field = c.in_ok-value.ensures in
    let pushed = c.in_ok-push.ensures.items in
    record {
      placed = list-turn c.fields.values.items _ c.args.fields.now c.fields.field-index c.field-item.result c.fields.store _ c.in_ok-value.value _ c.fields-test.true c.field-item.is field.placed pushed known.placed;
      sound = AreSound-next c.fields.store.heap _ c.fields.values.items _ c.in_ok-value.value field.shape known.sound field.sound pushed;
      shape = KeepsShape-trans _ _ _ known.shape field.shape;
    }

pub place_table-entries-preserved : goal.place_table-entries-preserved
place_table-entries-preserved t c =
    let known = c.entries.invariant in
    let field = c.in_ok-value.ensures in
    let put = c.in_ok-put.ensures in
    let e = c.entry-item.result in
    record {
      placed = table-turn c.entries.table _ c.args.entries.now c.entries.entry-index e c.entries.store _ c.in_ok-value.value _ c.entries-test.true c.entry-item.is field.placed put known.entries known.placed;
      entries = entries-turn c.entries.store.heap _ c.entries.table _ e.0 c.in_ok-value.value field.shape known.entries field.sound put;
      shape = KeepsShape-trans _ _ _ known.shape field.shape;
    }
