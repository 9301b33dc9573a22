use Rattle.std.proofs.Common.{◌≡◌, [], drop}
use Rattle.std.specs.List.{All}
use Rattle.rp_decl.specs.View.{entries_view, fields_view}
use Rattle.rp_meaning.specs.Load.{list_made, table_made}
use Rattle.rp_store.specs.Kept.{AreSound, IsEntry}
use Rattle.rp_store.specs.Object.{dict}
use Rattle.rp_store.specs.Shape.{KeepsShape}
use Rattle.rp_world.proofs.fields.+field.Given as goal

abbrev pub invariant-place_list-fields : goal.invariant-place_list-fields
invariant-place_list-fields l = record {
  placed : list_made l.values.items (fields_view (drop l.field-index l.fields)) l.store ≡ list_made [] (fields_view l.fields) l.initial.store;
  sound : AreSound l.store.heap l.values.items;
  shape : KeepsShape l.initial.store.heap l.store.heap;
}

abbrev pub invariant-place_table-entries : goal.invariant-place_table-entries
invariant-place_table-entries l = record {
  placed : table_made (dict l.table) (entries_view (drop l.entry-index l.entries)) l.store ≡ table_made (dict []) (entries_view l.entries) l.initial.store;
  entries : All (IsEntry l.store.heap) l.table;
  shape : KeepsShape l.initial.store.heap l.store.heap;
}
