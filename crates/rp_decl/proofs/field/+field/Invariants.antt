use Rattle.std.proofs.Common.{◌≡◌, drop}
use Rattle.toml.specs.View.{items_view, members_view}
use Rattle.rp_decl.specs.Document.{entries_of, fields_of}
use Rattle.rp_decl.specs.InOrder.{AreEntriesInOrder, AreFieldsInOrder}
use Rattle.rp_decl.specs.View.{entries_view, fields_view}
use Rattle.rp_decl.proofs.Fields.{fields_behind, entries_behind}
use Rattle.rp_decl.proofs.field.+field.Given as goal

abbrev pub invariant-fields_of-loop-item : goal.invariant-fields_of-loop-item
invariant-fields_of-loop-item l = record {
  shown : fields_behind (fields_view l.fields.items) (fields_of (items_view (drop l.item-index l.item-items))) ≡ fields_of (items_view l.items.items);
  ordered : AreFieldsInOrder (fields_view l.fields.items);
}

abbrev pub invariant-entries_of-loop-key : goal.invariant-entries_of-loop-key
invariant-entries_of-loop-key l = record {
  shown : entries_behind (entries_view l.entries.items) (entries_of (members_view l.key-iterator)) ≡ entries_of (members_view l.table.entries);
  ordered : AreEntriesInOrder (entries_view l.entries.items);
}
