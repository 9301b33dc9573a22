use Rattle.std.proofs.Common.{◌≡◌, drop}
use Rattle.toml.specs.View.{items_view, members_view}
use Rattle.rp_decl.specs.Order.{least, lesser_of}
use Rattle.rp_decl.specs.Path.{path_of}
use Rattle.rp_decl.specs.Shape.{field_items, field_members}
use Rattle.rp_decl.proofs.shapes.+field.Given as goal

abbrev pub invariant-field_items_fault-loop-item : goal.invariant-field_items_fault-loop-item
invariant-field_items_fault-loop-item l =
    lesser_of l.least (least (field_items l.levels (path_of l.path) (items_view (drop l.item-index l.item-items))))
    ≡ least (field_items l.levels (path_of l.path) (items_view l.items.items))

abbrev pub invariant-field_members_fault-loop-key : goal.invariant-field_members_fault-loop-key
invariant-field_members_fault-loop-key l =
    lesser_of l.least (least (field_members l.levels (path_of l.path) (members_view l.key-iterator)))
    ≡ least (field_members l.levels (path_of l.path) (members_view l.table.entries))
