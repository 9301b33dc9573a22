use Rattle.std.proofs.Common.{◌≡◌, drop}
use Rattle.toml.specs.View.{items_view}
use Rattle.rp_decl.specs.Consistency.{unknown}
use Rattle.rp_decl.specs.Document.{item_texts}
use Rattle.rp_decl.specs.Order.{least, lesser_of}
use Rattle.rp_decl.proofs.naming.unknown_item.Given as goal

abbrev pub invariant-loop-item : goal.invariant-loop-item
invariant-loop-item l =
    lesser_of l.least (least (unknown l.known (item_texts (items_view (drop l.item-index l.item-items))))) ≡ least (unknown l.known (item_texts (items_view l.items.items)))
