use Rattle.std.proofs.Common.{◌≡◌, drop, fold}
use Rattle.std.specs.BTreeSet.{insert_key}
use Rattle.toml.specs.View.{items_view}
use Rattle.rp_decl.specs.Document.{item_texts}
use Rattle.rp_decl.specs.Order.{text_cmp}
use Rattle.rp_decl.proofs.text_set.insert_texts.Given as goal

abbrev pub invariant-loop-item : goal.invariant-loop-item
invariant-loop-item l =
    fold (insert_key text_cmp) l.set.keys (item_texts (items_view (drop l.item-index l.item-items)))
    ≡ fold (insert_key text_cmp) l.initial.set.keys (item_texts (items_view l.items.items))
