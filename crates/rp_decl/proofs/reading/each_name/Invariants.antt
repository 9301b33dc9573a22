use Rattle.std.proofs.Common.{◌≡◌, drop}
use Rattle.std.specs.List.{AllByRecursion}
use Rattle.toml.specs.View.{items_view}
use Rattle.rp_base.specs.Names.{with_words}
use Rattle.rp_decl.specs.Document.{item_texts}
use Rattle.rp_decl.specs.Places.{GrowsTo}
use Rattle.rp_decl.specs.Reading.{FromNowOn, IsName, Shows, ShowsName}
use Rattle.rp_decl.proofs.reading.each_name.Given as goal

abbrev pub invariant-loop-item : goal.invariant-loop-item
invariant-loop-item l = record {
  left_known : AllByRecursion IsName (item_texts (items_view (drop l.item-index l.item-items)));
  shown : FromNowOn l.names (λ names. Shows (ShowsName names) l.words.items (item_texts (items_view l.items.items)) (item_texts (items_view (drop l.item-index l.item-items))));
  grown : GrowsTo l.initial.names l.names;
  interned : with_words l.names (item_texts (items_view (drop l.item-index l.item-items))) ≡ with_words l.initial.names (item_texts (items_view l.items.items));
}
