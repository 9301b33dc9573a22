use Rattle.std.proofs.Common.{drop}
use Rattle.std.specs.List.{AllByRecursion}
use Rattle.toml.specs.View.{items_view}
use Rattle.rp_decl.specs.Document.{item_texts}
use Rattle.rp_decl.specs.Reading.{IsAmong, Shows, ShowsPlace}
use Rattle.rp_decl.proofs.reading.each_place.Given as goal

abbrev pub invariant-loop-item : goal.invariant-loop-item
invariant-loop-item g l = record {
  left_known : AllByRecursion (IsAmong l.known) (item_texts (items_view (drop l.item-index l.item-items)));
  shown : Shows (λ p. ShowsPlace l.known (g.P.Place.number p)) l.places.items (item_texts (items_view l.items.items)) (item_texts (items_view (drop l.item-index l.item-items)));
}
