use Rattle.std.proofs.Common.{◌≡◌, ℕ, ◌≤◌, length, get_or}
use Rattle.rp_tree.specs.declared.expr.Place.{Place}
use Rattle.rp_tree.specs.ExpressionViews as views
use Rattle.rp_tree.specs.Maps as maps
use Rattle.rp_tree.specs.Maps.{no_blocks}
use Rattle.rp_scope.specs.Numbers as numbering
use Rattle.rp_scope.specs.NumberSteps.{start}
use Rattle.rp_scope.proofs.Lists.{IsNumberedTo}
use Rattle.rp_scope.proofs.block_numbers.number_places.Given as goal

abbrev pub invariant-places : goal.invariant-places
invariant-places l = record {
  unvisited : (length l.places ≡ length l.initial.places) × ((k : ℕ) (d : Place) → l.place-index ≤ k → get_or l.places k d ≡ get_or l.initial.places k d);
  numbered : IsNumberedTo views.view_place (maps.map_place no_blocks) numbering.place_numbers l.fn.first l.initial.places l.places l.place-index;
  begins : l.next ≡ start (λ x. numbering.place_numbers (views.view_place x)) l.fn.first l.initial.places l.place-index;
}
