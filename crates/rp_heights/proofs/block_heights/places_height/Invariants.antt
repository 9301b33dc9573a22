use Rattle.std.proofs.Common.{◌≡◌, max, map, drop}
use Rattle.rp_tree.specs.ExpressionViews.{view_place}
use Rattle.rp_tree.specs.Heights.{capped, places_height}
use Rattle.rp_heights.proofs.block_heights.places_height.Given as goal

abbrev pub invariant-places : goal.invariant-places
invariant-places l = max l.greatest (capped (places_height (map view_place (drop l.place-index l.places)))) ≡ capped (places_height (map view_place l.places))
