use Rattle.std.proofs.Common.{◌≡◌, map, drop}
use Rattle.std.specs.List.{list_all}
use Rattle.rp_tree.specs.ExpressionViews as views
use Rattle.rp_tree.specs.Guarded as guardedness
use Rattle.rp_guard.proofs.block_checks.are_places_guarded.Given as goal

abbrev pub invariant-places : goal.invariant-places
invariant-places l = list_all guardedness.is_place_guarded (map views.view_place (drop l.place-index l.places)) ≡ list_all guardedness.is_place_guarded (map views.view_place l.places)
