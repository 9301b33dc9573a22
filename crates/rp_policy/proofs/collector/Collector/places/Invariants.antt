use Rattle.std.proofs.Common.{◌≡◌, map, drop}
use Rattle.rp_policy.specs.CollectionSteps.{with_places}
use Rattle.rp_tree.specs.ExpressionViews.{view_place}
use Rattle.rp_policy.proofs.collector.Collector.places.Given as goal

abbrev pub invariant-places : goal.invariant-places
invariant-places l = with_places (map view_place (drop l.place-index l.places)) l.self ≡ with_places (map view_place l.places) l.initial.self
