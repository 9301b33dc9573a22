use Rattle.std.proofs.Common.{◌≡◌, ◌++◌, map, drop}
use Rattle.rp_tree.specs.ExpressionViews as views
use Rattle.rp_scope.specs.Bindings as bindings
use Rattle.rp_scope.specs.Bindings.{all_bound}
use Rattle.rp_scope.specs.MentionSteps.{listed}
use Rattle.rp_scope.proofs.mentions.note_places.Given as goal

abbrev pub invariant-places : goal.invariant-places
invariant-places l = l.list.items ++ listed l.listing (all_bound (bindings.places_names (map views.view_place (drop l.place-index l.places)))) ≡ l.initial.list.items ++ listed l.listing (all_bound (bindings.places_names (map views.view_place l.places)))
