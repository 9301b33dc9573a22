use Rattle.std.proofs.Common.{◌≡◌, ℕ, ◌≤◌, get_or}
use Rattle.rp_tree.specs.declared.expr.Place.{Place}
use Rattle.rp_tree.specs.ExpressionViews.{view_place}
use Rattle.rp_tree.specs.Maps as maps
use Rattle.rp_tree.specs.Marks.{table}
use Rattle.rp_guard.proofs.Lists.{IsMarkedTo}
use Rattle.rp_guard.proofs.block_marks.mark_places.Given as goal

abbrev pub invariant-places : goal.invariant-places
invariant-places l = record {
  unvisited : (k : ℕ) (d : Place) → l.place-index ≤ k → get_or l.places k d ≡ get_or l.initial.places k d;
  marked : IsMarkedTo view_place (maps.map_place table) l.initial.places l.places l.place-index;
}
