use Rattle.std.proofs.Common.{◌≡◌, ◌++◌, map, drop}
use Rattle.rp_tree.specs.ExpressionViews as views
use Rattle.rp_scope.specs.Blocks as code_blocks
use Rattle.rp_scope.specs.Scopes.{telling_scopes}
use Rattle.rp_scope.proofs.block_layouts.lay_out_places.Given as goal

abbrev pub invariant-places : goal.invariant-places
invariant-places l = l.layouts ++ code_blocks.places_blocks telling_scopes l.around (map views.view_place (drop l.place-index l.places)) ≡ l.initial.layouts ++ code_blocks.places_blocks telling_scopes l.around (map views.view_place l.places)
