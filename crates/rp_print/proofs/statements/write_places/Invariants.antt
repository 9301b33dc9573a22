use Rattle.std.proofs.Common.{◌≡◌, map, drop, true}
use Rattle.rp_base.specs.Names.{word_of}
use Rattle.rp_tree.specs.ExpressionViews as views
use Rattle.rp_print.specs.LineSteps as step
use Rattle.rp_print.proofs.statements.write_places.Given as goal

abbrev pub invariant-places : goal.invariant-places
invariant-places l =
    step.put_places (word_of l.names) l.first (map views.view_place (drop l.place-index l.places)) l.page
    ≡ step.put_places (word_of l.names) true (map views.view_place l.places) l.initial.page
