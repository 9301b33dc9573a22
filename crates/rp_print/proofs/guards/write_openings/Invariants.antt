use Rattle.std.proofs.Common.{◌≡◌, ◌≤◌, map, take, length}
use Rattle.rp_tree.specs.ExpressionViews as views
use Rattle.rp_print.specs.WritingSteps.{put_openings}
use Rattle.rp_print.proofs.guards.write_openings.Given as goal

abbrev pub invariant-trailers : goal.invariant-trailers
invariant-trailers l =
    (l.left ≤ length l.trailers)
    × (put_openings (views.trailers_of (map views.view_trailer (take l.left l.trailers))) l.page ≡ put_openings (views.trailers_of
    (map views.view_trailer l.trailers)) l.initial.page)

abbrev pub decreases-trailers : goal.decreases-trailers
decreases-trailers l = l.left
