use Rattle.std.proofs.Common.{arith}
use Rattle.rp_tree.specs.ExpressionViews.{view_place}
use Rattle.rp_tree.specs.Maps as maps
use Rattle.rp_tree.specs.Marks.{table}
use Rattle.rp_guard.proofs.Lists.{all_marked}
use Rattle.rp_guard.proofs.block_marks.mark_places.Goals as goal

pub returns : goal.returns
returns c = all_marked view_place (maps.map_place table) c.args.places.now c.places.places (omega arith) (λ k d lt. c.places.invariant.marked k d (omega arith))
