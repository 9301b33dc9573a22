use Rattle.std.proofs.Common.{◌≡◌, max, map, drop}
use Rattle.rp_tree.specs.StatementViews as stmt_views
use Rattle.rp_tree.specs.Heights as tree_heights
use Rattle.rp_tree.specs.Heights.{capped}
use Rattle.rp_heights.proofs.block_heights.+block_height.Given as goal

abbrev pub invariant-block_height-stmts : goal.invariant-block_height-stmts
invariant-block_height-stmts l = max l.greatest (capped (tree_heights.stmts_height (stmt_views.view_stmts (drop l.stmt-index l.stmts)))) ≡ capped (tree_heights.stmts_height (stmt_views.view_stmts l.stmts))

abbrev pub invariant-branches_height-branches : goal.invariant-branches_height-branches
invariant-branches_height-branches l = max l.greatest (capped (tree_heights.branches_height (stmt_views.branches_of (map stmt_views.view_branch (drop l.branch-index l.branches))))) ≡ capped (tree_heights.branches_height (stmt_views.branches_of (map stmt_views.view_branch l.branches)))

abbrev pub invariant-handlers_height-handlers : goal.invariant-handlers_height-handlers
invariant-handlers_height-handlers l = max l.greatest (capped (tree_heights.excepts_height (stmt_views.excepts_of (map stmt_views.view_except (drop l.handler-index l.handlers))))) ≡ capped (tree_heights.excepts_height (stmt_views.excepts_of (map stmt_views.view_except l.handlers)))
