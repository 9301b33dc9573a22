use Rattle.rp_guard.proofs.Lists.{IsMarkedTo, AreBranchesMarkedTo}
use Rattle.rp_tree.specs.StatementViews as stmt_views
use Rattle.rp_tree.specs.Maps as maps
use Rattle.rp_tree.specs.Marks.{table}
use Rattle.rp_guard.proofs.block_marks.+mark_stmt.Given as goal

abbrev pub invariant-mark_block-stmts : goal.invariant-mark_block-stmts
invariant-mark_block-stmts l = record { unvisited : goal.unvisited-mark_block-stmts l; marked : IsMarkedTo stmt_views.view_stmt (maps.map_stmt table) l.initial.stmts l.stmts l.stmt-index }

abbrev pub invariant-mark_handlers-handlers : goal.invariant-mark_handlers-handlers
invariant-mark_handlers-handlers l = record { unvisited : goal.unvisited-mark_handlers-handlers l; marked : IsMarkedTo stmt_views.view_except (maps.map_except table) l.initial.handlers l.handlers l.handler-index }

abbrev pub invariant-mark_branches-branches : goal.invariant-mark_branches-branches
invariant-mark_branches-branches l = record { unvisited : goal.unvisited-mark_branches-branches l; marked : AreBranchesMarkedTo l.initial.branches l.branches l.branch-index }
