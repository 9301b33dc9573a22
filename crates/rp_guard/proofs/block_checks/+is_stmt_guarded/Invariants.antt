use Rattle.std.proofs.Common.{◌≡◌, map, drop}
use Rattle.rp_tree.specs.StatementViews as stmt_views
use Rattle.rp_tree.specs.Guarded as guardedness
use Rattle.rp_guard.proofs.block_checks.+is_stmt_guarded.Given as goal

abbrev pub invariant-is_block_guarded-stmts : goal.invariant-is_block_guarded-stmts
invariant-is_block_guarded-stmts l = guardedness.are_stmts_guarded (stmt_views.stmts_of (map stmt_views.view_stmt (drop l.stmt-index l.stmts))) ≡ guardedness.are_stmts_guarded (stmt_views.stmts_of (map stmt_views.view_stmt l.stmts))

abbrev pub invariant-are_branches_guarded-branches : goal.invariant-are_branches_guarded-branches
invariant-are_branches_guarded-branches l = guardedness.are_branches_guarded (stmt_views.branches_of (map stmt_views.view_branch (drop l.branch-index l.branches))) ≡ guardedness.are_branches_guarded (stmt_views.branches_of (map stmt_views.view_branch l.branches))

abbrev pub invariant-are_handlers_guarded-handlers : goal.invariant-are_handlers_guarded-handlers
invariant-are_handlers_guarded-handlers l = guardedness.are_excepts_guarded (stmt_views.excepts_of (map stmt_views.view_except (drop l.handler-index l.handlers))) ≡ guardedness.are_excepts_guarded (stmt_views.excepts_of (map stmt_views.view_except l.handlers))
