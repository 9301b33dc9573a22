use Rattle.std.proofs.Common.{◌≡◌, ◌++◌, map, drop}
use Rattle.rp_tree.specs.StatementViews as stmt_views
use Rattle.rp_scope.specs.Blocks as code_blocks
use Rattle.rp_scope.specs.Scopes.{telling_scopes}
use Rattle.rp_scope.proofs.block_layouts.+lay_out_stmts.Given as goal

abbrev pub invariant-lay_out_stmts-stmts : goal.invariant-lay_out_stmts-stmts
invariant-lay_out_stmts-stmts l = l.layouts ++ code_blocks.stmts_blocks telling_scopes l.around (stmt_views.stmts_of (map stmt_views.view_stmt (drop l.stmt-index l.stmts))) ≡ l.initial.layouts ++ code_blocks.stmts_blocks telling_scopes l.around (stmt_views.stmts_of (map stmt_views.view_stmt l.stmts))

abbrev pub invariant-lay_out_branches-branches : goal.invariant-lay_out_branches-branches
invariant-lay_out_branches-branches l = l.layouts ++ code_blocks.branches_blocks telling_scopes l.around (stmt_views.branches_of (map stmt_views.view_branch (drop l.branch-index l.branches))) ≡ l.initial.layouts ++ code_blocks.branches_blocks telling_scopes l.around (stmt_views.branches_of (map stmt_views.view_branch l.branches))

abbrev pub invariant-lay_out_handlers-handlers : goal.invariant-lay_out_handlers-handlers
invariant-lay_out_handlers-handlers l = l.layouts ++ code_blocks.excepts_blocks telling_scopes l.around (stmt_views.excepts_of (map stmt_views.view_except (drop l.handler-index l.handlers))) ≡ l.initial.layouts ++ code_blocks.excepts_blocks telling_scopes l.around (stmt_views.excepts_of (map stmt_views.view_except l.handlers))
