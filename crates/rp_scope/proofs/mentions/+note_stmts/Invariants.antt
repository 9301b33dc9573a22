use Rattle.std.proofs.Common.{◌≡◌, ◌++◌, map, drop}
use Rattle.rp_tree.specs.StatementViews as stmt_views
use Rattle.rp_scope.specs.Bindings as bindings
use Rattle.rp_scope.specs.MentionSteps.{listed}
use Rattle.rp_scope.proofs.mentions.+note_stmts.Given as goal

abbrev pub invariant-note_stmts-stmts : goal.invariant-note_stmts-stmts
invariant-note_stmts-stmts l = l.list.items ++ listed l.listing (bindings.stmts_mentions (stmt_views.stmts_of (map stmt_views.view_stmt (drop l.stmt-index l.stmts)))) ≡ l.initial.list.items ++ listed l.listing (bindings.stmts_mentions (stmt_views.stmts_of (map stmt_views.view_stmt l.stmts)))

abbrev pub invariant-note_branches-branches : goal.invariant-note_branches-branches
invariant-note_branches-branches l = l.list.items ++ listed l.listing (bindings.branches_mentions (stmt_views.branches_of (map stmt_views.view_branch (drop l.branch-index l.branches)))) ≡ l.initial.list.items ++ listed l.listing (bindings.branches_mentions (stmt_views.branches_of (map stmt_views.view_branch l.branches)))

abbrev pub invariant-note_handlers-handlers : goal.invariant-note_handlers-handlers
invariant-note_handlers-handlers l = l.list.items ++ listed l.listing (bindings.excepts_mentions (stmt_views.excepts_of (map stmt_views.view_except (drop l.handler-index l.handlers)))) ≡ l.initial.list.items ++ listed l.listing (bindings.excepts_mentions (stmt_views.excepts_of (map stmt_views.view_except l.handlers)))
