use Rattle.std.proofs.Common.{◌≡◌, map, drop, true}
use Rattle.rp_base.specs.Names.{word_of}
use Rattle.rp_tree.specs.StatementViews as stmt_views
use Rattle.rp_print.specs.LineSteps as step
use Rattle.rp_print.proofs.statements.+stmt.Given as goal

abbrev pub invariant-write_stmts-stmts : goal.invariant-write_stmts-stmts
invariant-write_stmts-stmts l =
    step.put_stmts (word_of l.names) l.depth (stmt_views.view_stmts (drop l.stmt-index l.stmts)) l.page
    ≡ step.put_stmts (word_of l.names) l.depth (stmt_views.view_stmts l.stmts) l.initial.page

abbrev pub invariant-write_handlers-handlers : goal.invariant-write_handlers-handlers
invariant-write_handlers-handlers l =
    step.put_excepts (word_of l.names) l.depth (stmt_views.excepts_of (map stmt_views.view_except
    (drop l.handler-index l.handlers))) l.page
    ≡ step.put_excepts (word_of l.names) l.depth (stmt_views.excepts_of (map stmt_views.view_except l.handlers)) l.initial.page

abbrev pub invariant-write_branches-branches : goal.invariant-write_branches-branches
invariant-write_branches-branches l =
    step.put_branches (word_of l.names) l.depth l.first (stmt_views.branches_of (map stmt_views.view_branch
    (drop l.branch-index l.branches))) l.page
    ≡ step.put_branches (word_of l.names) l.depth true (stmt_views.branches_of (map stmt_views.view_branch l.branches)) l.initial.page
