use Rattle.std.proofs.Common.{◌≡◌, map, drop}
use Rattle.rp_policy.specs.CollectionSteps as steps
use Rattle.rp_tree.specs.StatementViews as stmt_views
use Rattle.rp_policy.proofs.collector.Collector.+stmt.Given as goal

abbrev pub invariant-block-stmts : goal.invariant-block-stmts
invariant-block-stmts l =
    steps.with_stmts l.suite (stmt_views.view_stmts (drop l.stmt-index l.stmts)) l.self ≡ steps.with_stmts l.suite (stmt_views.view_stmts l.stmts) l.initial.self

abbrev pub invariant-branches-branches : goal.invariant-branches-branches
invariant-branches-branches l =
    steps.with_branches (stmt_views.branches_of (map stmt_views.view_branch (drop l.branch-index l.branches))) l.self ≡ steps.with_branches (stmt_views.branches_of (map stmt_views.view_branch l.branches)) l.initial.self

abbrev pub invariant-handlers-handlers : goal.invariant-handlers-handlers
invariant-handlers-handlers l =
    steps.with_excepts (stmt_views.excepts_of (map stmt_views.view_except (drop l.handler-index l.handlers))) l.self ≡ steps.with_excepts (stmt_views.excepts_of (map stmt_views.view_except l.handlers)) l.initial.self
