use Rattle.std.proofs.Common.{◌≡◌}
use Rattle.rp_tree.specs.StatementViews as stmt_views
use Rattle.rp_tree.specs.Maps as maps
use Rattle.rp_tree.specs.Maps.{no_blocks}
use Rattle.rp_scope.specs.Numbers as numbering
use Rattle.rp_scope.specs.NumberSteps.{start, branch_numbers}
use Rattle.rp_scope.proofs.Lists.{IsNumberedTo, AreBranchesNumberedTo}
use Rattle.rp_scope.proofs.block_numbers.+number_stmt.Given as goal

abbrev pub invariant-number_block-stmts : goal.invariant-number_block-stmts
invariant-number_block-stmts l = record {
  unvisited : goal.unvisited-number_block-stmts l;
  numbered : IsNumberedTo stmt_views.view_stmt (maps.map_stmt no_blocks) numbering.stmt_numbers l.fn.first l.initial.stmts l.stmts l.stmt-index;
  begins : l.next ≡ start (λ x. numbering.stmt_numbers (stmt_views.view_stmt x)) l.fn.first l.initial.stmts l.stmt-index;
}

abbrev pub invariant-number_branches-branches : goal.invariant-number_branches-branches
invariant-number_branches-branches l = record {
  unvisited : goal.unvisited-number_branches-branches l;
  numbered : AreBranchesNumberedTo l.fn.first l.initial.branches l.branches l.branch-index;
  begins : l.next ≡ start (λ x. branch_numbers (stmt_views.view_branch x)) l.fn.first l.initial.branches l.branch-index;
}

abbrev pub invariant-number_handlers-handlers : goal.invariant-number_handlers-handlers
invariant-number_handlers-handlers l = record {
  unvisited : goal.unvisited-number_handlers-handlers l;
  numbered : IsNumberedTo stmt_views.view_except (maps.map_except no_blocks) numbering.except_numbers l.fn.first l.initial.handlers l.handlers l.handler-index;
  begins : l.next ≡ start (λ x. numbering.except_numbers (stmt_views.view_except x)) l.fn.first l.initial.handlers l.handler-index;
}
