use Rattle.rp_scope.specs.Tables.{AreCellsOf}
use Rattle.rp_scope.proofs.table.Table.of_block.Given as goal

abbrev pub invariant-names : goal.invariant-names
invariant-names l = AreCellsOf l.scopes l.block l.cells.items
