use Rattle.std.proofs.Common.{sym, subst}
use Rattle.rp_scope.specs.Tables.{AreCellsOf}
use Rattle.rp_scope.proofs.Cells.{one_more_cell}
use Rattle.rp_scope.proofs.table.put.Goals as goal

pub returns-then-is_empty : goal.returns-then-is_empty
returns-then-is_empty c = λ scopes block are is. one_more_cell scopes block c.tries.cells c.place_of-place.result c.args.cell (subst (AreCellsOf scopes block) (sym c.tries.invariant) are) is
