use Rattle.std.proofs.Common.{◌≡◌, length}
use Rattle.rp_scope.specs.Tables.{AreTablesOf}
use Rattle.rp_scope.proofs.layouts.tables_of.Given as goal

abbrev pub invariant-blocks-2 : goal.invariant-blocks-2
invariant-blocks-2 l = record { count : length l.tables.items ≡ l.block; right : AreTablesOf l.scopes l.tables.items }
