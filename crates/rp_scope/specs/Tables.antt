-- Tables in which a block has ahead what it finds for names. A table may lack any name; what it has is right.
use Rattle.std.specs.Prelude.{◌≡◌, ℕ, List, All, Option, Some, None, slice_get}
use Rattle.rp_scope.specs.declared.table.Cell.{Cell}
use Rattle.rp_scope.specs.declared.table.Table.{Table}
use Rattle.rp_scope.specs.Scopes.{Scope, found_of}

abbrev pub IsCellOf : List Scope → ℕ → Option Cell → Type 0
IsCellOf scopes block None = Unit {0}
IsCellOf scopes block (Some cell) = cell.found ≡ found_of scopes block cell.name

abbrev pub AreCellsOf : List Scope → ℕ → List (Option Cell) → Type 0
AreCellsOf scopes block cells = All (IsCellOf scopes block) cells

abbrev pub IsTableOf : List Scope → ℕ → Table → Type 0
IsTableOf scopes block table = AreCellsOf scopes block table.cells.items

-- the tables are those of the blocks, by number
abbrev pub AreTablesOf : List Scope → List Table → Type 0
AreTablesOf scopes tables = (block : ℕ) (table : Table) → slice_get tables block ≡ Some table → IsTableOf scopes block table
