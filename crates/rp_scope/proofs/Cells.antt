-- The cells of a table, and the tables of all blocks.
use Rattle.std.proofs.Common.{◌≡◌, ℕ, zero, suc, List, [], ◌∷◌, ◌++◌, length, slice_get, Option, Some, None, subst}
use Rattle.std.proofs.Math.ListN.{replicate, set}
use Rattle.std.proofs.lemmas.List.Elements.{All-replicate, All-set}
use Rattle.std.proofs.lemmas.Option.{get_or_from_slice_get, slice_get_within}
use Rattle.rp_scope.specs.declared.table.Cell.{Cell}
use Rattle.rp_scope.specs.declared.table.Table.{Table}
use Rattle.rp_scope.specs.Scopes.{Scope, found_of}
use Rattle.rp_scope.specs.Tables.{IsCellOf, AreCellsOf, IsTableOf, AreTablesOf}

pub cell_found : (scopes : List Scope) (block i : ℕ) (cells : List (Option Cell)) (cell : Cell) → slice_get cells i ≡ Some (Some cell) → AreCellsOf scopes block cells → cell.found ≡ found_of scopes block cell.name
cell_found scopes block i cells cell at are =
    subst (IsCellOf scopes block) (get_or_from_slice_get cells i (Some cell) (Some cell) at) (are i (Some cell) (slice_get_within cells i (Some cell) at))

pub no_cells : (scopes : List Scope) (block n : ℕ) → AreCellsOf scopes block (replicate n None)
no_cells scopes block n = All-replicate (IsCellOf scopes block) n None tt

pub one_more_cell : (scopes : List Scope) (block : ℕ) (cells : List (Option Cell)) (i : ℕ) (cell : Cell) → AreCellsOf scopes block cells → cell.found ≡ found_of scopes block cell.name → AreCellsOf scopes block (set cells i (Some cell))
one_more_cell scopes block cells i cell are is = All-set (IsCellOf scopes block) cells i (Some cell) is are

pushed : {X : Type 0} (P : ℕ → X → Type 0) (xs : List X) (y : X) → ((k : ℕ) (x : X) → slice_get xs k ≡ Some x → P k x) → P (length xs) y → (k : ℕ) (x : X) → slice_get (xs ++ y ∷ []) k ≡ Some x → P k x
pushed P [] y h p zero x e = subst (P 0) (cc) p
pushed P [] y h p (suc k) x e = absurd (cc)
pushed P (z ∷ zs) y h p zero x e = h zero x e
pushed P (z ∷ zs) y h p (suc k) x e = pushed (λ i. P (suc i)) zs y (λ i x e. h (suc i) x e) p k x e

pub one_more_table : (scopes : List Scope) (tables : List Table) (table : Table) → AreTablesOf scopes tables → IsTableOf scopes (length tables) table → AreTablesOf scopes (tables ++ table ∷ [])
one_more_table scopes tables table are is = pushed (IsTableOf scopes) tables table are is
