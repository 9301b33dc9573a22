-- The scopes of a program as a table: for each code block, by its number, its local names, its `global` names, and the number of the block around it
-- (Python Language Reference, Naming and binding). The program is block 0.
-- Other way: Places says the same by the list of the blocks around, without numbers.
use Rattle.std.specs.Prelude.{◌≡◌, ◌<◌, ℕ, zero, suc, ◌+◌, List, [], ◌∷◌, length, position, slice_get, ◌==◌, Option, Some, None, if◌then◌else◌, option_map, unwrap_or}
use Rattle.std.specs.List.{list_any}
use Rattle.std.specs.Option.{option_map_or}
pub use Rattle.rp_base.specs.Names.{same_name}
use Rattle.rp_base.specs.declared.value.Name.{Name}
use Rattle.rp_tree.specs.Statements.{Stmts}
use Rattle.rp_scope.specs.declared.place.Found.{Found}
use Rattle.rp_scope.specs.declared.place.Place2.{Place2}
use Rattle.rp_scope.specs.declared.place.Place2.TheVariants.{Global}
use Rattle.rp_scope.specs.Bindings.{Block, once, local_names, program_names}
use Rattle.rp_scope.specs.Blocks.{Telling, stmts_blocks}
use Rattle.rp_scope.specs.Places.{place_at, locals, place}
use Rattle.rp_scope.specs.Numbers.{block_count}

pub record Scope : Type 0 where
  pub locals : List Name
  pub globals : List Name
  pub around : ℕ

-- the scope of a block that stands in the block with the number `around`
unfoldable pub scope_in : ℕ → Block Name → Scope
scope_in around b = record { locals = local_names same_name b; globals = once same_name b.globals; around = around }

abbrev pub telling_scopes : Telling Name ℕ Scope
telling_scopes = record { inside = λ n b around. n; told = λ n b around. scope_in around b }

-- the scope of the program, whose local names begin with the given ones
unfoldable pub program_scope : List Name → Stmts → Scope
program_scope first program = record { locals = once same_name (program_names first program); globals = []; around = 0 }

abbrev pub scopes : List Name → Stmts → List Scope
scopes first program = program_scope first program ∷ stmts_blocks telling_scopes 0 program

-- the local names of a block; none where there is no such block
abbrev pub locals_of : List Scope → ℕ → List Name
locals_of table block = option_map_or (λ scope. scope.locals) (slice_get table block) []

-- the scope of a block other than the program
abbrev pub block_at : List Scope → ℕ → Option Scope
block_at table block = if block == 0 then None else slice_get table block

-- where a name is found in the scope of a block that is so many blocks outwards, if there
abbrev pub scope_place : Scope → ℕ → Name → Option Place2
scope_place scope n name = if list_any (same_name name) scope.globals then Some Global else option_map (place_at n) (position (same_name name) scope.locals)

-- where a name is found in a scope, if there is one, and from the blocks around it
abbrev pub found_in : Option Scope → ℕ → Name → Place2 → Place2
found_in None n name around = Global
found_in (Some scope) n name around = unwrap_or (scope_place scope n name) around

-- the number of the block around
abbrev pub around_of : Option Scope → ℕ
around_of None = 0
around_of (Some scope) = scope.around

-- where a name is found from a block that is so many blocks outwards, in not more than so many steps outwards
abbrev pub found : ℕ → List Scope → ℕ → ℕ → Name → Place2
found zero table n block name = Global
found (suc steps) table n block name = found_in (block_at table block) n name (found steps table (n + 1) (around_of (block_at table block)) name)

-- where a block finds a name; there are not more blocks around it than blocks
abbrev pub found_from : List Scope → ℕ → Name → Place2
found_from table block name = found (length table) table 0 block name

-- what there is to know of a name in a block: where the block finds it, and its place among the local names of the program
abbrev pub found_of : List Scope → ℕ → Name → Found
found_of table block name = record { place = found_from table block name; global = position (same_name name) (locals_of table 0) }

-- the table is that of the program, whose local names begin with the given ones: by number, each block has the local names, and finds each name, as the
-- blocks around it have them
pub record AreScopesOf (table : List Scope) (first : List Name) (program : Stmts) : Type 0 where
  pub blocks : length table ≡ suc (block_count program)
  pub local_names : (k : ℕ) → k < length table → locals_of table k ≡ locals same_name first program k
  pub places : (k : ℕ) (name : Name) → k < length table → found_from table k name ≡ place same_name program k name
