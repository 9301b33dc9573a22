-- Which trees and tables are those of the programs of a run.
use Rattle.std.specs.Prelude.{◌≡◌, ◌≤◌, suc, List, [], length}
use Rattle.std.specs.List.{AllZip}
use Rattle.rp_grammar.specs.Program.{highest}
use Rattle.rp_scope.specs.Numbers.{HasNumbers, block_count}
use Rattle.rp_scope.specs.Scopes.{Scope, scopes}
use Rattle.rp_session.specs.declared.trees.Tables.{Tables}
use Rattle.rp_session.specs.declared.trees.Trees.{Trees}
use Rattle.rp_tree.specs.Heights.{stmts_height}
use Rattle.rp_tree.specs.Marks.{erase}
use Rattle.rp_tree.specs.Statements.{Stmts}
use Rattle.rp_tree.specs.StatementViews.{view_tree}
use Rattle.rp_tree.specs.declared.stmt.Tree.{Tree}

-- the source of a script, by its tree with guards
abbrev pub source_of : Tree → Stmts
source_of tree = erase (view_tree tree)

-- The code blocks of the tree have their numbers, no statement is higher than one of a program may be, and the table is that of the scopes of its
-- source.
pub record IsResolved (tree : Tree) (table : List Scope) : Type 0 where
  pub numbers : HasNumbers (view_tree tree)
  pub low : stmts_height (view_tree tree) ≤ highest
  pub is : table ≡ scopes [] (source_of tree)

-- So it is with each script. The code blocks of the module have their numbers, no statement of it is higher than that, and its table has as many scopes
-- as it has code blocks, and one for itself.
pub record AreResolved (trees : Trees) (tables : Tables) : Type 0 where
  pub numbers : HasNumbers (view_tree trees.module)
  pub low : stmts_height (view_tree trees.module) ≤ highest
  pub blocks : length tables.module ≡ suc (block_count (view_tree trees.module))
  pub scripts : AllZip IsResolved trees.scripts.items tables.scripts.items
