-- What is kept of a script as it will run (RestrictedPython, compile_restricted).
use Rattle.std.specs.Prelude.{◌≡◌, ℕ, List, []}
use Rattle.rp_base.specs.Names.{word_of}
use Rattle.rp_base.specs.declared.value.Name.{Name}
use Rattle.rp_grammar.specs.Kinds.{Tokens}
use Rattle.rp_grammar.specs.Program.{Spells}
use Rattle.rp_policy.specs.Offences.{offences_by}
use Rattle.rp_scope.specs.Numbers.{HasNumbers}
use Rattle.rp_scope.specs.Scopes as found
use Rattle.rp_scope.specs.Scopes.{AreScopesOf, Scope}
use Rattle.rp_tree.specs.declared.stmt.Tree.{Tree}
use Rattle.rp_tree.specs.Guarded.{Guarded}
use Rattle.rp_tree.specs.Maps.{without_blocks}
use Rattle.rp_tree.specs.Marks.{HasNoGuards, Rewrites, erase}
use Rattle.rp_tree.specs.StatementTrees.{Stmts}
use Rattle.rp_tree.specs.StatementViews.{view_tree}

-- what is seen of a compiled script: the tree that runs, and the scopes of its code blocks
pub record Compilation : Type 0 where
  pub rewritten : Tree
  pub layouts : List Scope

-- the tree of the source: the tree that runs, with its guards taken off
abbrev pub source_tree : Compilation → Stmts Name
source_tree c = erase (view_tree c.rewritten)

-- Some tokens spell the source but for the numbers of its code blocks, and its statements are of height at most 200
-- then; by some words for its names it has no offence; and it is rewritten into the tree that runs, where no form stands
-- outside of its guard. The code blocks of both have the numbers 1, 2, 3 and so on, and the scopes are those of the
-- source, by two ways of saying it.
pub record IsCompiled (c : Compilation) : Type 0 where
  pub plain : HasNoGuards (source_tree c)
  pub tokens : Tokens
  pub spells : Spells (without_blocks (source_tree c)) tokens
  pub words : List (List ℕ)
  pub lawful : offences_by (word_of words) (source_tree c) ≡ []
  pub rewrites : Rewrites (source_tree c) (view_tree c.rewritten)
  pub guarded : Guarded (view_tree c.rewritten)
  pub source_numbers : HasNumbers (source_tree c)
  pub numbers : HasNumbers (view_tree c.rewritten)
  pub scopes : AreScopesOf c.layouts [] (source_tree c)
  pub table : c.layouts ≡ found.scopes [] (source_tree c)
