-- What is kept of a trusted module as it will run, and why a text is none.
use Rattle.std.specs.Prelude.{◌≡◌, ℕ, List}
use Rattle.rp_base.specs.declared.value.Name.{Name}
use Rattle.rp_grammar.specs.Kinds.{Tokens}
use Rattle.rp_grammar.specs.Program.{Spells}
use Rattle.rp_program.specs.Fault.{IsFault}
use Rattle.rp_program.specs.declared.fault.ProgramFault.{ProgramFault}
use Rattle.rp_scope.specs.Numbers.{HasNumbers}
use Rattle.rp_scope.specs.Scopes as found
use Rattle.rp_scope.specs.Scopes.{AreScopesOf, Scope}
use Rattle.rp_script.specs.Refusal.{from_program}
use Rattle.rp_script.specs.declared.refusal.Refusal.{Refusal}
use Rattle.rp_tree.specs.declared.stmt.Tree.{Tree}
use Rattle.rp_tree.specs.Maps.{without_blocks}
use Rattle.rp_tree.specs.Marks.{HasNoGuards}
use Rattle.rp_tree.specs.StatementViews.{view_tree}

-- what is seen of a trusted module: its tree, and the scopes of its code blocks
pub record TrustedModule : Type 0 where
  pub tree : Tree
  pub layouts : List Scope

-- Some tokens spell the tree but for the numbers of its code blocks, and its statements are of height at most 200 then;
-- it has no guards; its code blocks have the numbers 1, 2, 3 and so on, and the scopes are theirs, where the module
-- first binds some names, by two ways of saying it.
pub record IsTrusted (m : TrustedModule) : Type 0 where
  pub plain : HasNoGuards (view_tree m.tree)
  pub tokens : Tokens
  pub spells : Spells (without_blocks (view_tree m.tree)) tokens
  pub numbers : HasNumbers (view_tree m.tree)
  pub first : List Name
  pub scopes : AreScopesOf m.layouts first (view_tree m.tree)
  pub table : m.layouts ≡ found.scopes first (view_tree m.tree)

-- the refusal of bytes that are no program, for the first check that they don't pass
pub record IsNoProgram (bytes : List ℕ) (refusal : Refusal) : Type 0 where
  pub fault : ProgramFault
  pub is : IsFault bytes fault
  pub told : refusal ≡ from_program fault
