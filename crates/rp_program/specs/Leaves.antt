-- What the leaves of a tree that was read are.
use Rattle.std.specs.Prelude.{◌≡◌, ℕ, ◌==◌, true, nat_lt, List, length}
use Rattle.rp_base.specs.declared.value.Name.{Name}
use Rattle.rp_grammar.specs.Leaves.{LeafTest, stmts_pass}
use Rattle.rp_tree.specs.StatementTrees.{Stmts}

-- a name that stands for one of so many words
abbrev pub below : ℕ → LeafTest Name
below n = record { name = λ x. nat_lt x.0 n; number = λ x. true; block = λ k. true; mark = λ g. true }

-- a code block without a number
abbrev pub unnumbered : LeafTest Name
unnumbered = record { name = λ x. true; number = λ x. true; block = λ k. k == 0; mark = λ g. true }

-- each name of the tree is the place of a word
abbrev pub IsTreeHeld : List (List ℕ) → Stmts Name → Type 0
IsTreeHeld words tree = stmts_pass (below (length words)) tree ≡ true

-- no code block of the tree has a number
abbrev pub IsUnnumbered : Stmts Name → Type 0
IsUnnumbered tree = stmts_pass unnumbered tree ≡ true
