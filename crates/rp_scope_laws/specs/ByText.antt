-- The scopes of a program by text (Python Language Reference, Naming and binding, where names are identifiers). The machine has for a name its place among
-- words: where these hold each word once, the local names of each code block, and where it finds a name, are those that the texts have.
use Rattle.std.specs.Prelude.{◌≡◌, ◌<◌, ℕ, suc, List, map, length}
use Rattle.std.specs.List.{All}
use Rattle.rp_base.specs.declared.value.Name.{Name}
use Rattle.rp_base.specs.Names.{HoldsEachOnce, word_of}
use Rattle.rp_base.specs.Same.{same_text}
use Rattle.rp_decl.specs.Places.{IsHeld}
use Rattle.rp_tree.specs.StatementTrees.{Stmts}
use Rattle.rp_tree.specs.Maps.{named}
use Rattle.rp_scope.specs.Bindings.{Block, mentioned_name, stmts_mentions}
use Rattle.rp_scope.specs.Blocks.{blocks}
use Rattle.rp_scope.specs.Numbers.{HasNumbers, block_count}
use Rattle.rp_scope.specs.Places.{locals, place}
use Rattle.rp_scope.specs.Scopes.{AreScopesOf, Scope, found_from, locals_of, same_name, scopes}

-- the names that a code block binds, and those that its `global` statements list, are places of these words
pub record IsBlockHeld (words : List (List ℕ)) (b : Block Name) : Type 0 where
  pub names_held : All (IsHeld words) b.names
  pub globals_held : All (IsHeld words) b.globals

-- the names that the program or a code block in it binds or lists, and those that are bound first, are places of these words
pub record AreHeld (words : List (List ℕ)) (first : List Name) (program : Stmts Name) : Type 0 where
  pub first_held : All (IsHeld words) first
  pub mentioned : All (IsHeld words) (map mentioned_name (stmts_mentions program))
  pub within : All (λ block. All (IsBlockHeld words) block.1) (blocks program)

-- the local names of each code block by text are the words of its local names, in the same order
abbrev pub EachHasItsLocals : Type 0
EachHasItsLocals = (words : List (List ℕ)) (first : List Name) (program : Stmts Name) → HoldsEachOnce words → AreHeld words first program → (block : ℕ)
    → locals same_text (map (word_of words) first) (named (word_of words) program) block ≡ map (word_of words) (locals same_name first program block)

-- each code block finds a text where it finds the name whose word it is
abbrev pub EachFindsItsNames : Type 0
EachFindsItsNames = (words : List (List ℕ)) (first : List Name) (program : Stmts Name) → HoldsEachOnce words → AreHeld words first program
    → (block : ℕ) (name : Name) → IsHeld words name
    → place same_text (named (word_of words) program) block (word_of words name) ≡ place same_name program block name

-- the table is that of a program whose names are texts: by number, each block has the local names, and finds each word, as the blocks around it have them
pub record AreScopesByText (words : List (List ℕ)) (table : List Scope) (first : List (List ℕ)) (program : Stmts (List ℕ)) : Type 0 where
  pub blocks : length table ≡ suc (block_count program)
  pub local_names : (k : ℕ) → k < length table → map (word_of words) (locals_of table k) ≡ locals same_text first program k
  pub places : (k : ℕ) (name : Name) → k < length table → IsHeld words name → found_from table k name ≡ place same_text program k (word_of words name)

-- the table of a program by places is its table by text
abbrev pub EachTableIsByText : Type 0
EachTableIsByText = (words : List (List ℕ)) (table : List Scope) (first : List Name) (program : Stmts Name) → HoldsEachOnce words → AreHeld words first program
    → AreScopesOf table first program → AreScopesByText words table (map (word_of words) first) (named (word_of words) program)

-- so are the scopes of a program whose code blocks have their numbers
abbrev pub ScopesAreByText : Type 0
ScopesAreByText = (words : List (List ℕ)) (first : List Name) (program : Stmts Name) → HoldsEachOnce words → AreHeld words first program
    → HasNumbers program → AreScopesByText words (scopes first program) (map (word_of words) first) (named (word_of words) program)
