-- Programs: bytes whose tokens, with f-literals and sets written out, spell a tree (Python Language Reference, Top-level
-- components).
use Rattle.std.specs.Prelude.{◌≡◌, ℕ, negsuc, Bool, true, false, List, map, chars, Ok}
use Rattle.std.specs.List.{All, list_all}
use Rattle.std.specs.Str.{IsUtf8}
use Rattle.rp_base.specs.Names.{HoldsEachOnce, word_of}
use Rattle.rp_base.specs.declared.value.Name.{Name}
use Rattle.rp_grammar.specs.Kinds.{Tokens}
use Rattle.rp_grammar.specs.Program.{Spells}
use Rattle.rp_more.specs.Expanded.{expanded}
use Rattle.rp_token.specs.declared.token.Token.{Token}
use Rattle.rp_token.specs.declared.token.TokenKind.{TokenKind}
use Rattle.rp_token.specs.declared.token.TokenKind.TheVariants as kind
use Rattle.rp_token.specs.Form.{Item}
use Rattle.rp_token.specs.Tokens.{tokens_of}
use Rattle.rp_token.specs.View.{IsHeld, item_view}
use Rattle.rp_tree.specs.Maps.{named}
use Rattle.rp_tree.specs.StatementTrees.{Stmts}

-- no number below 0, which no text spells
abbrev pub is_spelled : TokenKind → Bool
is_spelled (kind.Int (negsuc n)) = false
is_spelled k = true

-- The tokens are these items, where a name is the place of its word among the words.
pub record HasTokens (items : List Item) (words : List (List ℕ)) (tokens : Tokens) : Type 0 where
  pub distinct : HoldsEachOnce words
  pub held : All (IsHeld words) tokens
  pub spelled : list_all (λ (t : Token). is_spelled t.kind) tokens ≡ true
  pub are : items ≡ map (item_view words) tokens

-- The items spell the tree, whose names are texts: for some numbering of words, tokens that are the items spell the tree
-- with each name in the place of its word.
pub record SpellTree (items : List Item) (tree : Stmts (List ℕ)) : Type 0 where
  pub words : List (List ℕ)
  pub tokens : Tokens
  pub has : HasTokens items words tokens
  pub numbered : Stmts Name
  pub spells : Spells numbered tokens
  pub is : tree ≡ named (word_of words) numbered

-- The bytes are the UTF-8 of a text, and its tokens, with f-literals and sets written out for the grammar, are these
-- items.
pub record HasItems (bytes : List ℕ) (items : List Item) : Type 0 where
  pub text : IsUtf8 bytes
  pub given : List Item
  pub read : tokens_of (chars bytes) ≡ Ok given
  pub expansion : expanded given ≡ Ok items

-- The bytes are a program, and this is its tree, whose names are texts.
pub record IsProgram (bytes : List ℕ) (tree : Stmts (List ℕ)) : Type 0 where
  pub items : List Item
  pub has : HasItems bytes items
  pub spell : SpellTree items tree

-- The tokens are those of the bytes as the grammar takes them, where a name is the place of its word among the words.
pub record IsRead (bytes : List ℕ) (words : List (List ℕ)) (tokens : Tokens) : Type 0 where
  pub has : HasItems bytes (map (item_view words) tokens)
  pub are : HasTokens (map (item_view words) tokens) words tokens
