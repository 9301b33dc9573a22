-- That printed text is read back: its tokens spell the same tree, but for lines and the numbers of code blocks (Python
-- Language Reference, Full Grammar specification), and expansion leaves them.
use Rattle.std.specs.Prelude.{◌≡◌, ℕ, ◌<◌, ◌≤◌, ⊤, pos, negsuc, false, true, List, length}
use Rattle.std.specs.Prelude.{Ok, encode_utf8_all}
use Rattle.std.specs.List.{All}
use lib.Utf8.{scalars}
use Rattle.rp_base.specs.Identifier.{IsIdentifier}
use Rattle.rp_base.specs.Keyword.{is_keyword}
use Rattle.rp_base.specs.Names.{HoldsEachOnce, word_of}
use Rattle.rp_base.specs.declared.value.Name.{Name}
use Rattle.rp_grammar.specs.Kinds.{Tokens}
use Rattle.rp_grammar.specs.Program.{Spells}
use Rattle.rp_more.specs.Expanded.{expanded}
use Rattle.rp_print.specs.Statements.{printed}
use Rattle.rp_program.specs.Program.{IsProgram, SpellTree}
use Rattle.rp_token.specs.declared.token.Token.{Token}
use Rattle.rp_token.specs.declared.token.TokenKind.{TokenKind}
use Rattle.rp_token.specs.declared.token.TokenKind.TheVariants as kind
use Rattle.rp_token.specs.Form.{Item}
use Rattle.rp_token.specs.Number.{greatest_number}
use Rattle.rp_token.specs.Tokens.{tokens_of}
use Rattle.rp_tree.specs.Maps.{named, shape_of}
use Rattle.rp_tree.specs.StatementTrees.{Stmts}

-- The tokens of the text, as they stand, spell the tree.
pub record TokensSpell (text : List ℕ) (tree : Stmts (List ℕ)) : Type 0 where
  pub items : List Item
  pub read : tokens_of text ≡ Ok items
  pub spell : SpellTree items tree

-- The text of the tree is of characters, and its tokens spell the same tree, but for lines.
pub record ReadsBack (tree : Stmts (List ℕ)) : Type 0 where
  pub again : Stmts (List ℕ)
  pub characters : scalars (printed tree) ≡ true
  pub spell : TokensSpell (printed tree) again
  pub alike : shape_of again ≡ shape_of tree

-- each program is read back from the text of its tree
abbrev pub EachProgramReadsBack : Type 0
EachProgramReadsBack = (bytes : List ℕ) (tree : Stmts (List ℕ)) → IsProgram bytes tree → ReadsBack tree

-- Tokens that spell a tree have no f-literal and no set in them: expansion leaves them.
abbrev pub EachSpelledListStays : Type 0
EachSpelledListStays = (items : List Item) (tree : Stmts (List ℕ)) → SpellTree items tree → expanded items ≡ Ok items

-- The text of the tree is a program, which has the same tree, but for lines.
pub record IsReadAgain (tree : Stmts (List ℕ)) : Type 0 where
  pub again : Stmts (List ℕ)
  pub program : IsProgram (encode_utf8_all (printed tree)) again
  pub same : shape_of again ≡ shape_of tree

abbrev pub EachPrintedTextIsAProgram : Type 0
EachPrintedTextIsAProgram = (bytes : List ℕ) (tree : Stmts (List ℕ)) → IsProgram bytes tree → IsReadAgain tree

-- a word that a name may be: an identifier in its form, and no keyword
pub record IsNameWord (word : List ℕ) : Type 0 where
  pub identifier : IsIdentifier word
  pub plain : is_keyword word ≡ false

-- what a token may be, by the words of names: no number is below 0 or above the greatest of a script, and literals are
-- of characters
abbrev pub MayStand : List (List ℕ) → TokenKind → Type 0
MayStand words (kind.Name n) = (n.0 < length words) × IsNameWord (word_of words n)
MayStand words (kind.Int (pos n)) = n ≤ greatest_number
MayStand words (kind.Int (negsuc n)) = ⊥
MayStand words (kind.Text t) = scalars t ≡ true
MayStand words k = ⊤

-- each tree that such tokens spell, of a text or not, is read back from its text, with its names by their words
abbrev pub EachSpelledTreeReadsBack : Type 0
EachSpelledTreeReadsBack =
    (words : List (List ℕ)) (tokens : Tokens) (tree : Stmts Name) → HoldsEachOnce words
    → All (λ (t : Token). MayStand words t.kind) tokens → Spells tree tokens → ReadsBack (named (word_of words) tree)
