-- Which tree a list of tokens spells, and how far a list without a tree is good (Python Language Reference, File input).
use Rattle.std.specs.Prelude.{◌≡◌, ◌≤◌, ℕ, [], ◌∷◌, ◌++◌, length, count_by, replicate, Bool, true, false}
use Rattle.rp_token.specs.declared.token.Token.{Token}
use Rattle.rp_token.specs.declared.token.TokenKind.{TokenKind}
use Rattle.rp_token.specs.declared.token.TokenKind.TheVariants as kind
use Rattle.rp_tree.specs.Heights.{stmts_height}
use Rattle.rp_tree.specs.Statements.{Stmts}
use Rattle.rp_grammar.specs.Kinds.{Tokens, first}
use Rattle.rp_grammar.specs.Statements.{top, IsStatements}

-- the greatest height of a statement
abbrev pub highest : ℕ
highest = 200

-- the tree is spelled by the tokens, the last of which is END, and no statement is too high
pub record Spells (tree : Stmts) (ts : Tokens) : Type 0 where
  pub rest : Tokens
  pub statements : IsStatements top tree ts rest
  pub ends : first rest ≡ kind.End
  pub alone : length rest ≡ 1
  pub low : stmts_height tree ≤ highest

-- a token on any line
abbrev pub token : TokenKind → Token
token k = record { kind = k; from = 0; to = 0; line = record { 0 = 0 } }

abbrev pub is_indent : Token → Bool
is_indent t = is_indent_kind t.kind where
  is_indent_kind : TokenKind → Bool
  is_indent_kind kind.Indent = true
  is_indent_kind k = false

-- `pass`, NEWLINE, so many DEDENTs, and END
abbrev pub ending : ℕ → Tokens
ending n = token kind.Pass ∷ token kind.Newline ∷ (replicate n (token kind.Dedent) ++ token kind.End ∷ [])

-- Followed by such an ending, the front is a program: what it leaves open can be closed. So is the empty front.
pub record IsGood (front : Tokens) : Type 0 where
  pub dedents : ℕ
  pub enough : dedents ≤ count_by is_indent front
  pub tree : Stmts
  pub spelled : Spells tree (front ++ ending dedents)

-- behind this front, which is the longest good one, the rest begins
pub record IsLongestGood (front rest ts : Tokens) : Type 0 where
  pub parts : ts ≡ front ++ rest
  pub good : IsGood front
  pub longest : (more others : Tokens) → ts ≡ more ++ others → IsGood more → length more ≤ length front
