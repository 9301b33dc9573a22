-- The law that the tokens of an f-literal's call spell the tree of that call (Python Language Reference, Full Grammar
-- specification).
use Rattle.std.specs.Prelude.{◌≡◌, ℕ, List, [], ◌∷◌, ◌++◌, codes, Some, None}
use Rattle.rp_base.specs.Names.{word_of}
use Rattle.rp_base.specs.declared.value.Line.{Line}
use Rattle.rp_base.specs.declared.value.Name.{Name}
use Rattle.rp_grammar.specs.Expressions.{Atom, Primary}
use Rattle.rp_grammar.specs.Kinds.{Tokens, first, line_at, skip}
use Rattle.rp_more.specs.Expression.{expression_of}
use Rattle.rp_more.specs.Literals.{elements, join_call}
use Rattle.rp_more.specs.Pieces as source
use Rattle.rp_token.specs.Form.{Form, mark}
use Rattle.rp_token.specs.View.{form_view}
use Rattle.rp_tree.specs.Expressions as tree
use Rattle.rp_more_laws.specs.Literals.{Piece, Spelling, literal_tree, part, run}

-- the tokens from one place of a list up to another have these forms, and stand on one line
abbrev pub HaveForms : List (List ℕ) → Line → List Form → Tokens → Tokens → Type 0
HaveForms words line [] ts us = ts ≡ us
HaveForms words line (f ∷ fs) ts us =
    (form_view words (first ts) ≡ f) × (line_at ts ≡ line) × HaveForms words line fs (skip ts) us

-- the forms spell a tree where they stand in parentheses
abbrev pub SpellPart : List (List ℕ) → Line → List Form → tree.Expr → Type 0
SpellPart words line fs x =
    (ts us : Tokens) → HaveForms words line (mark (codes "(") ∷ (fs ++ mark (codes ")") ∷ [])) ts us → Atom x ts us

-- a piece of a text, with the tree of its expression
abbrev pub IsPiece : List (List ℕ) → Line → source.Piece → Piece → Type 0
IsPiece words line (source.run cs) (run ds) = cs ≡ ds
IsPiece words line (source.part cs) (part x) =
    (fs : List Form) → expression_of cs ≡ Some fs → SpellPart words line fs x
IsPiece words line m x = ⊥

abbrev pub ArePieces : List (List ℕ) → Line → List source.Piece → List Piece → Type 0
ArePieces words line [] [] = Unit {0}
ArePieces words line (m ∷ ms) (x ∷ xs) = IsPiece words line m x × ArePieces words line ms xs
ArePieces words line ms xs = ⊥

abbrev pub spelling : Line → Name → Name → Spelling
spelling line join str = record { line = line; join = record { name = join; line = line }; str = str; mark = None }

-- the name of a word
abbrev pub Names : List (List ℕ) → List ℕ → Name → Type 0
Names words word n = (m : Name) → word_of words m ≡ word → m ≡ n

abbrev pub EachLiteralIsSpelled : Type 0
EachLiteralIsSpelled =
    (words : List (List ℕ)) (line : Line) (join str : Name) (ms : List source.Piece) (ps : List Piece) (fs : List Form)
    (ts us : Tokens) → Names words (codes "join") join → Names words (codes "str") str → ArePieces words line ms ps
    → elements [] ms ≡ Some fs → HaveForms words line (join_call fs) ts us
    → Primary (literal_tree (spelling line join str) ps) ts us
