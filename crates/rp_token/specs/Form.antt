-- What a token is (Python Language Reference, lexical analysis).
use Rattle.std.specs.Prelude.{ℕ, List, [], ◌∷◌, codes}

-- the form of a token: a name by its text, a number by its value, a text literal by the characters that it stands for,
-- a keyword and a mark by their spelling
pub data Form : Type 0 where
  name : List ℕ → Form
  number : ℕ → Form
  literal : List ℕ → Form
  keyword : List ℕ → Form
  mark : List ℕ → Form
  newline : Form
  indent : Form
  dedent : Form
  end_of_text : Form

-- a token: its form, the bytes before it and up to its end, and its line
pub record Item : Type 0 where
  pub form : Form
  pub from : ℕ
  pub to : ℕ
  pub line : ℕ

-- the marks: those with one first character stand together, longer ones before their fronts
abbrev pub marks : List (List ℕ)
marks =
    codes "**=" ∷ codes "**" ∷ codes "*=" ∷ codes "*" ∷ codes "//=" ∷ codes "//" ∷ codes "<<=" ∷ codes "<<" ∷ codes "<=" ∷ codes "<"
    ∷ codes ">>=" ∷ codes ">>" ∷ codes ">=" ∷ codes ">" ∷ codes "==" ∷ codes "=" ∷ codes "!=" ∷ codes "+=" ∷ codes "+" ∷ codes "-="
    ∷ codes "-" ∷ codes "%=" ∷ codes "%" ∷ codes "&=" ∷ codes "&" ∷ codes "|=" ∷ codes "|" ∷ codes "^=" ∷ codes "^" ∷ codes "~"
    ∷ codes "(" ∷ codes ")" ∷ codes "[" ∷ codes "]" ∷ codes "{" ∷ codes "}" ∷ codes "," ∷ codes ":" ∷ codes "." ∷ codes ";" ∷ []
