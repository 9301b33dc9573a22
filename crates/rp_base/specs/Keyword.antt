-- The keywords of Python 3 (Python Language Reference, "Keywords").
use Rattle.std.specs.Prelude.{ℕ, Bool, List, [], ◌∷◌, nat_eq, codes}
use Rattle.std.specs.List.{list_any}
use Rattle.std.specs.Cmp.Lexicographic.{pointwise}

-- the keywords, as their bytes
abbrev pub keywords : List (List ℕ)
keywords =
    codes "False" ∷ codes "None" ∷ codes "True" ∷ codes "and" ∷ codes "as" ∷ codes "assert" ∷ codes "async"
    ∷ codes "await" ∷ codes "break" ∷ codes "class" ∷ codes "continue" ∷ codes "def" ∷ codes "del" ∷ codes "elif"
    ∷ codes "else" ∷ codes "except" ∷ codes "finally" ∷ codes "for" ∷ codes "from" ∷ codes "global" ∷ codes "if"
    ∷ codes "import" ∷ codes "in" ∷ codes "is" ∷ codes "lambda" ∷ codes "nonlocal" ∷ codes "not" ∷ codes "or"
    ∷ codes "pass" ∷ codes "raise" ∷ codes "return" ∷ codes "try" ∷ codes "while" ∷ codes "with" ∷ codes "yield" ∷ []

-- the word is one of them
abbrev pub is_keyword : List ℕ → Bool
is_keyword word = list_any (λ keyword. pointwise nat_eq keyword word) keywords
