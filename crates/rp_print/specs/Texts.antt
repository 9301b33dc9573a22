-- Texts that are put together: lists with commas, tuples, calls, lines (Python Language Reference, Expression lists,
-- Calls, Line structure).
use Rattle.std.specs.Prelude.{ℕ, zero, suc, ◌==◌, Bool, true, false, List, [], ◌∷◌, ◌++◌, length, codes, if◌then◌else◌}

infixl 60 ◌⧺◌
-- one text behind another; proofs know it by its laws alone
unfoldable pub ◌⧺◌ : List ℕ → List ℕ → List ℕ
a ⧺ b = a ++ b

-- texts, each of them behind a separator
unfoldable pub further : List ℕ → List (List ℕ) → List ℕ
further separator [] = []
further separator (x ∷ xs) = separator ⧺ x ⧺ further separator xs

-- texts with a separator between two of them
unfoldable pub joined : List ℕ → List (List ℕ) → List ℕ
joined separator [] = []
joined separator (x ∷ xs) = x ⧺ further separator xs

abbrev pub listed : List (List ℕ) → List ℕ
listed = joined (codes ", ")

-- a text, in parentheses unless it stands alone
unfoldable pub bracketed : Bool → List ℕ → List ℕ
bracketed true t = t
bracketed false t = codes "(" ⧺ t ⧺ codes ")"

-- a space before a list, where it has a part
unfoldable pub space_before : List (List ℕ) → List ℕ
space_before [] = []
space_before (x ∷ xs) = codes " "

-- a tuple of one part ends with a comma
unfoldable pub tuple_end : ℕ → List ℕ
tuple_end count = if count == 1 then codes ",)" else codes ")"

abbrev pub tuple_text : List (List ℕ) → List ℕ
tuple_text parts = codes "(" ⧺ listed parts ⧺ tuple_end (length parts)

-- a call of a function, or of what gives one
abbrev pub call_text : List ℕ → List (List ℕ) → List ℕ
call_text function arguments = function ⧺ codes "(" ⧺ listed arguments ⧺ codes ")"

-- a name as a text literal
abbrev pub name_literal : List ℕ → List ℕ
name_literal name = codes "'" ⧺ name ⧺ codes "'"

-- four spaces for each block around
unfoldable pub indentation : ℕ → List ℕ
indentation zero = []
indentation (suc depth) = codes "    " ⧺ indentation depth

-- a line within so many blocks
abbrev pub line : ℕ → List ℕ → List ℕ
line depth t = indentation depth ⧺ t ⧺ codes "\n"
