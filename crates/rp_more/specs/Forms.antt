-- What the form of a token is.
use Rattle.std.specs.Prelude.{ℕ, nat_eq, Bool, true, false, ◌||◌, List, [], ◌∷◌, codes}
use Rattle.std.specs.Cmp.Lexicographic.{pointwise}
use Rattle.std.specs.List.{list_any}
use Rattle.rp_token.specs.Form.{Form, name, number, literal, keyword, mark, newline, end_of_text, Item}

-- the two words have the same characters
abbrev pub same : List ℕ → List ℕ → Bool
same = pointwise nat_eq

abbrev pub is_mark : List ℕ → Form → Bool
is_mark word (mark m) = same word m
is_mark word form = false

abbrev pub is_keyword : List ℕ → Form → Bool
is_keyword word (keyword k) = same word k
is_keyword word form = false

abbrev pub is_one_mark : List (List ℕ) → Form → Bool
is_one_mark words form = list_any (λ word. is_mark word form) words

abbrev pub is_one_keyword : List (List ℕ) → Form → Bool
is_one_keyword words form = list_any (λ word. is_keyword word form) words

-- a bracket that opens, and one that closes
abbrev pub opens : Form → Bool
opens form = is_one_mark (codes "(" ∷ codes "[" ∷ codes "{" ∷ []) form

abbrev pub closes : Form → Bool
closes form = is_one_mark (codes ")" ∷ codes "]" ∷ codes "}" ∷ []) form

-- an operand may end with the token
abbrev pub ends_operand : Form → Bool
ends_operand (name n) = true
ends_operand (number n) = true
ends_operand (literal t) = true
ends_operand form = is_one_keyword (codes "None" ∷ codes "True" ∷ codes "False" ∷ []) form || closes form

abbrev pub is_newline : Form → Bool
is_newline newline = true
is_newline form = false

abbrev pub is_end : Form → Bool
is_end end_of_text = true
is_end form = false

abbrev pub is_literal : Form → Bool
is_literal (literal t) = true
is_literal form = false

-- the characters that a text literal stands for
abbrev pub text_of : Form → List ℕ
text_of (literal t) = t
text_of form = []

-- a new token, in the place of another: in its line, and where it begins
abbrev pub placed : Item → Form → Item
placed t form = record { form = form; from = t.from; to = t.from; line = t.line }
