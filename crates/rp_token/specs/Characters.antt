-- Characters at the front of a text.
use Rattle.std.specs.Prelude.{ℕ, Bool, ◌||◌, ◌==◌, not, if◌then◌else◌, List, [], ◌∷◌, length, take_while, drop}
use Rattle.std.specs.List.{list_all}
use Rattle.unicode_ident.specs.Ident.{is_xid_continue}

-- the first character, and 0 where there is none
abbrev pub first : List ℕ → ℕ
first [] = 0
first (c ∷ cs) = c

-- none of the words begins with the character
abbrev pub none_begins : ℕ → List (List ℕ) → Bool
none_begins c words = list_all (λ w. not (first w == c)) words

-- a blank that separates tokens
abbrev pub is_blank : ℕ → Bool
is_blank c = (c == 32) || (c == 9)

abbrev pub is_line_end : ℕ → Bool
is_line_end c = (c == 10) || (c == 13)

-- what a comment goes on over
abbrev pub is_comment : ℕ → Bool
is_comment c = not (is_line_end c)

-- what a number's word goes on over
abbrev pub is_numeral : ℕ → Bool
is_numeral c = (c == 46) || is_xid_continue c

-- what is left behind the longest run of such characters at the front
abbrev pub behind_run : (ℕ → Bool) → List ℕ → List ℕ
behind_run test cs = drop (length (take_while test cs)) cs

-- the characters that a line end at the front takes: CR LF two, LF and CR one, and none where there is no line end
abbrev pub line_end_length : List ℕ → ℕ
line_end_length cs = if first cs == 10 then 1 else if first cs == 13 then (if first (drop 1 cs) == 10 then 2 else 1) else 0
