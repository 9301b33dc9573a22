-- The texts that literals stand for (Python Language Reference, string literals).
use Rattle.std.specs.Prelude.{ℕ, zero, suc, ◌+◌, ◌-◌, ◌&&◌, ◌==◌, nat_eq, if◌then◌else◌, List, [], ◌∷◌, ◌++◌, length, take, drop, map, Option, Some, None}
use Rattle.std.specs.Char.{is_digit, digit_value}
use Rattle.std.specs.Int.Digits.{number_from_digits}
use Rattle.std.specs.List.{list_all, starts_with}
use Rattle.std.specs.Map.{lookup}
use Rattle.std.specs.Option.{option_map_or}
use lib.Utf8.{scalar}
use Rattle.rp_token.specs.Characters.{line_end_length}

-- the character behind a backslash, and the one that both stand for
abbrev pub plain_escapes : List (ℕ × ℕ)
plain_escapes =
    (92, 92) ∷ (39, 39) ∷ (34, 34) ∷ (110, 10) ∷ (114, 13) ∷ (116, 9) ∷ (97, 7) ∷ (98, 8) ∷ (102, 12) ∷ (118, 11) ∷ []

-- the character behind a backslash, and how many hexadecimal digits follow it
abbrev pub numbered_escapes : List (ℕ × ℕ)
numbered_escapes = (120, 2) ∷ (117, 4) ∷ (85, 8) ∷ []

-- an escape behind its backslash: the characters that it stands for, and how many it takes
pub record Escape : Type 0 where
  pub stands_for : List ℕ
  pub taken : ℕ

-- a character by its number, in so many hexadecimal digits
abbrev pub numbered : ℕ → List ℕ → Option Escape
numbered n cs =
    let digits = take n cs in
    let c = number_from_digits 16 (map digit_value digits) in
    if ((length digits == n) && list_all (λ d. is_digit d 16) digits) && scalar c then Some (record { stands_for = c ∷ []; taken = n + 1 }) else None

abbrev pub lettered : Option ℕ → Option ℕ → List ℕ → Option Escape
lettered (Some c) count cs = Some (record { stands_for = c ∷ []; taken = 1 })
lettered None (Some n) cs = numbered n cs
lettered None None cs = None

-- the escape at the front, where there is one; a line end stands for nothing
abbrev pub escape_of : List ℕ → Option Escape
escape_of [] = None
escape_of (c ∷ cs) =
    let line_end = line_end_length (c ∷ cs) in
    if line_end == 0 then lettered (lookup (λ d. d == c) plain_escapes) (lookup (λ d. d == c) numbered_escapes) cs
    else Some (record { stands_for = []; taken = line_end })

-- what a literal is behind its opening quotes: its text, the characters behind its closing quotes and the line ends
-- in it; or it does not end; or an escape is bad, behind so many line ends
pub data Reading : Type 0 where
  closed : List ℕ → List ℕ → ℕ → Reading
  unclosed : Reading
  bad_escape : ℕ → Reading

-- with these characters before the text, and so many more line ends
abbrev pub with_front : List ℕ → ℕ → Reading → Reading
with_front front lines (closed text rest more) = closed (front ++ text) rest (lines + more)
with_front front lines unclosed = unclosed
with_front front lines (bad_escape more) = bad_escape (lines + more)

-- how many line ends the first so many characters are, where they are one or none
abbrev pub line_ends : List ℕ → ℕ
line_ends cs = if line_end_length cs == 0 then 0 else 1

-- A literal behind its opening quotes, which are one or three of a kind. The first so many characters are a rest of
-- what was read, and are passed over. A line end in a literal of three quotes counts as LF.
abbrev pub literal_behind : List ℕ → ℕ → List ℕ → Reading
literal_behind quotes n [] = unclosed
literal_behind quotes (suc n) (c ∷ cs) = literal_behind quotes n cs
literal_behind quotes zero (c ∷ cs) =
    if starts_with nat_eq (c ∷ cs) quotes then closed [] (drop (length quotes) (c ∷ cs)) 0
    else if c == 92 then
    (if length cs == 0 then unclosed
    else option_map_or (λ e. with_front e.stands_for (line_ends cs) (literal_behind quotes e.taken cs)) (escape_of cs) (bad_escape 0))
    else if line_end_length (c ∷ cs) == 0 then with_front (c ∷ []) 0 (literal_behind quotes 0 cs)
    else if length quotes == 1 then unclosed
    else with_front (10 ∷ []) 1 (literal_behind quotes (line_end_length (c ∷ cs) - 1) cs)
