-- The numbers that words spell (Python Language Reference, integer literals).
use Rattle.std.specs.Prelude.{ℕ, ◌&&◌, ◌||◌, ◌==◌, not, nat_lt, nat_le, if◌then◌else◌, List, [], ◌∷◌, length, drop, map, Option, Some, None, option_map, option_and_then}
use Rattle.std.specs.Char.{digit_value, is_digit}
use Rattle.std.specs.Int.Digits.{number_from_digits}
use Rattle.std.specs.List.{list_all}
use Rattle.rp_token.specs.Characters.{first}

-- the greatest number of a script
abbrev pub greatest_number : ℕ
greatest_number = 9223372036854775807

-- without the underscores, each of which stands before another character than an underscore
abbrev pub ungrouped : List ℕ → Option (List ℕ)
ungrouped [] = Some []
ungrouped (c ∷ []) = if c == 95 then None else Some (c ∷ [])
ungrouped (c ∷ d ∷ ds) = if c == 95 then (if d == 95 then None else ungrouped (d ∷ ds)) else option_map (λ rest. c ∷ rest) (ungrouped (d ∷ ds))

-- one digit of the base or more, as the sum of the digits times the powers of the base
abbrev pub in_base : ℕ → List ℕ → Option ℕ
in_base base digits =
    if nat_lt 0 (length digits) && list_all (λ c. is_digit c base) digits then Some (number_from_digits base (map digit_value digits)) else None

-- the number of one digit of the base or more, with underscores among them
abbrev pub value_in : ℕ → List ℕ → Option ℕ
value_in base word = option_and_then (in_base base) (ungrouped word)

-- a decimal number has no zero at its front, unless it is all zeros
abbrev pub decimal_value : List ℕ → Option ℕ
decimal_value word = if (first word == 48) && not (list_all (λ c. (c == 48) || (c == 95)) word) then None else value_in 10 word

-- the base that the second character of a word that begins with 0 asks for
abbrev pub base_of : ℕ → Option ℕ
base_of c =
    if (c == 120) || (c == 88) then Some 16 else if (c == 111) || (c == 79) then Some 8 else if (c == 98) || (c == 66) then Some 2 else None

abbrev pub based_value : Option ℕ → List ℕ → Option ℕ
based_value (Some base) word = value_in base (drop 2 word)
based_value None word = decimal_value word

-- up to the greatest number
abbrev pub limited : ℕ → Option ℕ
limited n = if nat_le n greatest_number then Some n else None

-- the number that a word stands for
abbrev pub number_of : List ℕ → Option ℕ
number_of word = option_and_then limited (based_value (if first word == 48 then base_of (first (drop 1 word)) else None) word)
