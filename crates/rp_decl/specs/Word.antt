-- Ids and names.
use Rattle.std.specs.Prelude.{ℕ, Bool, false, ◌&&◌, ◌||◌, ◌==◌, not, nat_eq, nat_lt, nat_le, List, length, Option, Some, None}
use Rattle.std.specs.Char.{is_ascii_alphanumeric}
use Rattle.std.specs.Cmp.Lexicographic.{pointwise}
use Rattle.std.specs.List.{list_all, list_any}
use Rattle.rp_base.specs.Identifier.{identifier_of, longest_name}
use Rattle.rp_base.specs.Keyword.{is_keyword}
use Rattle.rp_base.specs.Same.{same_text}

-- `.`, `-` and `_`, and ASCII letters and digits
abbrev pub is_id_character : ℕ → Bool
is_id_character c = is_ascii_alphanumeric c || ((c == 46 || c == 45) || c == 95)

-- an id: ASCII letters, digits, dots, dashes and underscores, no more than a name may have
abbrev pub is_id : List ℕ → Bool
is_id word = (nat_lt 0 (length word) && nat_le (length word) longest_name) && list_all is_id_character word

abbrev pub is_form_of : List ℕ → Option (List ℕ) → Bool
is_form_of word (Some form) = same_text form word
is_form_of word None = false

-- an identifier in its form NFKC, and no keyword (Python Language Reference, identifiers and keywords)
abbrev pub is_declared_name : List ℕ → Bool
is_declared_name word = is_form_of word (identifier_of word) && not (is_keyword word)

-- one of these texts
abbrev pub is_among : List (List ℕ) → List ℕ → Bool
is_among texts text = list_any (same_text text) texts

-- one of these words of ASCII
abbrev pub is_word_of : List (List ℕ) → List ℕ → Bool
is_word_of words word = list_any (λ w. pointwise nat_eq w word) words
