-- What an identifier is (UAX 31), and which one a word spells (Python Language Reference, "Identifiers").
use Rattle.std.specs.Prelude.{◌≡◌, ℕ, Bool, false, ◌&&◌, ◌||◌, ◌==◌, nat_le, List, [], ◌∷◌, length, Option, Some, None, if◌then◌else◌, encode_utf8_all}
use Rattle.std.specs.List.{list_all}
use Rattle.unicode_ident.specs.Ident.{is_xid_start, is_xid_continue}
use Rattle.unicode_normalization.specs.Forms.{Nfkc, is_in_form, nfkc}

-- `_`, or a character that may begin an identifier
abbrev pub is_start : ℕ → Bool
is_start c = (c == 95) || is_xid_start c

-- the first of these characters may begin an identifier
abbrev pub begins_well : List ℕ → Bool
begins_well [] = false
begins_well (c ∷ cs) = is_start c

-- a character that may begin it, and characters that may continue it
abbrev pub is_identifier : List ℕ → Bool
is_identifier cs = begins_well cs && list_all is_xid_continue cs

-- the most bytes of UTF-8 that an identifier has
abbrev pub longest_name : ℕ
longest_name = 255

-- the identifier that a word spells: its form NFKC (UAX 15), where both are identifiers and the form
-- is not too long
abbrev pub identifier_of : List ℕ → Option (List ℕ)
identifier_of word =
    let form = nfkc word in
    if (is_identifier word && is_identifier form) && nat_le (length (encode_utf8_all form)) longest_name then Some form else None

-- the word is an identifier, and spelled in its form
abbrev pub IsIdentifier : List ℕ → Type 0
IsIdentifier word = identifier_of word ≡ Some word

-- the same, as a test
abbrev pub is_identifier_word : List ℕ → Bool
is_identifier_word word = (is_identifier word && nat_le (length (encode_utf8_all word)) longest_name) && is_in_form Nfkc word
