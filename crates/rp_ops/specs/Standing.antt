-- How the code keeps where a walk stands: beside a text the byte at which the next character begins, where the definitions have the characters that
-- are left.
use Rattle.std.specs.Prelude.{ℕ, List, chars, drop, encode_utf8_all}
use Rattle.std.specs.Str.{IsCharBoundary}
use Rattle.rp_ops.specs.Walk.{Cursor, elements_from, keys_from, characters_from}
use Rattle.rp_ops.specs.declared.cursor.Standing.{Standing}
use Rattle.rp_ops.specs.declared.cursor.Standing.TheVariants as standing

-- the characters of a text from a byte on
abbrev pub letters_left : List ℕ → ℕ → List ℕ
letters_left text next = chars (drop next (encode_utf8_all text))

abbrev pub cursor_of : Standing → Cursor
cursor_of (standing.Elements x next) = elements_from x.lent x.at next
cursor_of (standing.Keys at next size) = keys_from at next size
cursor_of (standing.Letters text next) = characters_from (letters_left text next)

-- a character begins at the byte, or the text ends there
abbrev pub IsStanding : Standing → Type 0
IsStanding (standing.Elements x next) = Unit {0}
IsStanding (standing.Keys at next size) = Unit {0}
IsStanding (standing.Letters text next) = IsCharBoundary (encode_utf8_all text) next
