-- How rocks are shown inside a container (Python Standard Library, repr): texts in quotes with their escapes, the rest as written.
-- Other way: the escapes of a text's characters are lists that are joined; the code adds the runs between them, found among the bytes, to one text.
use Rattle.std.specs.Prelude.{ℕ, ◌/◌, ◌%◌, Bool, true, false, ◌==◌, ◌&&◌, ◌||◌, not, nat_lt, List, [], ◌∷◌, ◌++◌, codes, if◌then◌else◌}
use Rattle.std.specs.Char.{digit_char}
use Rattle.std.specs.Fmt.{signed_decimal}
use Rattle.std.specs.List.{list_any}
use Rattle.rp_base.specs.declared.value.Rock.{Rock}
use Rattle.rp_base.specs.declared.value.Rock.TheVariants as rock
use Rattle.rp_base.specs.Kind.{kind_name}
use Rattle.rp_base.specs.Native.{native_name}

-- characters that texts have of their own
abbrev pub tab : ℕ
tab = 9

abbrev pub newline : ℕ
newline = 10

abbrev pub return : ℕ
return = 13

abbrev pub quote : ℕ
quote = 34

abbrev pub apostrophe : ℕ
apostrophe = 39

abbrev pub backslash : ℕ
backslash = 92

abbrev pub holds : ℕ → List ℕ → Bool
holds c t = list_any (λ d. d == c) t

-- the quote that a text is shown in: ' but where it holds that and no "
abbrev pub quote_of : List ℕ → ℕ
quote_of t = if holds apostrophe t && not (holds quote t) then quote else apostrophe

-- a control character by its number in two hex digits
abbrev pub hex_escape : ℕ → List ℕ
hex_escape c = codes "\\x" ++ digit_char (c / 16) ∷ digit_char (c % 16) ∷ []

abbrev pub is_control : ℕ → Bool
is_control c = nat_lt c 32 || (c == 127)

abbrev pub escaped : ℕ → ℕ → List ℕ
escaped q c =
    if (c == backslash) || (c == q) then backslash ∷ c ∷ []
    else if c == newline then codes "\\n"
    else if c == return then codes "\\r"
    else if c == tab then codes "\\t"
    else if is_control c then hex_escape c
    else c ∷ []

abbrev pub escaped_all : ℕ → List ℕ → List ℕ
escaped_all q [] = []
escaped_all q (c ∷ cs) = escaped q c ++ escaped_all q cs

abbrev pub quoted : List ℕ → List ℕ
quoted t = quote_of t ∷ (escaped_all (quote_of t) t ++ quote_of t ∷ [])

-- an exception value, as a call that makes it
abbrev pub exception_call : List ℕ → List ℕ → List ℕ
exception_call kind [] = kind ++ codes "()"
exception_call kind text = kind ++ codes "(" ++ quoted text ++ codes ")"

abbrev pub shown_inside : Rock → List ℕ
shown_inside rock.Nil = codes "None"
shown_inside (rock.Truth true) = codes "True"
shown_inside (rock.Truth false) = codes "False"
shown_inside (rock.Int n) = signed_decimal n
shown_inside (rock.Text t) = quoted t
shown_inside (rock.Exc k t) = exception_call (kind_name k) t
shown_inside (rock.Kind k) = codes "<class '" ++ kind_name k ++ codes "'>"
shown_inside (rock.Native f) = codes "<function " ++ native_name f ++ codes ">"
