-- Which token of the definition a token of the program is.
use Rattle.std.specs.Prelude.{◌≡◌, ◌<◌, ⊤, ℕ, pos, negsuc, List, [], Option, None, Some, chars, codes, drop, length}
use Rattle.std.specs.Str.{IsUtf8}
use Rattle.rp_base.specs.Names.{word_of}
use Rattle.rp_token.specs.declared.token.Token.{Token}
use Rattle.rp_token.specs.declared.token.TokenKind.{TokenKind}
use Rattle.rp_token.specs.declared.token.TokenKind.TheVariants as kind
use Rattle.rp_token.specs.Form.{Form, name, number, literal, keyword, mark, newline, indent, dedent, end_of_text, Item}

-- a name by the text that is held at its place, a keyword and a mark by their spelling; no token is a number below 0
abbrev pub form_view : List (List ℕ) → TokenKind → Form
form_view names (kind.Name n) = name (word_of names n)
form_view names (kind.Int (pos n)) = number n
form_view names (kind.Int (negsuc n)) = mark []
form_view names (kind.Text t) = literal t
form_view names kind.Newline = newline
form_view names kind.Indent = indent
form_view names kind.Dedent = dedent
form_view names kind.End = end_of_text
form_view names kind.False = keyword (codes "False")
form_view names kind.None = keyword (codes "None")
form_view names kind.True = keyword (codes "True")
form_view names kind.And = keyword (codes "and")
form_view names kind.As = keyword (codes "as")
form_view names kind.Assert = keyword (codes "assert")
form_view names kind.Async = keyword (codes "async")
form_view names kind.Await = keyword (codes "await")
form_view names kind.Break = keyword (codes "break")
form_view names kind.Class = keyword (codes "class")
form_view names kind.Continue = keyword (codes "continue")
form_view names kind.Def = keyword (codes "def")
form_view names kind.Del = keyword (codes "del")
form_view names kind.Elif = keyword (codes "elif")
form_view names kind.Else = keyword (codes "else")
form_view names kind.Except = keyword (codes "except")
form_view names kind.Finally = keyword (codes "finally")
form_view names kind.For = keyword (codes "for")
form_view names kind.From = keyword (codes "from")
form_view names kind.Global = keyword (codes "global")
form_view names kind.If = keyword (codes "if")
form_view names kind.Import = keyword (codes "import")
form_view names kind.In = keyword (codes "in")
form_view names kind.Is = keyword (codes "is")
form_view names kind.Lambda = keyword (codes "lambda")
form_view names kind.Nonlocal = keyword (codes "nonlocal")
form_view names kind.Not = keyword (codes "not")
form_view names kind.Or = keyword (codes "or")
form_view names kind.Pass = keyword (codes "pass")
form_view names kind.Raise = keyword (codes "raise")
form_view names kind.Return = keyword (codes "return")
form_view names kind.Try = keyword (codes "try")
form_view names kind.While = keyword (codes "while")
form_view names kind.With = keyword (codes "with")
form_view names kind.Yield = keyword (codes "yield")
form_view names kind.Plus = mark (codes "+")
form_view names kind.Minus = mark (codes "-")
form_view names kind.Star = mark (codes "*")
form_view names kind.DoubleStar = mark (codes "**")
form_view names kind.DoubleSlash = mark (codes "//")
form_view names kind.Percent = mark (codes "%")
form_view names kind.Amper = mark (codes "&")
form_view names kind.VBar = mark (codes "|")
form_view names kind.Circumflex = mark (codes "^")
form_view names kind.Tilde = mark (codes "~")
form_view names kind.Less = mark (codes "<")
form_view names kind.Greater = mark (codes ">")
form_view names kind.Equal = mark (codes "=")
form_view names kind.LeftParen = mark (codes "(")
form_view names kind.RightParen = mark (codes ")")
form_view names kind.LeftBracket = mark (codes "[")
form_view names kind.RightBracket = mark (codes "]")
form_view names kind.LeftBrace = mark (codes "{")
form_view names kind.RightBrace = mark (codes "}")
form_view names kind.Comma = mark (codes ",")
form_view names kind.Colon = mark (codes ":")
form_view names kind.Dot = mark (codes ".")
form_view names kind.Semicolon = mark (codes ";")
form_view names kind.LeftShift = mark (codes "<<")
form_view names kind.RightShift = mark (codes ">>")
form_view names kind.LessEqual = mark (codes "<=")
form_view names kind.GreaterEqual = mark (codes ">=")
form_view names kind.EqualEqual = mark (codes "==")
form_view names kind.NotEqual = mark (codes "!=")
form_view names kind.PlusEqual = mark (codes "+=")
form_view names kind.MinusEqual = mark (codes "-=")
form_view names kind.StarEqual = mark (codes "*=")
form_view names kind.DoubleSlashEqual = mark (codes "//=")
form_view names kind.PercentEqual = mark (codes "%=")
form_view names kind.DoubleStarEqual = mark (codes "**=")
form_view names kind.AmperEqual = mark (codes "&=")
form_view names kind.VBarEqual = mark (codes "|=")
form_view names kind.CircumflexEqual = mark (codes "^=")
form_view names kind.LeftShiftEqual = mark (codes "<<=")
form_view names kind.RightShiftEqual = mark (codes ">>=")

abbrev pub item_view : List (List ℕ) → Token → Item
item_view names t = record { form = form_view names t.kind; from = t.from; to = t.to; line = t.line.0 }

-- the name in a token, if it is one, is held
abbrev pub IsHeldKind : List (List ℕ) → TokenKind → Type 0
IsHeldKind names (kind.Name n) = n.0 < length names
IsHeldKind names _ = ⊤

abbrev pub IsHeld : List (List ℕ) → Token → Type 0
IsHeld names t = IsHeldKind names t.kind

-- the mark that was found at the front of a text, as a token and what stands behind it
abbrev pub IsMark : Option (List ℕ) → List ℕ → TokenKind → List ℕ → Type 0
IsMark (Some m) cs kind rest = ((names : List (List ℕ)) → form_view names kind ≡ mark m) × (chars rest ≡ drop (length m) cs) × IsUtf8 rest
IsMark None cs kind rest = ⊥
