-- What the kind of a token is, for the proofs of the code. Other way: the tests of Forms, by spelling.
use Rattle.std.specs.Prelude.{pos, Bool, true, false}
use Rattle.rp_token.specs.declared.token.TokenKind.{TokenKind}
use Rattle.rp_token.specs.declared.token.TokenKind.TheVariants as kind

abbrev pub is_left_brace : TokenKind → Bool
is_left_brace kind.LeftBrace = true
is_left_brace k = false

abbrev pub is_right_brace : TokenKind → Bool
is_right_brace kind.RightBrace = true
is_right_brace k = false

abbrev pub is_comma : TokenKind → Bool
is_comma kind.Comma = true
is_comma k = false

abbrev pub is_colon : TokenKind → Bool
is_colon kind.Colon = true
is_colon k = false

abbrev pub is_in : TokenKind → Bool
is_in kind.In = true
is_in k = false

abbrev pub is_for : TokenKind → Bool
is_for kind.For = true
is_for k = false

abbrev pub is_outer : TokenKind → Bool
is_outer kind.Newline = true
is_outer kind.End = true
is_outer k = false

abbrev pub ends_operand : TokenKind → Bool
ends_operand (kind.Name n) = true
ends_operand (kind.Int (pos n)) = true
ends_operand (kind.Text t) = true
ends_operand kind.None = true
ends_operand kind.True = true
ends_operand kind.False = true
ends_operand kind.RightParen = true
ends_operand kind.RightBracket = true
ends_operand kind.RightBrace = true
ends_operand k = false

abbrev pub may_follow : TokenKind → Bool
may_follow kind.Newline = true
may_follow kind.RightParen = true
may_follow kind.RightBracket = true
may_follow kind.RightBrace = true
may_follow kind.Colon = true
may_follow kind.Semicolon = true
may_follow kind.If = true
may_follow kind.Else = true
may_follow kind.And = true
may_follow kind.Or = true
may_follow kind.For = true
may_follow k = false
