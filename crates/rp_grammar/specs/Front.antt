-- Tests of the token at the front.
use Rattle.std.specs.Prelude.{ℕ, Bool, true, false, ◌||◌, List, Option, None, Some}
use Rattle.rp_token.specs.declared.token.TokenKind.{TokenKind}
use Rattle.rp_token.specs.declared.token.TokenKind.TheVariants as kind

abbrev pub is_comma : TokenKind → Bool
is_comma kind.Comma = true
is_comma _ = false

abbrev pub is_colon : TokenKind → Bool
is_colon kind.Colon = true
is_colon _ = false

abbrev pub is_equal : TokenKind → Bool
is_equal kind.Equal = true
is_equal _ = false

abbrev pub is_star : TokenKind → Bool
is_star kind.Star = true
is_star _ = false

abbrev pub is_double_star : TokenKind → Bool
is_double_star kind.DoubleStar = true
is_double_star _ = false

abbrev pub is_right_paren : TokenKind → Bool
is_right_paren kind.RightParen = true
is_right_paren _ = false

abbrev pub is_right_bracket : TokenKind → Bool
is_right_bracket kind.RightBracket = true
is_right_bracket _ = false

abbrev pub is_right_brace : TokenKind → Bool
is_right_brace kind.RightBrace = true
is_right_brace _ = false

abbrev pub is_text : TokenKind → Bool
is_text (kind.Text s) = true
is_text _ = false

abbrev pub is_name : TokenKind → Bool
is_name (kind.Name n) = true
is_name _ = false

abbrev pub is_lambda : TokenKind → Bool
is_lambda kind.Lambda = true
is_lambda _ = false

abbrev pub is_if : TokenKind → Bool
is_if kind.If = true
is_if _ = false

abbrev pub is_else : TokenKind → Bool
is_else kind.Else = true
is_else _ = false

abbrev pub is_or : TokenKind → Bool
is_or kind.Or = true
is_or _ = false

abbrev pub is_and : TokenKind → Bool
is_and kind.And = true
is_and _ = false

abbrev pub is_not : TokenKind → Bool
is_not kind.Not = true
is_not _ = false

abbrev pub is_in : TokenKind → Bool
is_in kind.In = true
is_in _ = false

abbrev pub is_for : TokenKind → Bool
is_for kind.For = true
is_for _ = false

-- the characters of a text literal
abbrev pub text_of : TokenKind → Option (List ℕ)
text_of (kind.Text s) = Some s
text_of _ = None

-- an expression can begin so
abbrev pub starts : TokenKind → Bool
starts (kind.Name n) = true
starts (kind.Int n) = true
starts (kind.Text s) = true
starts kind.None = true
starts kind.True = true
starts kind.False = true
starts kind.LeftParen = true
starts kind.LeftBracket = true
starts kind.LeftBrace = true
starts kind.Minus = true
starts kind.Plus = true
starts kind.Tilde = true
starts kind.Not = true
starts kind.Lambda = true
starts _ = false

-- an argument can begin so
abbrev pub starts_arg : TokenKind → Bool
starts_arg kind.Star = true
starts_arg kind.DoubleStar = true
starts_arg k = starts k

-- a trailer can begin so
abbrev pub starts_trailer : TokenKind → Bool
starts_trailer kind.Dot = true
starts_trailer kind.LeftBracket = true
starts_trailer kind.LeftParen = true
starts_trailer _ = false

-- an operator of comparison begins so, by the two tokens at the front
abbrev pub starts_test : TokenKind → TokenKind → Bool
starts_test kind.Less l = true
starts_test kind.LessEqual l = true
starts_test kind.Greater l = true
starts_test kind.GreaterEqual l = true
starts_test kind.EqualEqual l = true
starts_test kind.NotEqual l = true
starts_test kind.In l = true
starts_test kind.Is l = true
starts_test kind.Not l = is_in l
starts_test _ l = false

-- with such a token an expression before it goes on: adjacent texts, trailers, operators and the conditional
abbrev pub goes_on : TokenKind → Bool
goes_on (kind.Text s) = true
goes_on kind.Dot = true
goes_on kind.LeftParen = true
goes_on kind.LeftBracket = true
goes_on kind.DoubleStar = true
goes_on kind.Star = true
goes_on kind.DoubleSlash = true
goes_on kind.Percent = true
goes_on kind.Plus = true
goes_on kind.Minus = true
goes_on kind.LeftShift = true
goes_on kind.RightShift = true
goes_on kind.Amper = true
goes_on kind.Circumflex = true
goes_on kind.VBar = true
goes_on kind.Less = true
goes_on kind.LessEqual = true
goes_on kind.Greater = true
goes_on kind.GreaterEqual = true
goes_on kind.EqualEqual = true
goes_on kind.NotEqual = true
goes_on kind.In = true
goes_on kind.Is = true
goes_on kind.Not = true
goes_on kind.And = true
goes_on kind.Or = true
goes_on kind.If = true
goes_on _ = false

-- with such a token an expression list before it goes on, whether its last token is a comma or not
abbrev pub goes_on_list : TokenKind → Bool
goes_on_list k = goes_on k || is_comma k || starts k

-- with such a token a target before it goes on
abbrev pub goes_on_target : TokenKind → Bool
goes_on_target k = is_comma k || starts k || starts_trailer k

-- with such a token parameters before it go on
abbrev pub goes_on_params : TokenKind → Bool
goes_on_params k = goes_on k || is_comma k || is_name k || is_equal k
