-- A test of a kind names the kind.
use Rattle.std.proofs.Common.{◌≡◌, true, refl}
use Rattle.rp_token.specs.declared.token.TokenKind.{TokenKind}
use Rattle.rp_token.specs.declared.token.TokenKind.TheVariants as kind
use Rattle.rp_grammar.specs.StatementReading as stmt_reading

pub newline_is : (k : TokenKind) → stmt_reading.is_newline k ≡ true → k ≡ kind.Newline
newline_is kind.Newline h = refl
newline_is _ h = absurd cc

pub elif_is : (k : TokenKind) → stmt_reading.is_elif k ≡ true → k ≡ kind.Elif
elif_is kind.Elif h = refl
elif_is _ h = absurd cc

pub else_is : (k : TokenKind) → stmt_reading.is_else k ≡ true → k ≡ kind.Else
else_is kind.Else h = refl
else_is _ h = absurd cc

pub finally_is : (k : TokenKind) → stmt_reading.is_finally k ≡ true → k ≡ kind.Finally
finally_is kind.Finally h = refl
finally_is _ h = absurd cc

pub except_is : (k : TokenKind) → stmt_reading.is_except k ≡ true → k ≡ kind.Except
except_is kind.Except h = refl
except_is _ h = absurd cc

pub indent_is : (k : TokenKind) → stmt_reading.is_indent k ≡ true → k ≡ kind.Indent
indent_is kind.Indent h = refl
indent_is _ h = absurd cc

pub left_paren_is : (k : TokenKind) → stmt_reading.is_left_paren k ≡ true → k ≡ kind.LeftParen
left_paren_is kind.LeftParen h = refl
left_paren_is _ h = absurd cc
