-- Which token a test of the front has found.
use Rattle.std.proofs.Common.{◌≡◌, ℕ, true, List, refl}
use Rattle.rp_base.specs.declared.value.Name.{Name}
use Rattle.rp_token.specs.declared.token.TokenKind.{TokenKind}
use Rattle.rp_token.specs.declared.token.TokenKind.TheVariants as kind
use Rattle.rp_grammar.specs.Front as token_tests

pub comma_is : (k : TokenKind) → token_tests.is_comma k ≡ true → k ≡ kind.Comma
comma_is kind.Comma e = refl
comma_is _ e = absurd cc

pub colon_is : (k : TokenKind) → token_tests.is_colon k ≡ true → k ≡ kind.Colon
colon_is kind.Colon e = refl
colon_is _ e = absurd cc

pub equal_is : (k : TokenKind) → token_tests.is_equal k ≡ true → k ≡ kind.Equal
equal_is kind.Equal e = refl
equal_is _ e = absurd cc

pub star_is : (k : TokenKind) → token_tests.is_star k ≡ true → k ≡ kind.Star
star_is kind.Star e = refl
star_is _ e = absurd cc

pub double_star_is : (k : TokenKind) → token_tests.is_double_star k ≡ true → k ≡ kind.DoubleStar
double_star_is kind.DoubleStar e = refl
double_star_is _ e = absurd cc

pub right_paren_is : (k : TokenKind) → token_tests.is_right_paren k ≡ true → k ≡ kind.RightParen
right_paren_is kind.RightParen e = refl
right_paren_is _ e = absurd cc

pub right_bracket_is : (k : TokenKind) → token_tests.is_right_bracket k ≡ true → k ≡ kind.RightBracket
right_bracket_is kind.RightBracket e = refl
right_bracket_is _ e = absurd cc

pub right_brace_is : (k : TokenKind) → token_tests.is_right_brace k ≡ true → k ≡ kind.RightBrace
right_brace_is kind.RightBrace e = refl
right_brace_is _ e = absurd cc

pub lambda_is : (k : TokenKind) → token_tests.is_lambda k ≡ true → k ≡ kind.Lambda
lambda_is kind.Lambda e = refl
lambda_is _ e = absurd cc

pub if_is : (k : TokenKind) → token_tests.is_if k ≡ true → k ≡ kind.If
if_is kind.If e = refl
if_is _ e = absurd cc

pub else_is : (k : TokenKind) → token_tests.is_else k ≡ true → k ≡ kind.Else
else_is kind.Else e = refl
else_is _ e = absurd cc

pub or_is : (k : TokenKind) → token_tests.is_or k ≡ true → k ≡ kind.Or
or_is kind.Or e = refl
or_is _ e = absurd cc

pub and_is : (k : TokenKind) → token_tests.is_and k ≡ true → k ≡ kind.And
and_is kind.And e = refl
and_is _ e = absurd cc

pub not_is : (k : TokenKind) → token_tests.is_not k ≡ true → k ≡ kind.Not
not_is kind.Not e = refl
not_is _ e = absurd cc

pub in_is : (k : TokenKind) → token_tests.is_in k ≡ true → k ≡ kind.In
in_is kind.In e = refl
in_is _ e = absurd cc

pub for_is : (k : TokenKind) → token_tests.is_for k ≡ true → k ≡ kind.For
for_is kind.For e = refl
for_is _ e = absurd cc

pub name_is : (k : TokenKind) → token_tests.is_name k ≡ true → (n : Name) × (k ≡ kind.Name n)
name_is (kind.Name n) e = (n, refl)
name_is _ e = absurd cc

pub text_is : (k : TokenKind) → token_tests.is_text k ≡ true → (s : List ℕ) × (k ≡ kind.Text s)
text_is (kind.Text s) e = (s, refl)
text_is _ e = absurd cc
