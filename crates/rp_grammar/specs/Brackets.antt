-- How many brackets are open at the places of a list of tokens.
use Rattle.std.specs.Prelude.{◌≤◌, ℕ, suc, ◌-◌, [], ◌∷◌}
use Rattle.rp_token.specs.declared.token.TokenKind.{TokenKind}
use Rattle.rp_token.specs.declared.token.TokenKind.TheVariants as kind
use Rattle.rp_grammar.specs.Kinds.{Tokens}

-- how many are open behind a token, where n are open before it
abbrev pub open_behind : TokenKind → ℕ → ℕ
open_behind kind.LeftParen n = suc n
open_behind kind.LeftBracket n = suc n
open_behind kind.LeftBrace n = suc n
open_behind kind.RightParen n = n - 1
open_behind kind.RightBracket n = n - 1
open_behind kind.RightBrace n = n - 1
open_behind k n = n

-- where n are open before the tokens, no place among them stands within more than so many
abbrev pub IsShallow : ℕ → ℕ → Tokens → Type 0
IsShallow most n [] = n ≤ most
IsShallow most n (t ∷ ts) = (n ≤ most) × IsShallow most (open_behind t.kind n) ts
