-- What holds of the tokens of every text. A parser may ask the same of the tokens that it is given.
use Rattle.std.specs.Prelude.{◌≡◌, ℕ, ◌+◌, ◌-◌, ◌≤◌, Bool, true, false, ◌==◌, if◌then◌else◌, List, [], ◌∷◌, length}
use Rattle.std.specs.List.{count_by}
use Rattle.std.specs.Str.{IsCharBoundary}
use Rattle.rp_token.specs.declared.token.Token.{Token}
use Rattle.rp_token.specs.declared.token.TokenKind.{TokenKind}
use Rattle.rp_token.specs.declared.token.TokenKind.TheVariants as kind

abbrev pub is_end : TokenKind → Bool
is_end kind.End = true
is_end _ = false

-- the list ends with its only END
abbrev pub ends_once : List Token → Bool
ends_once [] = false
ends_once (t ∷ ts) = if is_end t.kind then length ts == 0 else ends_once ts

abbrev pub EndsOnce : List Token → Type 0
EndsOnce ts = ends_once ts ≡ true

-- the tokens lie one behind another from a place to the end of the text, each from one character boundary to another
abbrev pub LieInOrder : List ℕ → ℕ → List Token → Type 0
LieInOrder text least [] = least ≤ length text
LieInOrder text least (t ∷ ts) = (least ≤ t.from) × (t.from ≤ t.to) × IsCharBoundary text t.from × IsCharBoundary text t.to × LieInOrder text t.to ts

abbrev pub is_indent : TokenKind → Bool
is_indent kind.Indent = true
is_indent _ = false

abbrev pub is_dedent : TokenKind → Bool
is_dedent kind.Dedent = true
is_dedent _ = false

-- as many blocks end as begin
abbrev pub BlocksEnd : List Token → Type 0
BlocksEnd ts = count_by (λ t. is_indent t.kind) ts ≡ count_by (λ t. is_dedent t.kind) ts

abbrev pub opens : TokenKind → Bool
opens kind.LeftParen = true
opens kind.LeftBracket = true
opens kind.LeftBrace = true
opens _ = false

abbrev pub closes : TokenKind → Bool
closes kind.RightParen = true
closes kind.RightBracket = true
closes kind.RightBrace = true
closes _ = false

-- how many brackets are open behind a token, where so many are before it; where none is, none is closed
abbrev pub open_behind : ℕ → TokenKind → ℕ
open_behind n k = if opens k then n + 1 else if closes k then n - 1 else n

-- where n brackets are open before the list, no more than the limit are before it, within it or behind it
abbrev pub IsWithin : ℕ → ℕ → List Token → Type 0
IsWithin limit n [] = n ≤ limit
IsWithin limit n (t ∷ ts) = (n ≤ limit) × IsWithin limit (open_behind n t.kind) ts
