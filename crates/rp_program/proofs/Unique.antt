-- Tokens numbered by words are told by their items alone.
use Rattle.std.proofs.Common.{◌≡◌, refl, sym, ap, ◌∙◌, ℕ, suc, true, true≢false, nat_eq, if◌then◌else◌, List, [], ◌∷◌, get_or, map, codes, Some, slice_get, unwrap_or, arith}
use Rattle.std.specs.Prelude.{pos, negsuc}
use Rattle.std.specs.List.{All, list_all}
use Rattle.std.specs.Cmp.Lexicographic.{pointwise}
use Rattle.std.proofs.lemmas.Bool.{and_parts}
use Rattle.std.proofs.lemmas.Option.{slice_get-get_or}
use Rattle.rp_grammar.specs.Kinds.{Tokens}
use Rattle.rp_grammar.proofs.Renamed.{renamed_kind, renamed_tokens}
use Rattle.rp_token.specs.declared.token.Token.{Token}
use Rattle.rp_token.specs.declared.token.TokenKind.{TokenKind}
use Rattle.rp_token.specs.declared.token.TokenKind.TheVariants as kind
use Rattle.rp_token.specs.Form.{Form, Item, name, number, literal, keyword, mark, newline, indent, dedent, end_of_text}
use Rattle.rp_token.specs.View.{IsHeld, IsHeldKind, form_view, item_view}
use Rattle.rp_program.specs.Program.{is_spelled}
use Rattle.rp_program.proofs.Numbered.{number as number_at, renumbered}
use Rattle.rp_program.proofs.Words.{StandAmong, has_place, place_of}

abbrev found : List (List ℕ × TokenKind) → List ℕ → TokenKind
found [] s = kind.End
found (p ∷ ps) s = if pointwise nat_eq p.0 s then p.1 else found ps s

abbrev keywords : List (List ℕ × TokenKind)
keywords =
    (codes "False", kind.False) ∷ (codes "None", kind.None) ∷ (codes "True", kind.True) ∷ (codes "and", kind.And) ∷ (codes "as", kind.As)
    ∷ (codes "assert", kind.Assert) ∷ (codes "async", kind.Async) ∷ (codes "await", kind.Await) ∷ (codes "break", kind.Break) ∷ (codes "class", kind.Class)
    ∷ (codes "continue", kind.Continue) ∷ (codes "def", kind.Def) ∷ (codes "del", kind.Del) ∷ (codes "elif", kind.Elif) ∷ (codes "else", kind.Else)
    ∷ (codes "except", kind.Except) ∷ (codes "finally", kind.Finally) ∷ (codes "for", kind.For) ∷ (codes "from", kind.From) ∷ (codes "global", kind.Global)
    ∷ (codes "if", kind.If) ∷ (codes "import", kind.Import) ∷ (codes "in", kind.In) ∷ (codes "is", kind.Is) ∷ (codes "lambda", kind.Lambda)
    ∷ (codes "nonlocal", kind.Nonlocal) ∷ (codes "not", kind.Not) ∷ (codes "or", kind.Or) ∷ (codes "pass", kind.Pass) ∷ (codes "raise", kind.Raise)
    ∷ (codes "return", kind.Return) ∷ (codes "try", kind.Try) ∷ (codes "while", kind.While) ∷ (codes "with", kind.With) ∷ (codes "yield", kind.Yield) ∷ []

abbrev marks : List (List ℕ × TokenKind)
marks =
    (codes "+", kind.Plus) ∷ (codes "-", kind.Minus) ∷ (codes "*", kind.Star) ∷ (codes "**", kind.DoubleStar) ∷ (codes "//", kind.DoubleSlash)
    ∷ (codes "%", kind.Percent) ∷ (codes "&", kind.Amper) ∷ (codes "|", kind.VBar) ∷ (codes "^", kind.Circumflex) ∷ (codes "~", kind.Tilde)
    ∷ (codes "<", kind.Less) ∷ (codes ">", kind.Greater) ∷ (codes "=", kind.Equal) ∷ (codes "(", kind.LeftParen) ∷ (codes ")", kind.RightParen)
    ∷ (codes "[", kind.LeftBracket) ∷ (codes "]", kind.RightBracket) ∷ (codes "{", kind.LeftBrace) ∷ (codes "}", kind.RightBrace) ∷ (codes ",", kind.Comma)
    ∷ (codes ":", kind.Colon) ∷ (codes ".", kind.Dot) ∷ (codes ";", kind.Semicolon) ∷ (codes "<<", kind.LeftShift) ∷ (codes ">>", kind.RightShift)
    ∷ (codes "<=", kind.LessEqual) ∷ (codes ">=", kind.GreaterEqual) ∷ (codes "==", kind.EqualEqual) ∷ (codes "!=", kind.NotEqual) ∷ (codes "+=", kind.PlusEqual)
    ∷ (codes "-=", kind.MinusEqual) ∷ (codes "*=", kind.StarEqual) ∷ (codes "//=", kind.DoubleSlashEqual) ∷ (codes "%=", kind.PercentEqual) ∷ (codes "**=", kind.DoubleStarEqual)
    ∷ (codes "&=", kind.AmperEqual) ∷ (codes "|=", kind.VBarEqual) ∷ (codes "^=", kind.CircumflexEqual) ∷ (codes "<<=", kind.LeftShiftEqual) ∷ (codes ">>=", kind.RightShiftEqual) ∷ []

abbrev kind_of : List (List ℕ) → Form → TokenKind
kind_of words (name x) = kind.Name (record { 0 = unwrap_or (place_of words x) 0 })
kind_of words (number n) = kind.Int (pos n)
kind_of words (literal t) = kind.Text t
kind_of words (keyword s) = found keywords s
kind_of words (mark s) = found marks s
kind_of words newline = kind.Newline
kind_of words indent = kind.Indent
kind_of words dedent = kind.Dedent
kind_of words end_of_text = kind.End

abbrev token_of : List (List ℕ) → Item → Token
token_of words i = record { kind = kind_of words i.form; from = i.from; to = i.to; line = record { 0 = i.line } }

module _ (names words : List (List ℕ)) (stand : StandAmong names words) where
  kind_told : (k : TokenKind) → IsHeldKind names k → is_spelled k ≡ true → renamed_kind (renumbered names words) k ≡ kind_of words (form_view names k)
  kind_told (kind.Name n) held spelled =
      let w = get_or names n.0 [] in
      let here : slice_get names n.0 ≡ Some w = slice_get-get_or names n.0 [] held in
      let there = stand n.0 w here in
      let at = has_place words w there.0 there.1 in
      let left : number_at words n.0 (slice_get names n.0) ≡ at.0 = rw (here, at.1) refl in
      let right : unwrap_or (place_of words w) 0 ≡ at.0 = ap (λ o. unwrap_or o 0) at.1 in
      λ i. kind.Name (record { 0 = (left ∙ sym right) i })
  kind_told (kind.Int (pos n)) held spelled = refl
  kind_told (kind.Int (negsuc n)) held spelled = absurd (true≢false (sym spelled))
  kind_told _ held spelled = refl

  -- renumbered by words among which their own stand, they are what their items tell
  pub tokens_told : (ts : Tokens) → All (IsHeld names) ts → list_all (λ (t : Token). is_spelled t.kind) ts ≡ true
      → renamed_tokens (renumbered names words) ts ≡ map (token_of words) (map (item_view names) ts)
  tokens_told [] held spelled = refl
  tokens_told (t ∷ ts) held spelled =
      let parts = and_parts (is_spelled t.kind) (list_all (λ (t : Token). is_spelled t.kind) ts) spelled in
      let first = kind_told t.kind (held 0 t (omega arith)) parts.0 in
      let rest = tokens_told ts (λ k d within. held (suc k) d (omega arith)) parts.1 in
      λ i. record t { kind = first i } ∷ rest i
