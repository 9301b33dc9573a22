-- The kind of a token by its form.
use Rattle.std.proofs.Common.{◌≡◌, refl, sym, ap, ◌∙◌, true≢false, ℕ, Bool, true, false, List, codes, pos, negsuc}
use Rattle.rp_more.specs.Forms.{is_keyword, is_mark}
use Rattle.rp_more.specs.KindSteps.{is_colon, is_left_brace, is_right_brace}
pub use Rattle.rp_more_laws.proofs.Spelled.{comma}
use Rattle.rp_token.specs.Form.{keyword, mark}
use Rattle.rp_token.specs.View.{form_view}
use Rattle.rp_token.specs.declared.token.TokenKind.{TokenKind}
use Rattle.rp_token.specs.declared.token.TokenKind.TheVariants as kind

left_brace_form : (words : List (List ℕ)) (k : TokenKind) → is_mark (codes "{") (form_view words k) ≡ is_left_brace k
left_brace_form words (kind.Int (pos n)) = refl
left_brace_form words (kind.Int (negsuc n)) = refl
left_brace_form words k = refl

left_brace_kind : (k : TokenKind) → is_left_brace k ≡ true → k ≡ kind.LeftBrace
left_brace_kind kind.LeftBrace h = refl
left_brace_kind k h = absurd (true≢false (sym h))

pub left_brace : (words : List (List ℕ)) (k : TokenKind) → form_view words k ≡ mark (codes "{") → k ≡ kind.LeftBrace
left_brace words k h = left_brace_kind k (sym (left_brace_form words k) ∙ ap (is_mark (codes "{")) h)

right_brace_form : (words : List (List ℕ)) (k : TokenKind) → is_mark (codes "}") (form_view words k) ≡ is_right_brace k
right_brace_form words (kind.Int (pos n)) = refl
right_brace_form words (kind.Int (negsuc n)) = refl
right_brace_form words k = refl

right_brace_kind : (k : TokenKind) → is_right_brace k ≡ true → k ≡ kind.RightBrace
right_brace_kind kind.RightBrace h = refl
right_brace_kind k h = absurd (true≢false (sym h))

pub right_brace : (words : List (List ℕ)) (k : TokenKind) → form_view words k ≡ mark (codes "}") → k ≡ kind.RightBrace
right_brace words k h = right_brace_kind k (sym (right_brace_form words k) ∙ ap (is_mark (codes "}")) h)

colon_form : (words : List (List ℕ)) (k : TokenKind) → is_mark (codes ":") (form_view words k) ≡ is_colon k
colon_form words (kind.Int (pos n)) = refl
colon_form words (kind.Int (negsuc n)) = refl
colon_form words k = refl

colon_kind : (k : TokenKind) → is_colon k ≡ true → k ≡ kind.Colon
colon_kind kind.Colon h = refl
colon_kind k h = absurd (true≢false (sym h))

pub colon : (words : List (List ℕ)) (k : TokenKind) → form_view words k ≡ mark (codes ":") → k ≡ kind.Colon
colon words k h = colon_kind k (sym (colon_form words k) ∙ ap (is_mark (codes ":")) h)

abbrev is_nil : TokenKind → Bool
is_nil kind.None = true
is_nil k = false

nil_form : (words : List (List ℕ)) (k : TokenKind) → is_keyword (codes "None") (form_view words k) ≡ is_nil k
nil_form words (kind.Int (pos n)) = refl
nil_form words (kind.Int (negsuc n)) = refl
nil_form words k = refl

nil_kind : (k : TokenKind) → is_nil k ≡ true → k ≡ kind.None
nil_kind kind.None h = refl
nil_kind k h = absurd (true≢false (sym h))

pub nil : (words : List (List ℕ)) (k : TokenKind) → form_view words k ≡ keyword (codes "None") → k ≡ kind.None
nil words k h = nil_kind k (sym (nil_form words k) ∙ ap (is_keyword (codes "None")) h)
