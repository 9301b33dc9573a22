-- What the kind of a token is, and what its form is.
use Rattle.std.proofs.Common.{◌≡◌, ℕ, List, [], codes, refl}
use Rattle.std.specs.Prelude.{negsuc}
use Rattle.rp_token.specs.Laws.{opens, closes}
use Rattle.rp_token.specs.View.{form_view}
use Rattle.rp_token.specs.declared.token.TokenKind.{TokenKind}
use Rattle.rp_token.specs.declared.token.TokenKind.TheVariants as kind
use Rattle.rp_more.specs.Forms as form
use Rattle.rp_more.specs.KindSteps as step
use Rattle.rp_more.specs.Sets as sets

pub form-opens : (names : List (List ℕ)) (k : TokenKind) → form.opens (form_view names k) ≡ opens k
form-opens names (kind.Int (negsuc n)) = refl
form-opens names k = refl

pub form-closes : (names : List (List ℕ)) (k : TokenKind) → form.closes (form_view names k) ≡ closes k
form-closes names (kind.Int (negsuc n)) = refl
form-closes names k = refl

pub form-left_brace : (names : List (List ℕ)) (k : TokenKind) → form.is_mark (codes "{") (form_view names k) ≡ step.is_left_brace k
form-left_brace names (kind.Int (negsuc n)) = refl
form-left_brace names k = refl

pub form-right_brace : (names : List (List ℕ)) (k : TokenKind) → form.is_mark (codes "}") (form_view names k) ≡ step.is_right_brace k
form-right_brace names (kind.Int (negsuc n)) = refl
form-right_brace names k = refl

pub form-comma : (names : List (List ℕ)) (k : TokenKind) → form.is_mark (codes ",") (form_view names k) ≡ step.is_comma k
form-comma names (kind.Int (negsuc n)) = refl
form-comma names k = refl

pub form-colon : (names : List (List ℕ)) (k : TokenKind) → form.is_mark (codes ":") (form_view names k) ≡ step.is_colon k
form-colon names (kind.Int (negsuc n)) = refl
form-colon names k = refl

pub form-is_in : (names : List (List ℕ)) (k : TokenKind) → form.is_keyword (codes "in") (form_view names k) ≡ step.is_in k
form-is_in names (kind.Int (negsuc n)) = refl
form-is_in names k = refl

pub form-is_for : (names : List (List ℕ)) (k : TokenKind) → form.is_keyword (codes "for") (form_view names k) ≡ step.is_for k
form-is_for names (kind.Int (negsuc n)) = refl
form-is_for names k = refl

pub form-ends_operand : (names : List (List ℕ)) (k : TokenKind) → form.ends_operand (form_view names k) ≡ step.ends_operand k
form-ends_operand names (kind.Int (negsuc n)) = refl
form-ends_operand names k = refl

pub form-may_follow : (names : List (List ℕ)) (k : TokenKind) → sets.may_follow (form_view names k) ≡ step.may_follow k
form-may_follow names (kind.Int (negsuc n)) = refl
form-may_follow names k = refl

-- what is no text has no characters
pub text_of-none : (names : List (List ℕ)) (k : TokenKind) → ((t : List ℕ) → k ≡ kind.Text t → ⊥) → form.text_of (form_view names k) ≡ []
text_of-none names (kind.Text t) other = absurd (other t refl)
text_of-none names (kind.Int (negsuc n)) other = refl
text_of-none names k other = refl
