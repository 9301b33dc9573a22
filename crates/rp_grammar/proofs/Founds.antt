-- What the combinators of reading answer, where places are told.
use Rattle.std.proofs.Common.{◌≡◌, ℕ, ◌≤◌, Bool, true, false, cond, not, ◌&&◌, Option, Some, None, Ok, Err, refl, ap, subst}
use Rattle.std.proofs.lemmas.Bool.{leb-true}
use Rattle.rp_token.specs.declared.token.TokenKind.{TokenKind}
use Rattle.rp_grammar.specs.Kinds.{Tokens, first, skip}
use Rattle.rp_grammar.specs.ExpressionReading.{Read}
use Rattle.rp_grammar.specs.StatementReading.{Found, ◌>>>◌, from, hidden, within, expected, no_member}

pub ok_is : {A : Type 0} {x y : A × Tokens} → ◌≡◌ {A = Found A} (Ok x) (Ok y) → x ≡ y
ok_is e = cc

pub bind_ok : {A B : Type 0} (o : Found A) (f : A × Tokens → Found B) (y : B × Tokens) → (o >>> f) ≡ Ok y → (x : A × Tokens) × (o ≡ Ok x) × (f x ≡ Ok y)
bind_ok (Ok x) f y e = (x, refl, e)
bind_ok (Err q) f y e = absurd cc

pub from_ok : {A : Type 0} (ts : Tokens) (o : Found A) (y : A × Tokens) → from ts o ≡ Ok y → o ≡ Ok y
from_ok ts (Ok x) y e = e
from_ok ts (Err None) y e = absurd cc
from_ok ts (Err (Some q)) y e = absurd cc

pub hidden_ok : {A : Type 0} (o : Found A) (y : A × Tokens) → hidden o ≡ Ok y → o ≡ Ok y
hidden_ok (Ok x) y e = e
hidden_ok (Err q) y e = absurd cc

-- what is read only where a test holds
pub only_ok : {A : Type 0} (b : Bool) (o : Found A) (q : Option Tokens) (y : A × Tokens) → cond b o (Err q) ≡ Ok y → (b ≡ true) × (o ≡ Ok y)
only_ok true o q y e = (refl, e)
only_ok false o q y e = absurd cc

pub within_ok : {A : Type 0} (height : A → ℕ) (h : ℕ) (o : Read A) (x : A × Tokens) → within height h o ≡ Ok x → (o ≡ Some x) × (height x.0 ≤ h)
within_ok height h None x e = absurd cc
within_ok {A} height h (Some y) x e =
    let (low, same) = only_ok _ _ _ _ e in
    let is : y ≡ x = ok_is same in
    (ap (λ (z : A × Tokens). Some z) is, subst (λ (z : A × Tokens). height z.0 ≤ h) is (leb-true (height y.0) h low))

pub expected_ok : {A : Type 0} (is : TokenKind → Bool) (more : Tokens → Found A) (ts : Tokens) (y : A × Tokens) → expected is more ts ≡ Ok y → (is (first ts) ≡ true) × (more (skip ts) ≡ Ok y)
expected_ok is more ts y e = only_ok (is (first ts)) (more (skip ts)) None y e

pub no_member_ok : {A : Type 0} (members : Bool) (found : Found A) (y : A × Tokens) → no_member members found ≡ Ok y → (members ≡ false) × (found ≡ Ok y)
no_member_ok true found y e = absurd cc
no_member_ok false found y e = (refl, e)

-- a fact on what was read, at the value and the tokens that were answered
pub got_ok : {A : Type 0} (P : A → Tokens → Tokens → Type 0) (ts : Tokens) {v : A} {us : Tokens} {x : A × Tokens} → ◌≡◌ {A = Found A} (Ok (v, us)) (Ok x) → P v ts us → P x.0 ts x.1
got_ok {A} P ts e q = subst (λ (z : A × Tokens). P z.0 ts z.1) (ok_is e) q

-- a value that is taken only if it is a member where members are wanted
pub member_ok : {A : Type 0} (members member : Bool) (x y : A × Tokens) → cond {A = Found A} (members && not member) (Err None) (Ok x) ≡ Ok y → (members ≡ true → member ≡ true) × (x ≡ y)
member_ok true true x y e = (λ m. refl, ok_is e)
member_ok true false x y e = absurd cc
member_ok false member x y e = (λ m. absurd cc, ok_is e)
