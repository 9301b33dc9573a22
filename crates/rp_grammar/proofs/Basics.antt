-- What the combinators of reading answer.
use Rattle.std.proofs.Common.{◌≡◌, ℕ, zero, suc, Bool, true, false, cond, Option, Some, None, refl, ap, subst, ◌∙◌, ◌⊎◌, inl, inr}
use Rattle.rp_token.specs.declared.token.TokenKind.{TokenKind}
use Rattle.rp_token.specs.declared.token.TokenKind.TheVariants as kind
use Rattle.rp_grammar.specs.Kinds.{Tokens, first, skip}
use Rattle.rp_grammar.specs.Front.{is_comma}
use Rattle.rp_grammar.specs.ExpressionReading.{Read, ◌>>=◌, after, alike, many, listed}
use Rattle.rp_grammar.proofs.ExpressionMarks.{comma_is}

pub bind_some : {A B : Type 0} (o : Option A) (f : A → Option B) (y : B) → (o >>= f) ≡ Some y → (x : A) × (o ≡ Some x) × (f x ≡ Some y)
bind_some None f y e = absurd cc
bind_some (Some x) f y e = (x, refl, e)

pub some_is : {A : Type 0} {x y : A} → ◌≡◌ {A = Option A} (Some x) (Some y) → x ≡ y
some_is e = cc

pub chosen : {A : Type 0} (b : Bool) (x y z : A) → cond b x y ≡ z → ((b ≡ true) × (x ≡ z)) ⊎ ((b ≡ false) × (y ≡ z))
chosen true x y z e = inl (refl, e)
chosen false x y z e = inr (refl, e)

pub guarded : {A : Type 0} (b : Bool) (x y : A) → cond b (Some x) None ≡ Some y → (b ≡ true) × (x ≡ y)
guarded true x y e = (refl, cc)
guarded false x y e = absurd cc

pub alike_reads : {A : Type 0} (read : Tokens → Read A) (ts us : Tokens) (x : A) → read ts ≡ Some (x, us) → alike read tt ts ≡ Some ((x, tt), us)
alike_reads read ts us x is = rw is refl

-- what is read only where a test holds
pub tested : {A : Type 0} (b : Bool) (o : Option A) (y : A) → cond b o None ≡ Some y → (b ≡ true) × (o ≡ Some y)
tested true o y e = (refl, e)
tested false o y e = absurd cc

-- a token that has to come, and what is read behind it
pub after_some : {B : Type 0} (is : TokenKind → Bool) (ts : Tokens) (f : Tokens → Option B) (y : B) → (after is ts >>= f) ≡ Some y → (is (first ts) ≡ true) × (f (skip ts) ≡ Some y)
after_some is ts f y e =
    let (rest, found, more) = bind_some (after is ts) f y e in
    let (comes, same) = guarded (is (first ts)) (skip ts) rest found in
    (comes, ap f same ∙ more)

-- a fact on what was read, at the value and the tokens that were answered
pub got : {A : Type 0} (P : A → Tokens → Tokens → Type 0) (ts : Tokens) {v : A} {us : Tokens} {x : A × Tokens} → ◌≡◌ {A = Option (A × Tokens)} (Some (v, us)) (Some x) → P v ts us → P x.0 ts x.1
got {A} P ts e p = subst (λ (z : A × Tokens). P z.0 ts z.1) (some_is e) p

-- what many answers is made of what its items are
pub many_sound : {A L : Type 0} (nil : L) (cons : A → L → L) (begins : Tokens → Bool) (read : Tokens → Read A) (P : A → Tokens → Tokens → Type 0) (R : L → Tokens → Tokens → Type 0)
    → ((ts : Tokens) → R nil ts ts)
    → ((x : A) (xs : L) (ts us vs : Tokens) → P x ts us → R xs us vs → R (cons x xs) ts vs)
    → ((ts : Tokens) (x : A × Tokens) → begins ts ≡ true → read ts ≡ Some x → P x.0 ts x.1)
    → (n : ℕ) (ts : Tokens) (y : L × Tokens) → many nil cons begins read n ts ≡ Some y → R y.0 ts y.1
unfolding many
many_sound nil cons begins read P R ends goes sound zero ts y e = absurd cc
many_sound nil cons begins read P R ends goes sound (suc n) ts y e =
    elim (chosen (begins ts) _ _ _ e) [
      | inl (begun, h) ↦
          let (x, found, more) = bind_some _ _ _ h in
          let (xs, others, all) = bind_some _ _ _ more in
          got R ts all (goes x.0 xs.0 ts x.1 xs.1 (sound ts x begun found) (many_sound nil cons begins read P R ends goes sound n x.1 xs others))
      | inr (over, h) ↦ got R ts h (ends ts)
    ]

-- where an item begins there is a first one
pub many_first : {A L : Type 0} (nil : L) (cons : A → L → L) (begins : Tokens → Bool) (read : Tokens → Read A) (n : ℕ) (ts : Tokens) (y : L × Tokens) → begins ts ≡ true → many nil cons begins read n ts ≡ Some y
    → (x : A × Tokens) × (m : ℕ) × (xs : L × Tokens) × (read ts ≡ Some x) × (many nil cons begins read m x.1 ≡ Some xs) × ((cons x.0 xs.0, xs.1) ≡ y)
unfolding many
many_first nil cons begins read zero ts y begun e = absurd cc
many_first nil cons begins read (suc n) ts y begun e =
    elim (chosen (begins ts) _ _ _ e) [
      | inl (begun, h) ↦
          let (x, found, more) = bind_some _ _ _ h in
          let (xs, others, all) = bind_some _ _ _ more in
          (x, n, xs, found, others, some_is all)
      | inr (over, h) ↦ absurd cc
    ]

-- what listed answers is made of what its items are
pub listed_sound : {S A L : Type 0} (open_end shut_end : L) (cons : A → L → L) (begins : TokenKind → Bool) (read : S → Tokens → Read (A × S))
    (P : S → A × S → Tokens → Tokens → Type 0) (R : S → L → Tokens → Tokens → Type 0)
    → ((s : S) (ts : Tokens) → R s open_end ts ts)
    → ((s : S) (x : A × S) (ts us : Tokens) → P s x ts us → R s (cons x.0 shut_end) ts us)
    → ((s : S) (x : A × S) (xs : L) (ts us vs : Tokens) → P s x ts us → first us ≡ kind.Comma → R x.1 xs (skip us) vs → R s (cons x.0 xs) ts vs)
    → ((s : S) (ts : Tokens) (x : (A × S) × Tokens) → read s ts ≡ Some x → P s x.0 ts x.1)
    → (n : ℕ) (s : S) (ts : Tokens) (y : L × Tokens) → listed open_end shut_end cons begins read n s ts ≡ Some y → R s y.0 ts y.1
unfolding listed
listed_sound open_end shut_end cons begins read P R ends shuts goes sound zero s ts y e = absurd cc
listed_sound open_end shut_end cons begins read P R ends shuts goes sound (suc n) s ts y e =
    elim (chosen (begins (first ts)) _ _ _ e) [
      | inl (begun, h) ↦
          let (x, found, more) = bind_some _ _ _ h in
          let item = sound s ts x found in
          elim (chosen (is_comma (first x.1)) _ _ _ more) [
            | inl (comma, h) ↦
                let (xs, others, all) = bind_some _ _ _ h in
                got (R s) ts all (goes s x.0 xs.0 ts x.1 xs.1 item (comma_is _ comma) (listed_sound open_end shut_end cons begins read P R ends shuts goes sound n x.0.1 (skip x.1) xs others))
            | inr (no_comma, h) ↦ got (R s) ts h (shuts s x.0 ts x.1 item)
          ]
      | inr (over, h) ↦ got (R s) ts h (ends s ts)
    ]
