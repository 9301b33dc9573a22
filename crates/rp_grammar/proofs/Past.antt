-- Readers of statements on two lists of tokens that have the same front: one with the ending that a good front is given, and one with
-- other tokens. Either reading stops before the end of the front in both, or it comes to the ending in the one and passes the front in the other.
use Rattle.std.proofs.Common.{◌≡◌, ℕ, ◌≤◌, nat_le, Bool, true, false, cond, [], ◌∷◌, ◌++◌, length, Option, Some, None, Ok, Err, refl, ap, ◌∙◌, ◌⊎◌, inl, inr, arith}
use Rattle.rp_token.specs.declared.token.Token.{Token}
use Rattle.rp_token.specs.declared.token.TokenKind.{TokenKind}
use Rattle.rp_token.specs.declared.token.TokenKind.TheVariants as kind
use Rattle.rp_grammar.specs.Kinds.{Tokens, first, skip}
use Rattle.rp_grammar.specs.ExpressionReading.{Read}
use Rattle.rp_grammar.proofs.ExpressionTakes.{skip_within}
use Rattle.rp_grammar.specs.StatementReading.{Found, ◌>>>◌, from, hidden, within, expected, ends}
use Rattle.rp_grammar.proofs.Local.{IsStuck, Halts, Rests, Follows, fails, halts, goes, Local}

-- ---- where an answer stands

-- at or behind s, and a place is told
abbrev pub Past : {A : Type 0} → Tokens → Found A → Type 0
Past s (Ok (x, us)) = length us ≤ length s
Past s (Err None) = ⊥
Past s (Err (Some q)) = length q ≤ length s

-- at or behind s, if a place is told
abbrev pub Shrinks : {A : Type 0} → Tokens → Found A → Type 0
Shrinks s (Ok (x, us)) = length us ≤ length s
Shrinks s (Err None) = Unit {0}
Shrinks s (Err (Some q)) = length q ≤ length s

pub past_shrinks : {A : Type 0} (s : Tokens) (o : Found A) → Past s o → Shrinks s o
past_shrinks s (Ok (x, us)) h = h
past_shrinks s (Err None) h = tt
past_shrinks s (Err (Some q)) h = h

pub from_past : {A : Type 0} (ts : Tokens) (o : Found A) → Shrinks ts o → Past ts (from ts o)
from_past ts (Ok (x, us)) h = h
from_past ts (Err None) h = omega arith
from_past ts (Err (Some q)) h = h

pub past_from : {A : Type 0} (ts s : Tokens) (o : Found A) → Past s o → Past s (from ts o)
past_from ts s (Ok (x, us)) h = h
past_from ts s (Err None) h = absurd h
past_from ts s (Err (Some q)) h = h

pub past_later : {A : Type 0} (us s : Tokens) (o : Found A) → length us ≤ length s → Past us o → Past s o
past_later us s (Ok (x, vs)) le h = omega (arith, h)
past_later us s (Err None) le h = absurd h
past_later us s (Err (Some q)) le h = omega (arith, h)

pub shrinks_later : {A : Type 0} (us s : Tokens) (o : Found A) → length us ≤ length s → Shrinks us o → Shrinks s o
shrinks_later us s (Ok (x, vs)) le h = omega (arith, h)
shrinks_later us s (Err None) le h = tt
shrinks_later us s (Err (Some q)) le h = omega (arith, h)

pub past_bind : {A B : Type 0} (s : Tokens) (o : Found A) (g : A → Tokens → Found B) → Past s o → ((x : A) (us : Tokens) → Past us (g x us)) → Past s (o >>> λ x. g x.0 x.1)
past_bind s (Ok (x, us)) g h k = past_later us s (g x us) h (k x us)
past_bind s (Err None) g h k = absurd h
past_bind s (Err (Some q)) g h k = h

pub shrinks_bind : {A B : Type 0} (s : Tokens) (o : Found A) (g : A → Tokens → Found B) → Shrinks s o → ((x : A) (us : Tokens) → Shrinks us (g x us)) → Shrinks s (o >>> λ x. g x.0 x.1)
shrinks_bind s (Ok (x, us)) g h k = shrinks_later us s (g x us) h (k x us)
shrinks_bind s (Err None) g h k = tt
shrinks_bind s (Err (Some q)) g h k = h

pub shrinks_hidden : {A : Type 0} (s : Tokens) (o : Found A) → Shrinks s o → Shrinks s (hidden o)
shrinks_hidden s (Ok (x, us)) h = h
shrinks_hidden s (Err q) h = tt

pub shrinks_cond : {A : Type 0} (s : Tokens) (c : Bool) (o p : Found A) → Shrinks s o → Shrinks s p → Shrinks s (cond c o p)
shrinks_cond s true o p h k = h
shrinks_cond s false o p h k = k

pub past_cond : {A : Type 0} (s : Tokens) (c : Bool) (o p : Found A) → Past s o → Past s p → Past s (cond c o p)
past_cond s true o p h k = h
past_cond s false o p h k = k

-- what is read takes no token back
abbrev pub Takes : {A : Type 0} → (Tokens → Read A) → Type 0
Takes {A} f = (ts : Tokens) (x : A × Tokens) → f ts ≡ Some x → length x.1 ≤ length ts

pub shrinks_within : {A : Type 0} (height : A → ℕ) (h : ℕ) (s : Tokens) (o : Read A) → ((x : A × Tokens) → o ≡ Some x → length x.1 ≤ length s) → Shrinks s (within height h o)
shrinks_within height h s None takes = tt
shrinks_within height h s (Some (x, us)) takes = shrinks_cond s (nat_le (height x) h) (Ok (x, us)) (Err None) (takes (x, us) refl) tt

-- ---- where a list ends

abbrev pub OnlyEnds : Tokens → Type 0
OnlyEnds [] = Unit {0}
OnlyEnds (t ∷ ts) = (ends t.kind ≡ true) × OnlyEnds ts

-- nothing is left of the front, or even of the `pass` that ends it
abbrev pub Over : Rests → Tokens → Type 0
Over w us = (us ≡ w.ending) ⊎ OnlyEnds us

unlike_ends : (is : TokenKind → Bool) (k : TokenKind) → is kind.Dedent ≡ false → is kind.End ≡ false → ends k ≡ true → is k ≡ false
unlike_ends is kind.Dedent h i e = h
unlike_ends is kind.End h i e = i
unlike_ends is _ h i e = absurd cc

pub over_unlike : (w : Rests) (is : TokenKind → Bool) → is kind.Pass ≡ false → is kind.Dedent ≡ false → is kind.End ≡ false → (ts : Tokens) → Over w ts → is (first ts) ≡ false
over_unlike w is h i j ts (inl e) = ap (λ (z : Tokens). is (first z)) e ∙ ap is w.begins ∙ h
over_unlike w is h i j [] (inr only) = j
over_unlike w is h i j (t ∷ ts) (inr only) = unlike_ends is t.kind i j only.0

pub only_skip : (ts : Tokens) → OnlyEnds ts → OnlyEnds (skip ts)
only_skip [] h = tt
only_skip (t ∷ ts) h = h.1

abbrev pub EndsOver : {A : Type 0} → Rests → Found A → Type 0
EndsOver w (Ok (x, us)) = Over w us
EndsOver w (Err q) = Unit {0}

abbrev pub Refused : {A : Type 0} → Found A → Type 0
Refused (Ok x) = ⊥
Refused (Err q) = Unit {0}

pub ends_bind : {A B : Type 0} (w : Rests) (o : Found A) (g : A → Tokens → Found B) → EndsOver w o → ((x : A) (us : Tokens) → Over w us → EndsOver w (g x us)) → EndsOver w (o >>> λ x. g x.0 x.1)
ends_bind w (Ok (x, us)) g h k = k x us h
ends_bind w (Err q) g h k = tt

pub ends_from : {A : Type 0} (w : Rests) (ts : Tokens) (o : Found A) → EndsOver w o → EndsOver w (from ts o)
ends_from w ts (Ok (x, us)) h = h
ends_from w ts (Err None) h = tt
ends_from w ts (Err (Some q)) h = tt

refused_bind : {A B : Type 0} (o : Found A) (g : A → Tokens → Found B) → Refused o → Refused (o >>> λ x. g x.0 x.1)
refused_bind (Ok x) g h = absurd h
refused_bind (Err q) g h = tt

-- ---- the answers from the two lists

pub data Crossed {A : Type 0} (w : Rests) : Found A → Found A → Type 0 where
  refused : {q : Option Tokens} {p : Found A} → Crossed w (Err q) p
  inside : (x : A) (b : Token) (bs : Tokens) → Crossed w (Ok (x, b ∷ (bs ++ w.ending))) (Ok (x, b ∷ (bs ++ w.others)))
  beyond : {x : A} {us : Tokens} {p : Found A} → Over w us → Past w.others p → Crossed w (Ok (x, us)) p

pub refused_by : {A : Type 0} {w : Rests} (o p : Found A) → Refused o → Crossed w o p
refused_by (Ok x) p h = absurd h
refused_by (Err q) p h = refused

pub beyond_by : {A : Type 0} {w : Rests} (o p : Found A) → EndsOver w o → Past w.others p → Crossed w o p
beyond_by (Ok (x, us)) p h k = beyond h k
beyond_by (Err q) p h k = refused

pub crossed_cond : {A : Type 0} {w : Rests} (c : Bool) (o p q r : Found A) → Crossed w o q → Crossed w p r → Crossed w (cond c o p) (cond c q r)
crossed_cond true o p q r h k = h
crossed_cond false o p q r h k = k

pub crossed_from : {A : Type 0} {w : Rests} (ts us : Tokens) (o p : Found A) → Crossed w o p → Crossed w (from ts o) (from us p)
crossed_from ts us (Err None) p h = refused
crossed_from ts us (Err (Some q)) p h = refused
crossed_from ts us _ _ (inside x b bs) = inside x b bs
crossed_from ts us (Ok (x, vs)) p (beyond h k) = beyond h (past_from us _ p k)

pub crossed_bind : {A B : Type 0} {w : Rests} (o p : Found A) (f g : A → Tokens → Found B) → Crossed w o p
    → ((x : A) (b : Token) (bs : Tokens) → p ≡ Ok (x, b ∷ (bs ++ w.others)) → Crossed w (f x (b ∷ (bs ++ w.ending))) (g x (b ∷ (bs ++ w.others))))
    → ((x : A) (us : Tokens) → Over w us → EndsOver w (f x us)) → ((x : A) (us : Tokens) → Past us (g x us)) → Crossed w (o >>> λ x. f x.0 x.1) (p >>> λ x. g x.0 x.1)
crossed_bind (Err q) p f g h more ended later = refused
crossed_bind _ _ f g (inside x b bs) more ended later = more x b bs refl
crossed_bind {w = w} (Ok (x, us)) p f g (beyond h k) more ended later = beyond_by (f x us) (p >>> λ x. g x.0 x.1) (ended x us h) (past_bind w.others p g k later)

-- where nothing can be read behind the front
pub crossed_then : {A B : Type 0} {w : Rests} (o p : Found A) (f g : A → Tokens → Found B) → Crossed w o p
    → ((x : A) (b : Token) (bs : Tokens) → Crossed w (f x (b ∷ (bs ++ w.ending))) (g x (b ∷ (bs ++ w.others)))) → ((x : A) (us : Tokens) → Over w us → Refused (f x us)) → Crossed w (hidden o >>> λ x. f x.0 x.1) (hidden p >>> λ x. g x.0 x.1)
crossed_then (Err q) p f g h more never = refused
crossed_then _ _ f g (inside x b bs) more never = more x b bs
crossed_then (Ok (x, us)) p f g (beyond h k) more never = refused_by (f x us) (hidden p >>> λ x. g x.0 x.1) (never x us h)

-- ---- readers

-- on any rest of the front
pub record Crosses {A : Type 0} (w : Rests) (f : Tokens → Found A) : Type 0 where
  pub at : (bs : Tokens) → Crossed w (f (bs ++ w.ending)) (f (bs ++ w.others))
  pub shrinks : (ts : Tokens) → Shrinks ts (f ts)

-- what begins within a statement, so that nothing is read at the end of the front
pub record Heads {A : Type 0} (w : Rests) (f : Tokens → Found A) : Type 0 where
  pub moves : (b : Token) (bs : Tokens) → Crossed w (f (b ∷ (bs ++ w.ending))) (f (b ∷ (bs ++ w.others)))
  pub stuck : (ts : Tokens) → IsStuck ts → Refused (f ts)
  pub shrinks : (ts : Tokens) → Shrinks ts (f ts)

-- what may be missing
pub record Trails {A : Type 0} (w : Rests) (f : Tokens → Found A) : Type 0 where
  pub moves : (b : Token) (bs : Tokens) → Crossed w (f (b ∷ (bs ++ w.ending))) (f (b ∷ (bs ++ w.others)))
  pub ended : (ts : Tokens) → Over w ts → EndsOver w (f ts)
  pub past : (ts : Tokens) → Past ts (f ts)

pub trails_ok : {A : Type 0} {w : Rests} (x : A) → Trails w (λ ts. Ok (x, ts))
trails_ok x = record { moves = λ b bs. inside x b bs; ended = λ ts h. h; past = λ ts. omega arith }

pub trails_bind : {A B : Type 0} {w : Rests} {f : Tokens → Found A} {g : A → Tokens → Found B} → Trails w f → ((x : A) → Trails w (g x)) → Trails w (λ ts. f ts >>> λ x. g x.0 x.1)
trails_bind {w = w} {f = f} {g = g} a b = record {
  moves = λ t ts. crossed_bind (f (t ∷ (ts ++ w.ending))) (f (t ∷ (ts ++ w.others))) g g (a.moves t ts) (λ x u us is. (b x).moves u us) (λ x us. (b x).ended us) (λ x us. (b x).past us);
  ended = λ ts h. ends_bind w (f ts) g (a.ended ts h) (λ x us. (b x).ended us);
  past = λ ts. past_bind ts (f ts) g (a.past ts) (λ x us. (b x).past us);
}

pub heads_bind : {A B : Type 0} {w : Rests} {f : Tokens → Found A} {g : A → Tokens → Found B} → Heads w f → ((x : A) → Trails w (g x)) → Heads w (λ ts. f ts >>> λ x. g x.0 x.1)
heads_bind {w = w} {f = f} {g = g} a b = record {
  moves = λ t ts. crossed_bind (f (t ∷ (ts ++ w.ending))) (f (t ∷ (ts ++ w.others))) g g (a.moves t ts) (λ x u us is. (b x).moves u us) (λ x us. (b x).ended us) (λ x us. (b x).past us);
  stuck = λ ts h. refused_bind (f ts) g (a.stuck ts h);
  shrinks = λ ts. shrinks_bind ts (f ts) g (a.shrinks ts) (λ x us. past_shrinks us (g x us) ((b x).past us));
}

pub crosses_bind : {A B : Type 0} {w : Rests} {f : Tokens → Found A} {g : A → Tokens → Found B} → Crosses w f → ((x : A) → Trails w (g x)) → Crosses w (λ ts. f ts >>> λ x. g x.0 x.1)
crosses_bind {w = w} {f = f} {g = g} a b = record {
  at = λ ts. crossed_bind (f (ts ++ w.ending)) (f (ts ++ w.others)) g g (a.at ts) (λ x u us is. (b x).moves u us) (λ x us. (b x).ended us) (λ x us. (b x).past us);
  shrinks = λ ts. shrinks_bind ts (f ts) g (a.shrinks ts) (λ x us. past_shrinks us (g x us) ((b x).past us));
}

pub crosses_head : {A : Type 0} {w : Rests} {f : Tokens → Found A} → Heads w f → Crosses w f
crosses_head {A} {w} {f} a = record { at = at_rest; shrinks = a.shrinks } where
  at_rest : (bs : Tokens) → Crossed w (f (bs ++ w.ending)) (f (bs ++ w.others))
  at_rest [] = refused_by (f w.ending) (f w.others) (a.stuck w.ending (inl w.begins))
  at_rest (b ∷ bs) = a.moves b bs

-- what is read at a place
pub crosses_from : {A : Type 0} {w : Rests} (f : Tokens → Found A) → ((b : Token) (bs : Tokens) → Crossed w (f (b ∷ (bs ++ w.ending))) (f (b ∷ (bs ++ w.others)))) → EndsOver w (f w.ending) → ((ts : Tokens) → Shrinks ts (f ts)) → Crosses w (λ ts. from ts (f ts))
crosses_from {w = w} f moves ended shrinks = record { at = at_rest; shrinks = λ ts. past_shrinks ts (from ts (f ts)) (from_past ts (f ts) (shrinks ts)) } where
  at_rest : (bs : Tokens) → Crossed w (from (bs ++ w.ending) (f (bs ++ w.ending))) (from (bs ++ w.others) (f (bs ++ w.others)))
  at_rest [] = beyond_by (from w.ending (f w.ending)) (from w.others (f w.others)) (ends_from w w.ending (f w.ending) ended) (from_past w.others (f w.others) (shrinks w.others))
  at_rest (b ∷ bs) = crossed_from (b ∷ (bs ++ w.ending)) (b ∷ (bs ++ w.others)) (f (b ∷ (bs ++ w.ending))) (f (b ∷ (bs ++ w.others))) (moves b bs)

within_then : {A B : Type 0} {w : Rests} (height : A → ℕ) (h : ℕ) (o p : Read A) (f g : A → Tokens → Found B) → Follows w o p → ((x : A) (us : Tokens) → IsStuck us → Refused (f x us))
    → ((x : A) (b : Token) (bs : Tokens) → Crossed w (f x (b ∷ (bs ++ w.ending))) (g x (b ∷ (bs ++ w.others)))) → Crossed w (within height h o >>> λ x. f x.0 x.1) (within height h p >>> λ x. g x.0 x.1)
within_then height h None p f g fails never more = refused
within_then {w = w} height h (Some (x, us)) p f g (halts stuck) never more = by (nat_le (height x) h) where
  by : (c : Bool) → Crossed w (cond c (Ok (x, us)) (Err None) >>> λ x. f x.0 x.1) (within height h p >>> λ x. g x.0 x.1)
  by true = refused_by (f x us) (within height h p >>> λ x. g x.0 x.1) (never x us stuck)
  by false = refused
within_then {w = w} height h _ _ f g (goes x b bs) never more = by (nat_le (height x) h) where
  by : (c : Bool) → Crossed w (cond c (Ok (x, b ∷ (bs ++ w.ending))) (Err None) >>> λ x. f x.0 x.1) (cond c (Ok (x, b ∷ (bs ++ w.others))) (Err None) >>> λ x. g x.0 x.1)
  by true = more x b bs
  by false = refused

within_stuck : {A B : Type 0} (height : A → ℕ) (h : ℕ) (o : Read A) (f : A → Tokens → Found B) → Halts o → ((x : A) (us : Tokens) → IsStuck us → Refused (f x us)) → Refused (within height h o >>> λ x. f x.0 x.1)
within_stuck height h None f k never = tt
within_stuck {A} {B} height h (Some (x, us)) f k never = by (nat_le (height x) h) where
  by : (c : Bool) → Refused (cond {A = Found A} c (Ok (x, us)) (Err None) >>> λ x. f x.0 x.1)
  by true = never x us k
  by false = tt

-- behind what begins no statement
pub heads_within : {A B : Type 0} {w : Rests} {f : Tokens → Read A} {g : A → Tokens → Found B} (height : A → ℕ) (h : ℕ) → Local w f → Takes f → ((x : A) → Heads w (g x)) → Heads w (λ ts. within height h (f ts) >>> λ x. g x.0 x.1)
heads_within {w = w} {f = f} {g = g} height h a takes b = record {
  moves = λ t ts. within_then height h (f (t ∷ (ts ++ w.ending))) (f (t ∷ (ts ++ w.others))) g g (a.moves t ts) (λ x us. (b x).stuck us) (λ x u us. (b x).moves u us);
  stuck = λ ts k. within_stuck height h (f ts) g (a.stuck ts k) (λ x us. (b x).stuck us);
  shrinks = λ ts. shrinks_bind ts (within height h (f ts)) g (shrinks_within height h ts (f ts) (takes ts)) (λ x us. (b x).shrinks us);
}

refused_unlike : {A : Type 0} (is : TokenKind → Bool) (ts : Tokens) (o : Found A) → is kind.Pass ≡ false → is kind.Not ≡ false → IsStuck ts → Refused (cond (is (first ts)) o (Err None))
refused_unlike is ts o h i (inl k) = rw (k, h) tt
refused_unlike is ts o h i (inr (k, l)) = rw (k, i) tt

-- behind a token that has to come
pub heads_expected : {A : Type 0} {w : Rests} {f : Tokens → Found A} (is : TokenKind → Bool) → is kind.Pass ≡ false → is kind.Not ≡ false → Crosses w f → Heads w (expected is f)
heads_expected {w = w} {f = f} is h i a = record {
  moves = λ t ts. crossed_cond (is t.kind) (f (ts ++ w.ending)) (Err None) (f (ts ++ w.others)) (Err None) (a.at ts) refused;
  stuck = λ ts k. refused_unlike is ts (f (skip ts)) h i k;
  shrinks = λ ts. shrinks_cond ts (is (first ts)) (f (skip ts)) (Err None) (shrinks_later (skip ts) ts (f (skip ts)) (skip_within ts) (a.shrinks (skip ts))) tt;
}

-- by the first token
pub heads_by : {A : Type 0} {w : Rests} {f : TokenKind → Tokens → Found A} → ((k : TokenKind) → Heads w (f k)) → Heads w (λ ts. f (first ts) ts)
heads_by a = record { moves = λ t ts. (a t.kind).moves t ts; stuck = λ ts h. (a (first ts)).stuck ts h; shrinks = λ ts. (a (first ts)).shrinks ts }
