-- Readers within which no statement begins, on two lists of tokens that have the same front. Behind it `pass` comes in the one,
-- and anything in the other. What is read from the one before `pass` is read from the other too.
use Rattle.std.proofs.Common.{◌≡◌, ℕ, zero, suc, ◌<◌, Bool, true, false, cond, [], ◌∷◌, ◌++◌, length, Option, Some, None, refl, ap, ◌∙◌, ◌⊎◌, inl, inr, arith, length-append}
use Rattle.rp_base.specs.declared.value.Line.{Line}
use Rattle.rp_token.specs.declared.token.Token.{Token}
use Rattle.rp_token.specs.declared.token.TokenKind.{TokenKind}
use Rattle.rp_token.specs.declared.token.TokenKind.TheVariants as kind
use Rattle.rp_grammar.specs.Kinds.{Tokens, first, line_at, skip}
use Rattle.rp_grammar.specs.Front.{is_comma}
use Rattle.rp_grammar.specs.ExpressionReading.{Read, ◌>>=◌, after, at, many, listed, all_many, all_listed}
use Rattle.rp_grammar.proofs.Loops.{Shortens, ShortensIn}

-- no such reader goes on here: `pass` comes, or `not` and then `pass`
abbrev pub IsStuck : Tokens → Type 0
IsStuck ts = (first ts ≡ kind.Pass) ⊎ ((first ts ≡ kind.Not) × (first (skip ts) ≡ kind.Pass))

abbrev pub Halts : {A : Type 0} → Read A → Type 0
Halts None = Unit {0}
Halts (Some (x, us)) = IsStuck us

-- what stands behind the front in either list
pub record Rests : Type 0 where
  pub ending : Tokens
  pub others : Tokens
  pub begins : first ending ≡ kind.Pass

-- the answers from the two lists: reading stops before the end of the front, or it is stuck in the one list
pub data Follows {A : Type 0} (w : Rests) : Read A → Read A → Type 0 where
  fails : {o : Read A} → Follows w None o
  halts : {x : A} {us : Tokens} {o : Read A} → IsStuck us → Follows w (Some (x, us)) o
  goes : (x : A) (b : Token) (bs : Tokens) → Follows w (Some (x, b ∷ (bs ++ w.ending))) (Some (x, b ∷ (bs ++ w.others)))

pub record Local {A : Type 0} (w : Rests) (f : Tokens → Read A) : Type 0 where
  pub stuck : (ts : Tokens) → IsStuck ts → Halts (f ts)
  pub moves : (b : Token) (bs : Tokens) → Follows w (f (b ∷ (bs ++ w.ending))) (f (b ∷ (bs ++ w.others)))

-- ---- answers

pub halted : {A : Type 0} {w : Rests} (o p : Read A) → Halts o → Follows w o p
halted None p h = fails
halted (Some (x, us)) p h = halts h

pub halts_bind : {A B : Type 0} (o : Read A) (g : A → Tokens → Read B) → Halts o → ((x : A) (us : Tokens) → IsStuck us → Halts (g x us)) → Halts (o >>= λ x. g x.0 x.1)
halts_bind None g h k = tt
halts_bind (Some (x, us)) g h k = k x us h

pub halts_cond : {A : Type 0} (c : Bool) (o p : Read A) → Halts o → Halts p → Halts (cond c o p)
halts_cond true o p h k = h
halts_cond false o p h k = k

pub follows_bind : {A B : Type 0} {w : Rests} (o p : Read A) (f g : A → Tokens → Read B) → Follows w o p → ((x : A) (us : Tokens) → IsStuck us → Halts (f x us))
    → ((x : A) (b : Token) (bs : Tokens) → p ≡ Some (x, b ∷ (bs ++ w.others)) → Follows w (f x (b ∷ (bs ++ w.ending))) (g x (b ∷ (bs ++ w.others)))) → Follows w (o >>= λ x. f x.0 x.1) (p >>= λ x. g x.0 x.1)
follows_bind None p f g fails k l = fails
follows_bind (Some (x, us)) p f g (halts h) k l = halted (f x us) (p >>= λ x. g x.0 x.1) (k x us h)
follows_bind _ _ f g (goes x b bs) k l = l x b bs refl

pub follows_cond : {A : Type 0} {w : Rests} (c : Bool) (o p q r : Read A) → Follows w o q → Follows w p r → Follows w (cond c o p) (cond c q r)
follows_cond true o p q r h k = h
follows_cond false o p q r h k = k

-- ---- readers

pub local_some : {A : Type 0} {w : Rests} (x : A) → Local w (λ ts. Some (x, ts))
local_some x = record { stuck = λ ts h. h; moves = λ b bs. goes x b bs }

pub local_none : {A : Type 0} {w : Rests} → Local {A = A} w (λ ts. None)
local_none = record { stuck = λ ts h. tt; moves = λ b bs. fails }

pub local_bind : {A B : Type 0} {w : Rests} {f : Tokens → Read A} {g : A → Tokens → Read B} → Local w f → ((x : A) → Local w (g x)) → Local w (λ ts. f ts >>= λ x. g x.0 x.1)
local_bind {w = w} {f = f} {g = g} p q = record {
  stuck = λ ts h. halts_bind (f ts) g (p.stuck ts h) (λ x us. (q x).stuck us);
  moves = λ b bs. follows_bind (f (b ∷ (bs ++ w.ending))) (f (b ∷ (bs ++ w.others))) g g (p.moves b bs) (λ x us. (q x).stuck us) (λ x c cs is. (q x).moves c cs);
}

-- whatever is left of the front
pub local_rest : {A : Type 0} {w : Rests} {f : Tokens → Read A} → Local w f → (bs : Tokens) → Follows w (f (bs ++ w.ending)) (f (bs ++ w.others))
local_rest {w = w} {f = f} p [] = halted (f w.ending) (f w.others) (p.stuck w.ending (inl w.begins))
local_rest p (b ∷ bs) = p.moves b bs

pub local_cond : {A : Type 0} {w : Rests} {f g : Tokens → Read A} (c : Bool) → Local w f → Local w g → Local w (λ ts. cond c (f ts) (g ts))
local_cond {w = w} {f = f} {g = g} c p q = record {
  stuck = λ ts h. halts_cond c (f ts) (g ts) (p.stuck ts h) (q.stuck ts h);
  moves = λ b bs. follows_cond c (f (b ∷ (bs ++ w.ending))) (g (b ∷ (bs ++ w.ending))) (f (b ∷ (bs ++ w.others))) (g (b ∷ (bs ++ w.others))) (p.moves b bs) (q.moves b bs);
}

pub local_if : {A : Type 0} {w : Rests} {f g : Tokens → Read A} (is : TokenKind → Bool) → Local w f → Local w g → Local w (λ ts. cond (is (first ts)) (f ts) (g ts))
local_if {w = w} {f = f} {g = g} is p q = record {
  stuck = λ ts h. halts_cond (is (first ts)) (f ts) (g ts) (p.stuck ts h) (q.stuck ts h);
  moves = λ b bs. follows_cond (is b.kind) (f (b ∷ (bs ++ w.ending))) (g (b ∷ (bs ++ w.ending))) (f (b ∷ (bs ++ w.others))) (g (b ∷ (bs ++ w.others))) (p.moves b bs) (q.moves b bs);
}

-- behind a token that is taken where it comes
pub halts_take : {A : Type 0} (is : TokenKind → Bool) (ts : Tokens) (o p : Read A) → is kind.Pass ≡ false → IsStuck ts → (IsStuck (skip ts) → Halts o) → Halts p → Halts (cond (is (first ts)) o p)
halts_take is ts o p unlike (inl h) k l = rw (h, unlike) l
halts_take is ts o p unlike (inr (h, i)) k l = halts_cond (is (first ts)) o p (k (inl i)) l

pub local_take : {A : Type 0} {w : Rests} {f : Line → Tokens → Read A} {g : Tokens → Read A} (is : TokenKind → Bool) → is kind.Pass ≡ false → ((line : Line) → Local w (f line)) → Local w g → Local w (λ ts. cond (is (first ts)) (f (line_at ts) (skip ts)) (g ts))
local_take {w = w} {f = f} {g = g} is unlike p q = record {
  stuck = λ ts h. halts_take is ts (f (line_at ts) (skip ts)) (g ts) unlike h (λ i. (p (line_at ts)).stuck (skip ts) i) (q.stuck ts h);
  moves = λ b bs. follows_cond (is b.kind) (f b.line (bs ++ w.ending)) (g (b ∷ (bs ++ w.ending))) (f b.line (bs ++ w.others)) (g (b ∷ (bs ++ w.others))) (local_rest (p b.line) bs) (q.moves b bs);
}

-- a token that has to come
after_cond : {A : Type 0} (c : Bool) (ts : Tokens) (f : Tokens → Read A) → cond c (f ts) None ≡ (cond c (Some ts) None >>= f)
after_cond true ts f = refl
after_cond false ts f = refl

pub local_after : {A : Type 0} {w : Rests} {f : Tokens → Read A} (is : TokenKind → Bool) → is kind.Pass ≡ false → Local w f → Local w (λ ts. after is ts >>= f)
local_after {w = w} {f = f} is unlike p =
    let q = local_take {f = λ line. f} {g = λ ts. None} is unlike (λ line. p) local_none in
    record {
      stuck = λ ts h. rw (← after_cond (is (first ts)) (skip ts) f) (q.stuck ts h);
      moves = λ b bs. rw (← after_cond (is b.kind) (bs ++ w.ending) f, ← after_cond (is b.kind) (bs ++ w.others) f) (q.moves b bs);
    }

-- where something else is given or not
pub local_option : {A B : Type 0} {w : Rests} {f : B → Tokens → Read A} (o : Option B) → ((x : B) → Local w (f x)) → Local w (λ ts. o >>= λ x. f x ts)
local_option None p = local_none
local_option (Some x) p = p x

-- by the first token
pub local_front : {A : Type 0} {w : Rests} (f : TokenKind → Line → Tokens → Read A) → ((line : Line) (us : Tokens) → f kind.Pass line us ≡ None) → ((k : TokenKind) (line : Line) → Local w (f k line)) → Local w (λ ts. f (first ts) (line_at ts) (skip ts))
local_front {w = w} f none p = record { stuck = stuck_at; moves = λ b bs. local_rest (p b.kind b.line) bs } where
  stuck_at : (ts : Tokens) → IsStuck ts → Halts (f (first ts) (line_at ts) (skip ts))
  stuck_at ts (inl h) = rw (h, none (line_at ts) (skip ts)) tt
  stuck_at ts (inr (h, i)) = (p (first ts) (line_at ts)).stuck (skip ts) (inl i)

-- ---- loops

-- what tells whether an item begins tells the same in either list, or reading is stuck
pub record Tells (w : Rests) (begins : Tokens → Bool) : Type 0 where
  pub over : (ts : Tokens) → IsStuck ts → begins ts ≡ false
  pub same : (b : Token) (bs : Tokens) → IsStuck (b ∷ (bs ++ w.ending)) ⊎ (begins (b ∷ (bs ++ w.ending)) ≡ begins (b ∷ (bs ++ w.others)))

pub tells_at : {w : Rests} (is : TokenKind → Bool) → is kind.Pass ≡ false → is kind.Not ≡ false → Tells w (at is)
tells_at is unlike unlike_not = record { over = over_at; same = λ b bs. inr refl } where
  over_at : (ts : Tokens) → IsStuck ts → at is ts ≡ false
  over_at ts (inl h) = ap is h ∙ unlike
  over_at ts (inr (h, i)) = ap is h ∙ unlike_not

follows_same : {A : Type 0} {w : Rests} (c d : Bool) (o p q r : Read A) → c ≡ d → Follows w o q → Follows w p r → Follows w (cond c o p) (cond d q r)
follows_same true true o p q r e h k = h
follows_same false false o p q r e h k = k
follows_same true false o p q r e h k = absurd cc
follows_same false true o p q r e h k = absurd cc

-- where an item begins, what is read there, else something else
pub local_told : {A : Type 0} {w : Rests} {f g : Tokens → Read A} (begins : Tokens → Bool) → Tells w begins → Local w f → Local w g → Local w (λ ts. cond (begins ts) (f ts) (g ts))
local_told {w = w} {f = f} {g = g} begins tells p q = record { stuck = stuck_at; moves = moves_at } where
  stuck_at : (ts : Tokens) → IsStuck ts → Halts (cond (begins ts) (f ts) (g ts))
  stuck_at ts h = halts_cond (begins ts) (f ts) (g ts) (p.stuck ts h) (q.stuck ts h)

  moves_at : (b : Token) (bs : Tokens) → Follows w (cond (begins (b ∷ (bs ++ w.ending))) (f (b ∷ (bs ++ w.ending))) (g (b ∷ (bs ++ w.ending)))) (cond (begins (b ∷ (bs ++ w.others))) (f (b ∷ (bs ++ w.others))) (g (b ∷ (bs ++ w.others))))
  moves_at b bs = elim (tells.same b bs) [
    | inl h ↦ halted (cond (begins (b ∷ (bs ++ w.ending))) (f (b ∷ (bs ++ w.ending))) (g (b ∷ (bs ++ w.ending)))) (cond (begins (b ∷ (bs ++ w.others))) (f (b ∷ (bs ++ w.others))) (g (b ∷ (bs ++ w.others)))) (stuck_at (b ∷ (bs ++ w.ending)) h)
    | inr same ↦ follows_same (begins (b ∷ (bs ++ w.ending))) (begins (b ∷ (bs ++ w.others))) (f (b ∷ (bs ++ w.ending))) (g (b ∷ (bs ++ w.ending))) (f (b ∷ (bs ++ w.others))) (g (b ∷ (bs ++ w.others))) same (p.moves b bs) (q.moves b bs)
  ]

-- an item, where one begins
abbrev pub begun : {A : Type 0} → (Tokens → Bool) → (Tokens → Read A) → Tokens → Read A
begun begins read ts = cond (begins ts) (read ts) None

module _ {A L : Type 0} {w : Rests} (nil : L) (cons : A → L → L) (begins : Tokens → Bool) (read : Tokens → Read A) (tells : Tells w begins) (short : Shortens begins read) (item : Local w (begun begins read)) where
  many_stuck : (n : ℕ) (ts : Tokens) → IsStuck ts → Halts (many nil cons begins read n ts)
  unfolding many
  many_stuck zero ts h = tt
  many_stuck (suc n) ts h = rw (tells.over ts h) h

  many_moves : (n m : ℕ) (b : Token) (bs : Tokens) → length (b ∷ bs) < m → Follows w (many nil cons begins read n (b ∷ (bs ++ w.ending))) (many nil cons begins read m (b ∷ (bs ++ w.others)))
  unfolding many
  many_moves zero m b bs lt = fails
  many_moves (suc n) zero b bs lt = absurd (omega arith)
  many_moves (suc n) (suc m) b bs lt = by (begins (b ∷ (bs ++ w.ending))) (begins (b ∷ (bs ++ w.others))) refl refl (many_moves n m) (item.moves b bs)
    where
      ts : Tokens
      ts = b ∷ (bs ++ w.ending)

      us : Tokens
      us = b ∷ (bs ++ w.others)

      next : (n : ℕ) → A → Tokens → Read L
      next n x vs = many nil cons begins read n vs >>= λ xs. Some (cons x xs.0, xs.1)

      by : (c d : Bool) → begins ts ≡ c → begins us ≡ d → ((b : Token) (bs : Tokens) → length (b ∷ bs) < m → Follows w (many nil cons begins read n (b ∷ (bs ++ w.ending))) (many nil cons begins read m (b ∷ (bs ++ w.others))))
          → Follows w (cond c (read ts) None) (cond d (read us) None) → Follows w (cond c (read ts >>= λ x. next n x.0 x.1) (Some (nil, ts))) (cond d (read us >>= λ x. next m x.0 x.1) (Some (nil, us)))
      by true true i j more h = follows_bind (read ts) (read us) (next n) (next m) h
          (λ x vs stuck. halts_bind (many nil cons begins read n vs) (λ xs ws. Some (cons x xs, ws)) (many_stuck n vs stuck) (λ xs ws k. k))
          (λ x c cs is.
          let less = short us (x, c ∷ (cs ++ w.others)) j is in
          let fewer : length (c ∷ cs) < m = omega (arith, length-append cs w.others, length-append bs w.others) in
          follows_bind (many nil cons begins read n (c ∷ (cs ++ w.ending))) (many nil cons begins read m (c ∷ (cs ++ w.others))) (λ xs ws. Some (cons x xs, ws)) (λ xs ws. Some (cons x xs, ws)) (more c cs fewer) (λ xs ws k. k) (λ xs d ds is. goes (cons x xs) d ds))
      by false false i j more h = goes nil b bs
      by true false i j more h = elim (tells.same b bs) [
        | inl stuck ↦ let no = tells.over ts stuck in absurd cc
        | inr same ↦ absurd cc
      ]
      by false true i j more h = elim (tells.same b bs) [
        | inl stuck ↦ halts stuck
        | inr same ↦ absurd cc
      ]

  pub local_many : Local w (all_many nil cons begins read)
  local_many = record { stuck = λ ts h. many_stuck (suc (length ts)) ts h; moves = λ b bs. many_moves (suc (length (b ∷ (bs ++ w.ending)))) (suc (length (b ∷ (bs ++ w.others)))) b bs (omega (arith, length-append bs w.others)) }

module _ {S A L : Type 0} {w : Rests} (open_end shut_end : L) (cons : A → L → L) (begins : TokenKind → Bool) (read : S → Tokens → Read (A × S)) (short : ShortensIn read) (item : (s : S) → Local w (read s)) where
  abbrev list : ℕ → S → Tokens → Read L
  list n s ts = listed open_end shut_end cons begins read n s ts

  listed_stuck : (n : ℕ) (s : S) (ts : Tokens) → IsStuck ts → Halts (list n s ts)
  unfolding listed
  listed_stuck zero s ts h = tt
  listed_stuck (suc n) s ts h =
      halts_cond (begins (first ts)) (read s ts >>= λ x. cond (is_comma (first x.1)) (list n x.0.1 (skip x.1) >>= λ xs. Some (cons x.0.0 xs.0, xs.1)) (Some (cons x.0.0 shut_end, x.1))) (Some (open_end, ts))
      (halts_bind (read s ts) (λ x us. cond (is_comma (first us)) (list n x.1 (skip us) >>= λ xs. Some (cons x.0 xs.0, xs.1)) (Some (cons x.0 shut_end, us))) ((item s).stuck ts h)
      (λ x us k. halts_take is_comma us (list n x.1 (skip us) >>= λ xs. Some (cons x.0 xs.0, xs.1)) (Some (cons x.0 shut_end, us)) refl k
      (λ l. halts_bind (list n x.1 (skip us)) (λ xs vs. Some (cons x.0 xs, vs)) (listed_stuck n x.1 (skip us) l) (λ xs vs m. m)) k))
      h

  abbrev Listed : ℕ → ℕ → Type 0
  Listed n m = (s : S) (b : Token) (bs : Tokens) → length (b ∷ bs) < m → Follows w (list n s (b ∷ (bs ++ w.ending))) (list m s (b ∷ (bs ++ w.others)))

  listed_rest : (n m : ℕ) → Listed n m → (s : S) (bs : Tokens) → length bs < m → Follows w (list n s (bs ++ w.ending)) (list m s (bs ++ w.others))
  listed_rest n m more s [] lt = halted (list n s w.ending) (list m s w.others) (listed_stuck n s w.ending (inl w.begins))
  listed_rest n m more s (b ∷ bs) lt = more s b bs lt

  listed_moves : (n m : ℕ) → Listed n m
  unfolding listed
  listed_moves zero m s b bs lt = fails
  listed_moves (suc n) zero s b bs lt = absurd (omega arith)
  listed_moves (suc n) (suc m) s b bs lt =
      follows_cond (begins b.kind) (read s ts >>= λ x. next n x.0 x.1) (Some (open_end, ts)) (read s us >>= λ x. next m x.0 x.1) (Some (open_end, us))
      (follows_bind (read s ts) (read s us) (next n) (next m) ((item s).moves b bs)
      (λ x us k. halts_take is_comma us (list n x.1 (skip us) >>= λ xs. Some (cons x.0 xs.0, xs.1)) (Some (cons x.0 shut_end, us)) refl k
      (λ l. halts_bind (list n x.1 (skip us)) (λ xs vs. Some (cons x.0 xs, vs)) (listed_stuck n x.1 (skip us) l) (λ xs vs m. m)) k)
      (λ x c cs is.
      let less = short s us (x, c ∷ (cs ++ w.others)) is in
      let fewer : length cs < m = omega (arith, length-append cs w.others, length-append bs w.others) in
      follows_cond (is_comma c.kind) (list n x.1 (cs ++ w.ending) >>= λ xs. Some (cons x.0 xs.0, xs.1)) (Some (cons x.0 shut_end, c ∷ (cs ++ w.ending))) (list m x.1 (cs ++ w.others) >>= λ xs. Some (cons x.0 xs.0, xs.1)) (Some (cons x.0 shut_end, c ∷ (cs ++ w.others)))
      (follows_bind (list n x.1 (cs ++ w.ending)) (list m x.1 (cs ++ w.others)) (λ xs vs. Some (cons x.0 xs, vs)) (λ xs vs. Some (cons x.0 xs, vs)) (listed_rest n m (listed_moves n m) x.1 cs fewer) (λ xs vs m. m) (λ xs d ds is. goes (cons x.0 xs) d ds))
      (goes (cons x.0 shut_end) c cs)))
      (goes open_end b bs)
    where
      ts : Tokens
      ts = b ∷ (bs ++ w.ending)

      us : Tokens
      us = b ∷ (bs ++ w.others)

      next : (n : ℕ) → A × S → Tokens → Read L
      next n x us = cond (is_comma (first us)) (list n x.1 (skip us) >>= λ xs. Some (cons x.0 xs.0, xs.1)) (Some (cons x.0 shut_end, us))

  pub local_listed : (s : S) → Local w (all_listed open_end shut_end cons begins read s)
  local_listed s = record { stuck = λ ts h. listed_stuck (suc (length ts)) s ts h; moves = λ b bs. listed_moves (suc (length (b ∷ (bs ++ w.ending)))) (suc (length (b ∷ (bs ++ w.others)))) s b bs (omega (arith, length-append bs w.others)) }
