-- What the combinators of reading answer at renamed tokens.
use Rattle.std.proofs.Common.{◌≡◌, ℕ, zero, suc, Bool, true, false, cond, [], ◌∷◌, length, Option, Some, None, option_map, refl, ap}
use Rattle.rp_base.specs.declared.value.Name.{Name}
use Rattle.rp_token.specs.declared.token.TokenKind.{TokenKind}
use Rattle.rp_token.specs.declared.token.TokenKind.TheVariants as kind
use Rattle.rp_grammar.specs.Kinds.{Tokens, first, line_at, skip}
use Rattle.rp_grammar.specs.Front.{is_comma}
use Rattle.rp_grammar.specs.ExpressionReading.{Read, after, many, listed, all_many, all_listed, alike, behind, ◌>>=◌}
use Rattle.rp_grammar.proofs.Renamed.{renamed_kind, renamed_tokens}

-- what is told of a kind without its name
pub kept : {A : Type 0} (f : Name → Name) (g : TokenKind → A) → ((m n : Name) → g (kind.Name m) ≡ g (kind.Name n)) → (k : TokenKind) → g (renamed_kind f k) ≡ g k
kept f g same (kind.Name n) = same (f n) n
kept f g same _ = refl

module _ (f : Name → Name) where
  pub length_renamed : (ts : Tokens) → length (renamed_tokens f ts) ≡ length ts
  length_renamed [] = refl
  length_renamed (t ∷ ts) = ap suc (length_renamed ts)

  pub first_renamed : (ts : Tokens) → first (renamed_tokens f ts) ≡ renamed_kind f (first ts)
  first_renamed [] = refl
  first_renamed (t ∷ ts) = refl

  pub line_at_renamed : (ts : Tokens) → line_at (renamed_tokens f ts) ≡ line_at ts
  line_at_renamed [] = refl
  line_at_renamed (t ∷ ts) = refl

  pub skip_renamed : (ts : Tokens) → skip (renamed_tokens f ts) ≡ renamed_tokens f (skip ts)
  skip_renamed [] = refl
  skip_renamed (t ∷ ts) = refl

  pub front_kept : {A : Type 0} (g : TokenKind → A) → ((m n : Name) → g (kind.Name m) ≡ g (kind.Name n)) → (ts : Tokens) → g (first (renamed_tokens f ts)) ≡ g (first ts)
  front_kept g same [] = refl
  front_kept g same (t ∷ ts) = kept f g same t.kind

-- what is read at renamed tokens, where w renames the value
abbrev pub moved : {A B : Type 0} → (Name → Name) → (A → B) → Read A → Read B
moved f w read = option_map (λ x. (w x.0, renamed_tokens f x.1)) read

-- what reads by w what it reads at other names
abbrev pub Renames : {A B : Type 0} → (Name → Name) → (A → B) → (Tokens → Read A) → (Tokens → Read B) → Type 0
Renames f w read read' = (ts : Tokens) → read' (renamed_tokens f ts) ≡ moved f w (read ts)

pub bound : {A B C D : Type 0} (w : A → C) (v : B → D) (o : Option A) (o' : Option C) (k : A → Option B) (k' : C → Option D)
    → o' ≡ option_map w o → ((x : A) → k' (w x) ≡ option_map v (k x)) → (o' >>= k') ≡ option_map v (o >>= k)
bound w v None o' k k' e h = rw e refl
bound w v (Some x) o' k k' e h = rw e (h x)

pub bound_same : {A B D : Type 0} (v : B → D) (o : Option A) (k : A → Option B) (k' : A → Option D) → ((x : A) → k' x ≡ option_map v (k x)) → (o >>= k') ≡ option_map v (o >>= k)
bound_same v None k k' h = refl
bound_same v (Some x) k k' h = h x

pub chosen : {A B : Type 0} (v : A → B) (b b' : Bool) (x y : A) (x' y' : B) → b' ≡ b → x' ≡ v x → y' ≡ v y → cond b' x' y' ≡ v (cond b x y)
chosen v true b' x y x' y' e h i = rw e h
chosen v false b' x y x' y' e h i = rw e i

-- by the token at the front
pub branched : {A B : Type 0} (f : Name → Name) (v : A → B) (is : TokenKind → Bool) → ((m n : Name) → is (kind.Name m) ≡ is (kind.Name n)) → (ts : Tokens) (x y : A) (x' y' : B)
    → x' ≡ v x → y' ≡ v y → cond (is (first (renamed_tokens f ts))) x' y' ≡ v (cond (is (first ts)) x y)
branched f v is same ts x y x' y' h i = chosen v _ _ x y x' y' (front_kept f is same ts) h i

pub passed : {B D : Type 0} (f : Name → Name) (v : B → D) (is : TokenKind → Bool) → ((m n : Name) → is (kind.Name m) ≡ is (kind.Name n)) → (ts : Tokens) (k : Tokens → Option B) (k' : Tokens → Option D)
    → ((us : Tokens) → k' (renamed_tokens f us) ≡ option_map v (k us)) → (after is (renamed_tokens f ts) >>= k') ≡ option_map v (after is ts >>= k)
passed f v is same ts k k' h = bound (renamed_tokens f) v _ _ k k' (branched f (option_map (renamed_tokens f)) is same ts _ _ _ _ (ap Some (skip_renamed f ts)) refl) h

module _ {A L : Type 0} (f : Name → Name) (w : A → A) (v : L → L) where
  pub many_renamed : (nil : L) (cons : A → L → L) (begins : Tokens → Bool) (read : Tokens → Read A) → v nil ≡ nil → ((x : A) (xs : L) → cons (w x) (v xs) ≡ v (cons x xs))
      → ((ts : Tokens) → begins (renamed_tokens f ts) ≡ begins ts) → Renames f w read read → (n : ℕ) → Renames f v (many nil cons begins read n) (many nil cons begins read n)
  unfolding many
  many_renamed nil cons begins read e h begun item zero ts = refl
  many_renamed nil cons begins read e h begun item (suc n) ts =
      chosen (moved f v) _ _ _ _ _ _ (begun ts)
      (bound _ _ _ _ _ _ (item ts) (λ x. bound _ _ _ _ _ _ (many_renamed nil cons begins read e h begun item n x.1) (λ xs. rw (h x.0 xs.0) refl)))
      (rw e refl)

  pub all_many_renamed : (nil : L) (cons : A → L → L) (begins : Tokens → Bool) (read : Tokens → Read A) → v nil ≡ nil → ((x : A) (xs : L) → cons (w x) (v xs) ≡ v (cons x xs))
      → ((ts : Tokens) → begins (renamed_tokens f ts) ≡ begins ts) → Renames f w read read → Renames f v (all_many nil cons begins read) (all_many nil cons begins read)
  all_many_renamed nil cons begins read e h begun item ts = rw (length_renamed f ts) (many_renamed nil cons begins read e h begun item (suc (length ts)) ts)

  abbrev with_state : {S : Type 0} → A × S → A × S
  with_state x = (w x.0, x.1)

  pub listed_renamed : {S : Type 0} (open_end shut_end : L) (cons : A → L → L) (begins : TokenKind → Bool) (read : S → Tokens → Read (A × S)) → v open_end ≡ open_end → v shut_end ≡ shut_end
      → ((x : A) (xs : L) → cons (w x) (v xs) ≡ v (cons x xs)) → ((m n : Name) → begins (kind.Name m) ≡ begins (kind.Name n)) → ((s : S) → Renames f with_state (read s) (read s))
      → (n : ℕ) (s : S) → Renames f v (listed open_end shut_end cons begins read n s) (listed open_end shut_end cons begins read n s)
  unfolding listed
  listed_renamed open_end shut_end cons begins read e i h same item zero s ts = refl
  listed_renamed open_end shut_end cons begins read e i h same item (suc n) s ts =
      branched f (moved f v) begins same ts _ _ _ _
      (bound _ _ _ _ _ _ (item s ts) (λ x. branched f (moved f v) is_comma (λ m n. refl) x.1 _ _ _ _
      (rw (skip_renamed f x.1) (bound _ _ _ _ _ _ (listed_renamed open_end shut_end cons begins read e i h same item n x.0.1 (skip x.1)) (λ xs. rw (h x.0.0 xs.0) refl)))
      (rw (← h x.0.0 shut_end, i) refl)))
      (rw e refl)

  pub all_listed_renamed : {S : Type 0} (open_end shut_end : L) (cons : A → L → L) (begins : TokenKind → Bool) (read : S → Tokens → Read (A × S)) → v open_end ≡ open_end → v shut_end ≡ shut_end
      → ((x : A) (xs : L) → cons (w x) (v xs) ≡ v (cons x xs)) → ((m n : Name) → begins (kind.Name m) ≡ begins (kind.Name n)) → ((s : S) → Renames f with_state (read s) (read s))
      → (s : S) → Renames f v (all_listed open_end shut_end cons begins read s) (all_listed open_end shut_end cons begins read s)
  all_listed_renamed open_end shut_end cons begins read e i h same item s ts = rw (length_renamed f ts) (listed_renamed open_end shut_end cons begins read e i h same item (suc (length ts)) s ts)

pub alike_renamed : {A : Type 0} (f : Name → Name) (w : A → A) (read : Tokens → Read A) → Renames f w read read → (u : Unit {0}) → Renames f (λ (x : A × Unit {0}). (w x.0, x.1)) (alike read u) (alike read u)
alike_renamed f w read item u ts = bound _ _ _ _ _ _ (item ts) (λ x. refl)

pub behind_renamed : {A : Type 0} (f : Name → Name) (w : A → A) (read : Tokens → Read A) → Renames f w read read → Renames f w (behind read) (behind read)
behind_renamed f w read item ts = rw (skip_renamed f ts) (item (skip ts))
