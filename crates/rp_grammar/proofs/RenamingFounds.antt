-- What the combinators of reading answer at renamed tokens, where places are told.
use Rattle.std.proofs.Common.{◌≡◌, ℕ, nat_le, Bool, true, false, cond, Some, None, Ok, Err, option_map, refl}
use Rattle.rp_base.specs.declared.value.Name.{Name}
use Rattle.rp_token.specs.declared.token.TokenKind.{TokenKind}
use Rattle.rp_token.specs.declared.token.TokenKind.TheVariants as kind
use Rattle.rp_grammar.specs.Kinds.{Tokens, skip}
use Rattle.rp_grammar.specs.ExpressionReading.{Read}
use Rattle.rp_grammar.specs.StatementReading.{Found, ◌>>>◌, from, hidden, within, expected, no_member}
use Rattle.rp_grammar.proofs.Renamed.{renamed_tokens}
use Rattle.rp_grammar.proofs.RenamingBasics.{skip_renamed, moved, branched}

-- what is found at renamed tokens, where w renames the value
abbrev pub told : {A B : Type 0} → (Name → Name) → (A → B) → Found A → Found B
told f w (Ok x) = Ok (w x.0, renamed_tokens f x.1)
told f w (Err place) = Err (option_map (renamed_tokens f) place)

-- what finds by w what it finds at other names
abbrev pub Tells : {A B : Type 0} → (Name → Name) → (A → B) → (Tokens → Found A) → (Tokens → Found B) → Type 0
Tells f w read read' = (ts : Tokens) → read' (renamed_tokens f ts) ≡ told f w (read ts)

module _ (f : Name → Name) where
  pub found_then : {A B C D : Type 0} (w : A → C) (v : B → D) (o : Found A) (o' : Found C) (k : A × Tokens → Found B) (k' : C × Tokens → Found D)
      → o' ≡ told f w o → ((x : A × Tokens) → k' (w x.0, renamed_tokens f x.1) ≡ told f v (k x)) → (o' >>> k') ≡ told f v (o >>> k)
  found_then w v (Ok x) o' k k' e h = rw e (h x)
  found_then w v (Err q) o' k k' e h = rw e refl

  pub from_told : {A B : Type 0} (w : A → B) (ts : Tokens) (o : Found A) (o' : Found B) → o' ≡ told f w o → from (renamed_tokens f ts) o' ≡ told f w (from ts o)
  from_told w ts (Ok x) o' e = rw e refl
  from_told w ts (Err None) o' e = rw e refl
  from_told w ts (Err (Some q)) o' e = rw e refl

  pub hidden_told : {A B : Type 0} (w : A → B) (o : Found A) (o' : Found B) → o' ≡ told f w o → hidden o' ≡ told f w (hidden o)
  hidden_told w (Ok x) o' e = rw e refl
  hidden_told w (Err q) o' e = rw e refl

  pub within_told : {A B : Type 0} (w : A → B) (height : A → ℕ) (height' : B → ℕ) (h : ℕ) (o : Read A) (o' : Read B) → ((x : A) → height' (w x) ≡ height x) → o' ≡ moved f w o → within height' h o' ≡ told f w (within height h o)
  within_told w height height' h None o' same e = rw e refl
  within_told w height height' h (Some x) o' same e = rw (e, same x.0) (when (nat_le (height x.0) h))
    where
      when : (b : Bool) → cond b (Ok (w x.0, renamed_tokens f x.1)) (Err None) ≡ told f w (cond b (Ok x) (Err None))
      when true = refl
      when false = refl

  pub expected_told : {A B : Type 0} (w : A → B) (is : TokenKind → Bool) → ((m n : Name) → is (kind.Name m) ≡ is (kind.Name n)) → (more : Tokens → Found A) (more' : Tokens → Found B) (ts : Tokens)
      → Tells f w more more' → expected is more' (renamed_tokens f ts) ≡ told f w (expected is more ts)
  expected_told w is same more more' ts h = branched f (told f w) is same ts _ _ _ _ (rw (skip_renamed f ts) (h (skip ts))) refl

  pub no_member_told : {A B : Type 0} (w : A → B) (members : Bool) (o : Found A) (o' : Found B) → o' ≡ told f w o → no_member members o' ≡ told f w (no_member members o)
  no_member_told w true o o' e = refl
  no_member_told w false o o' e = e
