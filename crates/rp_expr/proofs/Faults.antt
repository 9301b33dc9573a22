-- What functions answer where reading gives nothing, and what is known of all that reading gives.
use Rattle.std.proofs.Common.{◌≡◌, ℕ, zero, suc, ◌+◌, ◌-◌, ◌<◌, Bool, true, false, List, Option, Some, None, Result, Ok, Err, IfOk, refl, ap, subst, ◌∙◌, arith}
use Rattle.rp_base.specs.declared.operator.BinOp.{BinOp}
use Rattle.rp_token.specs.declared.token.TokenKind.{TokenKind}
use Rattle.rp_tree.specs.Expressions.{Expr}
use Rattle.rp_grammar.specs.Kinds.{Tokens, first, skip}
use Rattle.rp_grammar.specs.ExpressionReading as reading
use Rattle.rp_grammar.specs.ExpressionReading.{Read, Readers, ◌>>=◌, all_many, all_listed, before}
use Rattle.rp_grammar.proofs.Loops.{Shortens, ShortensIn, front, many_fail, listed_fail}
use Rattle.rp_grammar.proofs.Turns.{pair_read, none_above, step_fails}
use Rattle.rp_expr.specs.Gives.{Fails, Gives}
use Rattle.rp_expr.specs.declared.fault.Fault.{Fault}
use Rattle.rp_expr.specs.declared.fault.Fault.TheVariants as fault

-- a fault within is a fault of the whole
pub fails : {Y Z : Type 0} (e : Fault) (part : Option Y) (whole : Option Z) → Fails e part → (part ≡ None → whole ≡ None) → Fails e whole
fails fault.Memory part whole h go = tt
fails fault.Syntax part whole h go = go h

-- a fact of all that reading gives is one of what a function answers
pub answers_sound : {A X : Type 0} (f : X → A × Tokens) (P : A × Tokens → Type 0) (read : Read A) → ((x : A × Tokens) → read ≡ Some x → P x) → (result : Result X Fault) → Gives f result read → IfOk result (λ x. P (f x))
answers_sound f P read sound (Ok x) h = sound (f x) h
answers_sound f P read sound (Err e) h = tt

-- what reading gives is answered
pub answers_read : {A X : Type 0} (f : X → A × Tokens) (read : Read A) (result : Result X Fault) → Gives f result read → (x : A × Tokens) → read ≡ Some x → Gives f result (Some x)
answers_read {A} f read result gives x h = subst (λ (o : Read A). Gives f result o) h gives

-- ---- a fault in a loop

pub many_fails : {A L : Type 0} (nil : L) (cons : A → L → L) (begins : Tokens → Bool) (read : Tokens → Read A) → Shortens begins read → (fault : Fault) (whole : Read L) (items : List A) (rest : Tokens)
    → whole ≡ before (front cons items) (all_many nil cons begins read rest) → begins rest ≡ true → Fails fault (read rest) → Fails fault whole
many_fails nil cons begins read short fault whole items rest so_far begun bad =
    fails fault (read rest) whole bad (λ none. so_far ∙ ap (before (front cons items)) (many_fail nil cons begins read short rest begun none))

pub listed_fails : {S A L : Type 0} (open_end shut_end : L) (cons : A → L → L) (begins : TokenKind → Bool) (read : S → Tokens → Read (A × S)) → ShortensIn read → (fault : Fault) (whole : Read L) (items : List A) (s : S) (rest : Tokens)
    → whole ≡ before (front cons items) (all_listed open_end shut_end cons begins read s rest) → begins (first rest) ≡ true → Fails fault (read s rest) → Fails fault whole
listed_fails open_end shut_end cons begins read short fault whole items s rest so_far begun bad =
    fails fault (read s rest) whole bad (λ none. so_far ∙ ap (before (front cons items)) (listed_fail open_end shut_end cons begins read short s rest begun none))

-- ---- a fault in an item

pub alike_fails : {A : Type 0} (fault : Fault) (read : Tokens → Read A) (ts : Tokens) → Fails fault (read ts) → Fails fault (reading.alike read tt ts)
alike_fails fault read ts bad = fails fault (read ts) (reading.alike read tt ts) bad (λ none. rw none refl)

pub operation_fails : (fault : Fault) (k : ℕ) (read : Tokens → Read Expr) (ts : Tokens) (o : BinOp) → reading.operator_of k (first ts) ≡ Some o → Fails fault (read (skip ts)) → Fails fault (reading.operation k read ts)
operation_fails fault k read ts o h bad = fails fault (read (skip ts)) (reading.operation k read ts) bad (λ none. fails_by (reading.operator_of k (first ts)) o (read (skip ts)) h none)
  where
    fails_by : (p : Option BinOp) (o : BinOp) (q : Read Expr) → p ≡ Some o → q ≡ None → (p >>= λ o. q >>= λ e. pair_read o e.0 e.1) ≡ None
    fails_by p o q h none = rw (h, none) refl

-- ---- a fault at a level of a chain

pub chain_fails : (fault : Fault) (rs : Readers) (k level : ℕ) (ts us : Tokens) (e : Expr) → reading.chain rs k ts ≡ Some (e, us) → k < level → Fails fault (reading.chained_at (suc k) (reading.chain rs k) e us) → Fails fault (reading.chain rs level ts)
chain_fails fault rs k level ts us e so_far below bad =
    fails fault (reading.chained_at (suc k) (reading.chain rs k) e us) (reading.chain rs level ts) bad
    (λ none. let sum : (level - suc k) + suc k ≡ level = omega arith in subst (λ (n : ℕ). reading.chain rs n ts ≡ None) sum (none_above rs (suc k) (level - suc k) ts (step_fails rs k ts us e so_far none)))

pub chain_unread : (fault : Fault) (rs : Readers) (level : ℕ) (ts : Tokens) → Fails fault (reading.unary rs ts) → Fails fault (reading.chain rs level ts)
unfolding reading.chain
chain_unread fault rs level ts bad = fails fault (reading.unary rs ts) (reading.chain rs level ts) bad (λ none. let sum : level + zero ≡ level = omega arith in subst (λ (n : ℕ). reading.chain rs n ts ≡ None) sum (none_above rs zero level ts none))
