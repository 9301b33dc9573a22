-- A place is open: what stands before it, followed by `pass`, NEWLINE and DEDENTs, is spelled as asked. Readers tell open places.
use Rattle.std.proofs.Common.{◌≡◌, ℕ, suc, ◌≤◌, Bool, true, false, cond, [], ◌∷◌, ◌++◌, replicate, count_by, Some, None, Ok, Err, refl, ap, subst, arith}
use Rattle.std.proofs.lemmas.List.Sums.{sum_by-cons}
use Rattle.rp_token.specs.declared.token.Token.{Token}
use Rattle.rp_token.specs.declared.token.TokenKind.{TokenKind}
use Rattle.rp_token.specs.declared.token.TokenKind.TheVariants as kind
use Rattle.rp_tree.specs.Expressions.{Named}
use Rattle.rp_tree.specs.Statements as stmt_tree
use Rattle.rp_tree.specs.Statements.{Stmts}
use Rattle.rp_grammar.specs.Kinds.{Tokens, first, line_at, skip}
use Rattle.rp_grammar.specs.ExpressionReading.{Read}
use Rattle.rp_grammar.specs.Statements as stmt_grammar
use Rattle.rp_grammar.specs.Statements.{Context, one}
use Rattle.rp_grammar.specs.StatementReading.{Found, ◌>>>◌, from, hidden, within, expected, with_name}
use Rattle.rp_grammar.specs.Program.{token, is_indent}
use Rattle.rp_grammar.proofs.Again.{is_inner, Again}
use Rattle.rp_grammar.proofs.Parts.{word}
use Rattle.rp_grammar.proofs.StatementSound.{IsRead}

-- followed by `pass`, NEWLINE and so many DEDENTs
abbrev pub closing : ℕ → Tokens → Tokens
closing n tail = token kind.Pass ∷ token kind.Newline ∷ (replicate n (token kind.Dedent) ++ tail)

-- the front of ts that is before q, with at least n INDENTs
pub record Until (q : Tokens) (n : ℕ) (ts front : Tokens) : Type 0 where
  pub parts : ts ≡ front ++ q
  pub enough : n ≤ count_by is_indent front

pub until_step : (q : Tokens) (n : ℕ) (x : Token) (ts b : Tokens) → Until q n ts b → Until q n (x ∷ ts) (x ∷ b)
until_step q n x ts b w =
    let enough = w.enough in
    record { parts = ap (λ (z : Tokens). x ∷ z) w.parts; enough = omega (arith, enough, sum_by-cons (λ y. cond (is_indent y) 1 0) x b) }

-- q is a place of ts, and what stands before it, closed, is what X says
pub record Opens (X : Tokens → Tokens → Type 0) (ts q : Tokens) : Type 0 where
  pub dedents : ℕ
  pub front : Tokens
  pub until : Until q dedents ts front
  pub spelled : (tail : Tokens) → X (front ++ closing dedents tail) tail

-- the same place, seen from further before it
pub again_opens : {X Z : Tokens → Tokens → Type 0} {ts us q : Tokens} (o : Opens X us q) (f : Tokens) → Until q o.dedents ts f → ((tail : Tokens) → Z (f ++ closing o.dedents tail) tail) → Opens Z ts q
again_opens o f w z = record { dedents = o.dedents; front = f; until = w; spelled = z }

pub opens_map : {X Z : Tokens → Tokens → Type 0} {ts q : Tokens} → Opens X ts q → ((ts vs : Tokens) → X ts vs → Z ts vs) → Opens Z ts q
opens_map o g = record { dedents = o.dedents; front = o.front; until = o.until; spelled = λ tail. g (o.front ++ closing o.dedents tail) tail (o.spelled tail) }

-- behind what is spelled again
pub behind : {X Y Z : Tokens → Tokens → Type 0} {ts us q : Tokens} → Opens X us q → ((n : ℕ) (b : Tokens) → Until q n us b → Again (Until q n) Y ts b) → ((ts us vs : Tokens) → Y ts us → X us vs → Z ts vs)
    → Opens Z ts q
behind o again join =
    let (f, w, y) = again o.dedents o.front o.until in
    again_opens o f w (λ tail. join (f ++ closing o.dedents tail) (o.front ++ closing o.dedents tail) tail (y (closing o.dedents tail)) (o.spelled tail))

-- behind a token of a kind
pub behind_word : {k : TokenKind} {X Z : Tokens → Tokens → Type 0} {q : Tokens} (ts : Tokens) → first ts ≡ k → is_inner k ≡ true → Opens X (skip ts) q
    → ((us vs : Tokens) → first us ≡ k → line_at us ≡ line_at ts → X (skip us) vs → Z us vs) → Opens Z ts q
behind_word {q = q} ts is inner o join =
    let (x, w, is, l) = word (Until q o.dedents) (until_step q o.dedents) ts is inner o.until in
    again_opens o (x ∷ o.front) w (λ tail. join (x ∷ (o.front ++ closing o.dedents tail)) tail is l (o.spelled tail))

-- a value of any kind that P says
abbrev pub Any : {A : Type 0} → (A → Tokens → Tokens → Type 0) → Tokens → Tokens → Type 0
Any {A} P ts us = (x : A) × P x ts us

-- ---- what may be missing

-- what may be missing, where a statement may stand behind it
pub record Tail (K : Tokens → Tokens → Type 0) : Type 0 where
  pub here : (tail : Tokens) → K (closing 0 tail) tail
  pub none : (us : Tokens) → K us us

pub tail_here : {K : Tokens → Tokens → Type 0} → Tail K → (ts : Tokens) → Opens K ts ts
tail_here t ts = record { dedents = 0; front = []; until = record { parts = refl; enough = omega arith }; spelled = t.here }

pub data Then (A : Type 0) (P : A → Tokens → Tokens → Type 0) (K : Tokens → Tokens → Type 0) : Tokens → Tokens → Type 0 where
  then : {x : A} {ts us vs : Tokens} → P x ts us → K us vs → Then A P K ts vs

pub tail_then : {A : Type 0} {P : A → Tokens → Tokens → Type 0} {K : Tokens → Tokens → Type 0} (x : A) → ((ts : Tokens) → P x ts ts) → Tail K → Tail (Then A P K)
tail_then x none t = record { here = λ tail. then (none (closing 0 tail)) (t.here tail); none = λ us. then (none us) (t.none us) }

pub pass_line : (h : ℕ) (c : Context) (members : Bool) (tail : Tokens) → IsRead stmt_grammar.IsLine (suc h) c members (one (stmt_tree.a_stmt (record { 0 = 0 }) stmt_tree.pass)) (closing 0 tail) tail
pass_line h c members tail = record { spelled = stmt_grammar.line_end (stmt_grammar.is_pass refl) refl; low = omega arith; are_members = λ m. refl }

pub pass_statement : (h : ℕ) (c : Context) (members : Bool) (tail : Tokens) → IsRead stmt_grammar.IsStatement (suc h) c members (one (stmt_tree.a_stmt (record { 0 = 0 }) stmt_tree.pass)) (closing 0 tail) tail
pass_statement h c members tail = record { spelled = stmt_grammar.a_line (stmt_grammar.line_end (stmt_grammar.is_pass refl) refl); low = omega arith; are_members = λ m. refl }

pub no_statements : (h : ℕ) (c : Context) (members : Bool) (us : Tokens) → IsRead stmt_grammar.IsStatements h c members stmt_tree.no_stmts us us
no_statements h c members us = record { spelled = stmt_grammar.no_statement; low = omega arith; are_members = λ m. refl }

pub statements_tail : (h : ℕ) (c : Context) (members : Bool) → Tail (Any (IsRead stmt_grammar.IsStatements (suc h) c members))
statements_tail h c members = record {
  here = λ tail. (one (stmt_tree.a_stmt (record { 0 = 0 }) stmt_tree.pass), record { spelled = stmt_grammar.more_statements (stmt_grammar.a_line (stmt_grammar.line_end (stmt_grammar.is_pass refl) refl)) stmt_grammar.no_statement; low = omega arith; are_members = λ m. refl });
  none = λ us. (stmt_tree.no_stmts, no_statements (suc h) c members us);
}

-- ---- readers that tell places

-- each place that is told is one of O
pub data Tells {A : Type 0} (O : Tokens → Type 0) : Found A → Type 0 where
  reads : {x : A × Tokens} → Tells O (Ok x)
  silent : Tells O (Err None)
  tells : {q : Tokens} → O q → Tells O (Err (Some q))

pub bind_tells : {A B : Type 0} {O : Tokens → Type 0} (found : Found A) (f : A × Tokens → Found B) → Tells O found → ((x : A × Tokens) → found ≡ Ok x → Tells O (f x)) → Tells O (found >>> f)
bind_tells (Ok x) f t k = k x refl
bind_tells (Err None) f t k = silent
bind_tells (Err (Some q)) f (tells o) k = tells o

pub map_tells : {A : Type 0} {O U : Tokens → Type 0} {found : Found A} → Tells O found → ((q : Tokens) → O q → U q) → Tells U found
map_tells reads g = reads
map_tells silent g = silent
map_tells (tells {q = q} o) g = tells (g q o)

pub from_tells : {A : Type 0} {O : Tokens → Type 0} (ts : Tokens) (found : Found A) → Tells O found → O ts → Tells O (from ts found)
from_tells ts (Ok x) t here = reads
from_tells ts (Err None) t here = tells here
from_tells ts (Err (Some q)) (tells o) here = tells o

pub cond_tells : {A : Type 0} {O : Tokens → Type 0} (b : Bool) (x y : Found A) → (b ≡ true → Tells O x) → (b ≡ false → Tells O y) → Tells O (cond b x y)
cond_tells true x y t u = t refl
cond_tells false x y t u = u refl

pub within_tells : {A : Type 0} {O : Tokens → Type 0} (height : A → ℕ) (h : ℕ) (read : Read A) → Tells O (within height h read)
within_tells height h None = silent
within_tells height h (Some x) = cond_tells _ (Ok x) (Err None) (λ low. reads) (λ high. silent)

pub expected_tells : {A : Type 0} {O : Tokens → Type 0} (is : TokenKind → Bool) (more : Tokens → Found A) (ts : Tokens) → (is (first ts) ≡ true → Tells O (more (skip ts))) → Tells O (expected is more ts)
expected_tells is more ts t = cond_tells (is (first ts)) (more (skip ts)) (Err None) t (λ other. silent)

pub hidden_tells : {A : Type 0} {O : Tokens → Type 0} (found : Found A) → Tells O (hidden found)
hidden_tells (Ok x) = reads
hidden_tells (Err q) = silent

pub with_name_tells : {A : Type 0} {O : Tokens → Type 0} (more : Named → Tokens → Found A) (read : Read Named) → ((n : Named × Tokens) → read ≡ Some n → Tells O (more n.0 n.1)) → Tells O (with_name more read)
with_name_tells more None t = silent
with_name_tells more (Some n) t = t n refl

-- a place that is told
pub told : {A : Type 0} {O : Tokens → Type 0} {found : Found A} (q : Tokens) → Tells O found → found ≡ Err (Some q) → O q
told q reads e = absurd cc
told q silent e = absurd cc
told {O = O} q (tells {q = p} o) e = let same : p ≡ q = cc in subst O same o
