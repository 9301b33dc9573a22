-- One turn of each loop: it takes a token, and what its item was read to be.
use Rattle.std.proofs.Common.{◌≡◌, ℕ, zero, suc, ◌+◌, ◌-◌, ◌<◌, Bool, true, false, cond, length, Option, Some, None, refl, ap, subst, inl, inr, add-one, arith}
use Rattle.rp_base.specs.declared.operator.BinOp.{BinOp}
use Rattle.rp_token.specs.declared.token.TokenKind.{TokenKind}
use Rattle.rp_token.specs.declared.token.TokenKind.TheVariants as kind
use Rattle.rp_tree.specs.Expressions as tree
use Rattle.rp_tree.specs.Expressions.{Named, Expr, Maybe}
use Rattle.rp_grammar.specs.Kinds.{Tokens, first, skip, binary_of}
use Rattle.rp_grammar.specs.Front as token_tests
use Rattle.rp_grammar.specs.ExpressionReading as reading
use Rattle.rp_grammar.specs.ExpressionReading.{Read, Readers, ◌>>=◌}
use Rattle.rp_grammar.proofs.Basics.{bind_some, some_is, chosen}
use Rattle.rp_grammar.proofs.ExpressionSound.{readers_sound, clause_begun, trailer_sound, operation_sound, chain_sound, test_sound, not_sound, and_sound, pair_sound, part_sound, arg_sound}
use Rattle.rp_grammar.proofs.ExpressionTakes.{skip_within, takes, clause_takes, trailer_takes, chain_takes, tested_takes, not_takes, and_takes, or_takes, expr_takes, part_takes, arg_takes}
use Rattle.rp_grammar.proofs.Loops.{Shortens, ShortensIn}

abbrev Shorter : {A : Type 0} → (Tokens → Read A) → Type 0
Shorter {A} read = (ts : Tokens) (x : A × Tokens) → read ts ≡ Some x → length x.1 < length ts

behind_short : {A : Type 0} (is : TokenKind → Bool) (read : Tokens → Read A) → Shorter read → Shortens (reading.at is) (reading.behind read)
behind_short is read short ts x begun h = omega (arith, short (skip ts) x h, skip_within ts)

alike_short : {A : Type 0} (read : Tokens → Read A) → Shorter read → ShortensIn (reading.alike read)
alike_short {A} read short s ts x h =
    let (y, found, all) = bind_some _ _ _ h in
    let same : ◌≡◌ {A = (A × Unit {0}) × Tokens} ((y.0, tt), y.1) x = some_is all in
    subst (λ (z : (A × Unit {0}) × Tokens). length z.1 < length ts) same (short ts y found)

pub ifs_short : (d : ℕ) → Shortens (reading.at token_tests.is_if) (reading.behind (reading.readers d).or)
ifs_short d = behind_short token_tests.is_if (reading.readers d).or (λ ts x h. or_takes ((readers_sound d).or ts x h))

pub clauses_short : (d : ℕ) → Shortens (reading.at token_tests.is_for) (reading.behind (reading.clause (reading.readers d)))
clauses_short d ts x begun h = clause_takes (clause_begun (reading.readers d) (readers_sound d) ts x begun h)

pub trailers_short : (d : ℕ) → Shortens (reading.at token_tests.starts_trailer) (reading.trailer (reading.readers d))
trailers_short d ts x begun h = trailer_takes (trailer_sound (reading.readers d) (readers_sound d) ts x h)

pub operations_short : (d k : ℕ) → Shortens (reading.at (λ j. reading.is_some (reading.operator_of (suc k) j))) (reading.operation (suc k) (reading.chain (reading.readers d) k))
operations_short d k ts x begun h =
    let (binary, loose, right) = operation_sound k (reading.chain (reading.readers d) k) (chain_sound (reading.readers d) (readers_sound d) k) ts x h in
    omega (arith, chain_takes right, skip_within ts)

pub tests_short : (d : ℕ) → Shortens reading.at_test (reading.comparison (reading.readers d))
tests_short d ts x begun h = tested_takes (test_sound (reading.readers d) (readers_sound d) ts x h)

pub ands_short : (d : ℕ) → Shortens (reading.at token_tests.is_and) (reading.behind (reading.not (reading.readers d)))
ands_short d = behind_short token_tests.is_and (reading.not (reading.readers d)) (λ ts x h. not_takes (not_sound (reading.readers d) (readers_sound d) ts x h))

pub ors_short : (d : ℕ) → Shortens (reading.at token_tests.is_or) (reading.behind (reading.and (reading.readers d)))
ors_short d = behind_short token_tests.is_or (reading.and (reading.readers d)) (λ ts x h. and_takes (and_sound (reading.readers d) (readers_sound d) ts x h))

pub exprs_short : (d : ℕ) → ShortensIn (reading.alike (reading.readers d).expr)
exprs_short d = alike_short (reading.readers d).expr (λ ts x h. expr_takes ((readers_sound d).expr ts x h))

pub pairs_short : (d : ℕ) → ShortensIn (reading.alike (reading.pair (reading.readers d)))
pairs_short d = alike_short (reading.pair (reading.readers d)) (λ ts x h. let (us, key, colon, value) = pair_sound (reading.readers d) (readers_sound d) ts x h in omega (arith, expr_takes key, skip_within us, expr_takes value))

pub parts_short : (d : ℕ) → ShortensIn (reading.alike (reading.part (reading.readers d)))
parts_short d = alike_short (reading.part (reading.readers d)) (λ ts x h. part_takes (part_sound (reading.readers d) (readers_sound d) ts x h).1)

pub args_short : (d : ℕ) → ShortensIn (reading.arg (reading.readers d))
args_short d named ts x h = arg_takes (arg_sound (reading.readers d) (readers_sound d) named ts x h).1

name_short : (k : TokenKind) (ts : Tokens) (n : Named × Tokens) → first ts ≡ k → reading.name_by k ts ≡ Some n → length n.1 < length ts
name_short (kind.Name m) ts n is h = let same = some_is h in subst (λ (z : Named × Tokens). length z.1 < length ts) same (takes ts _ is (λ e. cc))
name_short _ ts n is h = absurd cc

without_short : (b : Bool) (n : Named × Tokens) (ts : Tokens) (x : ((Named × Maybe) × Bool) × Tokens) → length n.1 < length ts → cond b None (Some (((n.0, tree.none), false), n.1)) ≡ Some x → length x.1 < length ts
without_short true n ts x lt h = absurd cc
without_short false n ts x lt h = let same = some_is h in subst (λ (z : ((Named × Maybe) × Bool) × Tokens). length z.1 < length ts) same lt

abbrev defaulted : Named → Expr → Tokens → Read ((Named × Maybe) × Bool)
defaulted n e us = Some (((n, tree.some e), true), us)

with_short : (o : Read Expr) (n : Named) (ts : Tokens) (x : ((Named × Maybe) × Bool) × Tokens) → ((e : Expr × Tokens) → o ≡ Some e → length e.1 < length ts) → (o >>= λ e. defaulted n e.0 e.1) ≡ Some x → length x.1 < length ts
with_short None n ts x short h = absurd cc
with_short (Some e) n ts x short h = let same = some_is h in subst (λ (z : ((Named × Maybe) × Bool) × Tokens). length z.1 < length ts) same (short e refl)

pub plains_short : (d : ℕ) → ShortensIn (reading.plain (reading.readers d))
unfolding reading.plain
plains_short d b ts x h =
    let (n, found, more) = bind_some _ _ _ h in
    let lt = name_short (first ts) ts n refl found in
    elim (chosen (token_tests.is_equal (first n.1)) _ _ _ more) [
      | inl (comes, h) ↦ with_short ((reading.readers d).expr (skip n.1)) n.0 ts x (λ e read. omega (arith, expr_takes ((readers_sound d).expr (skip n.1) e read), skip_within n.1)) h
      | inr (over, h) ↦ without_short b n ts x lt h
    ]

-- ---- what an item is read to be

pub operation_begins : (o : Option BinOp) (x : BinOp) → o ≡ Some x → reading.is_some o ≡ true
operation_begins o x h = ap reading.is_some h

abbrev pub pair_read : BinOp → Expr → Tokens → Read (BinOp × Expr)
pair_read o e us = Some ((o, e), us)

pub operation_reads : (k : ℕ) (read : Tokens → Read Expr) (ts us : Tokens) (o : BinOp) (e : Expr) → reading.operator_of k (first ts) ≡ Some o → read (skip ts) ≡ Some (e, us) → reading.operation k read ts ≡ Some ((o, e), us)
operation_reads k read ts us o e h is = operation_by (reading.operator_of k (first ts)) o (read (skip ts)) e us h is
  where
    operation_by : (p : Option BinOp) (o : BinOp) (q : Read Expr) (e : Expr) (us : Tokens) → p ≡ Some o → q ≡ Some (e, us) → (p >>= λ o. q >>= λ e. pair_read o e.0 e.1) ≡ Some ((o, e), us)
    operation_by p o q e us h is = rw (h, is) refl

-- ---- the readers at a depth

pub expr_at : (d : ℕ) (ts : Tokens) → (d ≡ 0 → ⊥) → (reading.readers d).expr ts ≡ reading.expr (reading.readers (d - 1)) ts
unfolding reading.readers
expr_at zero ts h = absurd (h refl)
expr_at (suc d) ts h = let e : suc d - 1 ≡ d = omega arith in rw e refl

pub or_at : (d : ℕ) (ts : Tokens) → (d ≡ 0 → ⊥) → (reading.readers d).or ts ≡ reading.or (reading.readers (d - 1)) ts
unfolding reading.readers
or_at zero ts h = absurd (h refl)
or_at (suc d) ts h = let e : suc d - 1 ≡ d = omega arith in rw e refl

pub not_at : (d : ℕ) (ts : Tokens) → (d ≡ 0 → ⊥) → (reading.readers d).not ts ≡ reading.not (reading.readers (d - 1)) ts
unfolding reading.readers
not_at zero ts h = absurd (h refl)
not_at (suc d) ts h = let e : suc d - 1 ≡ d = omega arith in rw e refl

pub unary_at : (d : ℕ) (ts : Tokens) → (d ≡ 0 → ⊥) → (reading.readers d).unary ts ≡ reading.unary (reading.readers (d - 1)) ts
unfolding reading.readers
unary_at zero ts h = absurd (h refl)
unary_at (suc d) ts h = let e : suc d - 1 ≡ d = omega arith in rw e refl

pub primary_at : (d : ℕ) (ts : Tokens) → (d ≡ 0 → ⊥) → (reading.readers d).primary ts ≡ reading.primary (reading.readers (d - 1)) ts
unfolding reading.readers
primary_at zero ts h = absurd (h refl)
primary_at (suc d) ts h = let e : suc d - 1 ≡ d = omega arith in rw e refl

-- none at depth 0
pub record ReadsNone (rs : Readers) (ts : Tokens) : Type 0 where
  pub expr : rs.expr ts ≡ None
  pub or : rs.or ts ≡ None
  pub not : rs.not ts ≡ None
  pub unary : rs.unary ts ≡ None
  pub primary : rs.primary ts ≡ None

pub none_at : (d : ℕ) (ts : Tokens) → d ≡ 0 → ReadsNone (reading.readers d) ts
unfolding reading.readers
none_at zero ts h = record { expr = refl; or = refl; not = refl; unary = refl; primary = refl }
none_at (suc d) ts h = absurd (omega arith)

-- ---- the levels of a chain

-- one level more
pub chain_step : (rs : Readers) (k : ℕ) (ts us : Tokens) (e : Expr) (x : Expr × Tokens) → reading.chain rs k ts ≡ Some (e, us) → reading.chained_at (suc k) (reading.chain rs k) e us ≡ Some x → reading.chain rs (k + 1) ts ≡ Some x
unfolding reading.chain
chain_step rs k ts us e x so_far is = rw (add-one, so_far) is

-- nothing is read at the levels above one at which nothing is read
pub none_above : (rs : Readers) (k n : ℕ) (ts : Tokens) → reading.chain rs k ts ≡ None → reading.chain rs (n + k) ts ≡ None
unfolding reading.chain
none_above rs k zero ts none = let e : zero + k ≡ k = omega arith in rw e none
none_above rs k (suc n) ts none = let e : suc n + k ≡ suc (n + k) = omega arith in rw (e, none_above rs k n ts none) refl

pub step_fails : (rs : Readers) (k : ℕ) (ts us : Tokens) (e : Expr) → reading.chain rs k ts ≡ Some (e, us) → reading.chained_at (suc k) (reading.chain rs k) e us ≡ None → reading.chain rs (suc k) ts ≡ None
unfolding reading.chain
step_fails rs k ts us e so_far none = rw so_far none

pub chain_begins : (rs : Readers) (ts us : Tokens) (e : Expr) → reading.unary rs ts ≡ Some (e, us) → reading.chain rs 0 ts ≡ Some (e, us)
unfolding reading.chain
chain_begins rs ts us e is = is

none_of : (o : Option BinOp) → reading.is_some o ≡ false → o ≡ None
none_of None h = refl
none_of (Some o) h = absurd cc

-- with no operator behind the first operand, each level has it alone
pub chain_alone : (rs : Readers) (level : ℕ) (ts us : Tokens) (e : Expr) → reading.unary rs ts ≡ Some (e, us) → reading.is_some (binary_of (first us)) ≡ false → reading.chain rs level ts ≡ Some (e, us)
unfolding reading.chain reading.chained_at
chain_alone rs zero ts us e is none = is
chain_alone rs (suc k) ts us e is none = rw (chain_alone rs k ts us e is none, none_of (binary_of (first us)) none) refl
