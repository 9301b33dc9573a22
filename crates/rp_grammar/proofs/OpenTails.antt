-- The places within tests, blocks and the parts of compound statements that may be missing are open.
use Rattle.std.proofs.Common.{◌≡◌, ℕ, zero, suc, ◌≤◌, Bool, false, ◌∷◌, ◌++◌, Ok, refl, arith}
use Rattle.rp_token.specs.declared.token.TokenKind.TheVariants as kind
use Rattle.rp_tree.specs.Expressions.{Expr}
use Rattle.rp_tree.specs.Heights.{expr_height, stmts_height, maybe_stmts_height, branches_height}
use Rattle.rp_tree.specs.Statements as stmt_tree
use Rattle.rp_tree.specs.Statements.{Stmts, MaybeStmts, Branches, Except, Excepts}
use Rattle.rp_grammar.specs.Expressions as grammar
use Rattle.rp_grammar.specs.Front.{is_colon}
use Rattle.rp_grammar.specs.Kinds.{Tokens, first, skip}
use Rattle.rp_grammar.specs.ExpressionReading as reading
use Rattle.rp_grammar.specs.ExpressionReading.{Readers}
use Rattle.rp_grammar.proofs.ExpressionMarks.{colon_is}
use Rattle.rp_grammar.proofs.ExpressionSound.{AreSound, expr_sound}
use Rattle.rp_grammar.specs.Statements as stmt_grammar
use Rattle.rp_grammar.specs.Statements.{Context}
use Rattle.rp_grammar.specs.StatementReading as stmt_reading
use Rattle.rp_grammar.specs.StatementReading.{Found}
use Rattle.rp_grammar.proofs.Again.{Again}
use Rattle.rp_grammar.proofs.Founds.{from_ok, within_ok}
use Rattle.rp_grammar.proofs.StatementMarks.{elif_is, else_is, finally_is}
use Rattle.rp_grammar.proofs.Parts.{word, expr_again, suite_again, elifs_again, else_again, finally_again}
use Rattle.rp_grammar.proofs.StatementSound.{IsRead, IsTested, tested_sound}
use Rattle.rp_grammar.proofs.Opens.{Until, until_step, Opens, again_opens, behind, behind_word, closing, Any, Tail, tail_here, Then, then, tail_then, Tells, reads, tells, bind_tells, map_tells, from_tells, cond_tells, within_tells, expected_tells}

-- a block, and one behind ':'
abbrev pub SomeBlock : ℕ → Context → Bool → Tokens → Tokens → Type 0
SomeBlock h c members = Any (IsRead stmt_grammar.IsBlock h c members)

abbrev pub SomeSuite : ℕ → Context → Bool → Tokens → Tokens → Type 0
SomeSuite h c members = Any (IsRead stmt_grammar.IsSuite h c members)

-- each place that a reader of blocks tells is open
abbrev pub BlockTells : ℕ → Context → Bool → (Tokens → Found Stmts) → Type 0
BlockTells h c members block = (ts : Tokens) → Tells (Opens (SomeBlock h c members) ts) (block ts)

-- what a reader of blocks answers is a block
abbrev pub BlockReads : ℕ → Context → (Tokens → Found Stmts) → Type 0
BlockReads h c block = (ts : Tokens) (y : Stmts × Tokens) → block ts ≡ Ok y → stmt_grammar.IsBlock c y.0 ts y.1 × (stmts_height y.0 ≤ h)

suite_made : {h : ℕ} {c : Context} {members : Bool} {ts us : Tokens} → first ts ≡ kind.Colon → SomeBlock h c members (skip ts) us → SomeSuite h c members ts us
suite_made is (xs, read) = (xs, record { spelled = stmt_grammar.suite is read.spelled; low = read.low; are_members = read.are_members })

pub suite_tells : (h : ℕ) (c : Context) (members : Bool) (block : Tokens → Found Stmts) → BlockTells h c members block → (ts : Tokens) → Tells (Opens (SomeSuite h c members) ts) (stmt_reading.suite block ts)
suite_tells h c members block t ts = expected_tells is_colon block ts (λ colon. map_tells (t (skip ts)) (λ q o. behind_word ts (colon_is _ colon) refl o (λ us vs is l x. suite_made is x)))

-- ---- 'else' and 'finally'

abbrev pub ElseAt : ℕ → Context → MaybeStmts → Tokens → Tokens → Type 0
ElseAt h c o ts us = stmt_grammar.IsElse c o ts us × (maybe_stmts_height o ≤ h)

abbrev pub FinallyAt : ℕ → Context → MaybeStmts → Tokens → Tokens → Type 0
FinallyAt h c o ts us = stmt_grammar.IsFinally c o ts us × (maybe_stmts_height o ≤ h)

pub else_tail : {K : Tokens → Tokens → Type 0} (h : ℕ) (c : Context) → Tail K → Tail (Then MaybeStmts (ElseAt h c) K)
else_tail h c t = tail_then stmt_tree.none (λ ts. (stmt_grammar.no_else, omega arith)) t

pub finally_tail : {K : Tokens → Tokens → Type 0} (h : ℕ) (c : Context) → Tail K → Tail (Then MaybeStmts (FinallyAt h c) K)
finally_tail h c t = tail_then stmt_tree.none (λ ts. (stmt_grammar.no_finally, omega arith)) t

pub else_behind : {K : Tokens → Tokens → Type 0} {h : ℕ} {c : Context} {o : MaybeStmts} {ts us q : Tokens} → ElseAt h c o ts us → Opens K us q → Opens (Then MaybeStmts (ElseAt h c) K) ts q
else_behind (p, low) o = behind o (λ n b w. else_again (Until _ n) (until_step _ n) p w) (λ ts us vs p k. then (p, low) k)

pub finally_behind : {K : Tokens → Tokens → Type 0} {h : ℕ} {c : Context} {o : MaybeStmts} {ts us q : Tokens} → FinallyAt h c o ts us → Opens K us q → Opens (Then MaybeStmts (FinallyAt h c) K) ts q
finally_behind (p, low) o = behind o (λ n b w. finally_again (Until _ n) (until_step _ n) p w) (λ ts us vs p k. then (p, low) k)

module _ (h : ℕ) (c : Context) (block : Tokens → Found Stmts) (t : BlockTells h c false block) (K : Tokens → Tokens → Type 0) (k : Tail K) where
  else_made : {ts us : Tokens} → first ts ≡ kind.Else → SomeSuite h c false (skip ts) us → Then MaybeStmts (ElseAt h c) K ts us
  else_made {us = us} is (xs, read) = then (stmt_grammar.an_else is read.spelled, read.low) (k.none us)

  finally_made : {ts us : Tokens} → first ts ≡ kind.Finally → SomeSuite h c false (skip ts) us → Then MaybeStmts (FinallyAt h c) K ts us
  finally_made {us = us} is (xs, read) = then (stmt_grammar.a_finally is read.spelled, read.low) (k.none us)

  pub else_tells : (ts : Tokens) → Tells (Opens (Then MaybeStmts (ElseAt h c) K) ts) (stmt_reading.maybe_suite stmt_reading.is_else block ts)
  unfolding stmt_reading.maybe_suite
  else_tells ts =
      cond_tells (stmt_reading.is_else (first ts)) _ _ (λ comes.
      bind_tells _ _ (from_tells ts _ (map_tells (suite_tells h c false block t (skip ts)) (λ q o. behind_word ts (else_is _ comes) refl o (λ us vs is l x. else_made is x))) (tail_here (else_tail h c k) ts)) (λ b found. reads))
      (λ none. reads)

  pub finally_tells : (ts : Tokens) → Tells (Opens (Then MaybeStmts (FinallyAt h c) K) ts) (stmt_reading.maybe_suite stmt_reading.is_finally block ts)
  unfolding stmt_reading.maybe_suite
  finally_tells ts =
      cond_tells (stmt_reading.is_finally (first ts)) _ _ (λ comes.
      bind_tells _ _ (from_tells ts _ (map_tells (suite_tells h c false block t (skip ts)) (λ q o. behind_word ts (finally_is _ comes) refl o (λ us vs is l x. finally_made is x))) (tail_here (finally_tail h c k) ts)) (λ b found. reads))
      (λ none. reads)

-- ---- tests and blocks

pub tested_again : {h : ℕ} {c : Context} {x : Expr × Stmts} {ts us b q : Tokens} (n : ℕ) → IsTested h c x ts us → Until q n us b → Again (Until q n) (IsTested h c x) ts b
tested_again {q = q} n t w =
    let (f, w, body) = suite_again (Until q n) (until_step q n) t.suite w in
    let (e, w, test) = expr_again (Until q n) (until_step q n) t.test w in
    (e, w, λ vs. record { middle = f ++ vs; test = test vs; suite = body vs; test_low = t.test_low; suite_low = t.suite_low })

tested_made : {h : ℕ} {c : Context} {e : Expr} {ts us vs : Tokens} → grammar.IsExpr e ts us → expr_height e ≤ h → SomeSuite h c false us vs → Any (IsTested h c) ts vs
tested_made {e = e} {us = us} p low (b, read) = ((e, b), record { middle = us; test = p; suite = read.spelled; test_low = low; suite_low = read.low })

abbrev pub ElifsAt : ℕ → Context → Branches → Tokens → Tokens → Type 0
ElifsAt h c bs ts us = stmt_grammar.IsElifs c bs ts us × (branches_height bs ≤ h)

pub elifs_tail : {K : Tokens → Tokens → Type 0} (h : ℕ) (c : Context) → Tail K → Tail (Then Branches (ElifsAt h c) K)
elifs_tail h c t = tail_then stmt_tree.no_branches (λ ts. (stmt_grammar.no_elif, omega arith)) t

pub elifs_behind : {K : Tokens → Tokens → Type 0} {h : ℕ} {c : Context} {bs : Branches} {ts us q : Tokens} → ElifsAt h c bs ts us → Opens K us q → Opens (Then Branches (ElifsAt h c) K) ts q
elifs_behind (p, low) o = behind o (λ n b w. elifs_again (Until _ n) (until_step _ n) p w) (λ ts us vs p k. then (p, low) k)

elif_made : {K : Tokens → Tokens → Type 0} {h : ℕ} {c : Context} {x : Expr × Stmts} {ts us vs : Tokens} → first ts ≡ kind.Elif → IsTested h c x (skip ts) us → Then Branches (ElifsAt h c) K us vs
    → Then Branches (ElifsAt h c) K ts vs
elif_made is t (then (p, low) k) =
    let test_low = t.test_low in
    let suite_low = t.suite_low in
    then (stmt_grammar.an_elif is t.test t.suite p, omega arith) k

module _ (rs : Readers) (inner : AreSound rs) (h : ℕ) (c : Context) (block : Tokens → Found Stmts) (sound : BlockReads h c block) (t : BlockTells h c false block) where
  pub tested_tells : (ts : Tokens) → Tells (Opens (Any (IsTested h c)) ts) (stmt_reading.tested rs h block ts)
  unfolding stmt_reading.tested
  tested_tells ts =
      bind_tells _ _ (within_tells expr_height h (reading.expr rs ts)) (λ v found.
      let (read, low) = within_ok expr_height h _ v found in
      bind_tells _ _ (map_tells (suite_tells h c false block t v.1) (λ q o. behind o (λ n b w. expr_again (Until q n) (until_step q n) (expr_sound rs inner ts v read) w) (λ ts us vs p x. tested_made p low x))) (λ b found. reads))

  module _ (K : Tokens → Tokens → Type 0) (k : Tail K) where
    pub elifs_tells : (n : ℕ) (ts : Tokens) → Tells (Opens (Then Branches (ElifsAt h c) K) ts) (stmt_reading.elifs_by n rs h block ts)
    unfolding stmt_reading.elifs_by
    elifs_tells zero ts = tells (tail_here (elifs_tail h c k) ts)
    elifs_tells (suc n) ts =
        cond_tells (stmt_reading.is_elif (first ts)) _ _ (λ comes.
        bind_tells _ _ (from_tells ts _ (map_tells (tested_tells (skip ts)) (λ q o. behind_word ts (elif_is _ comes) refl o (λ us vs is l x. elif_made is x.1 ((elifs_tail h c k).none vs)))) (tail_here (elifs_tail h c k) ts)) (λ x found.
        let front = tested_sound rs inner h c block sound (skip ts) x (from_ok ts _ _ found) in
        bind_tells _ _ (map_tells (elifs_tells n x.1) (λ q o. elif_behind ts (elif_is _ comes) front o)) (λ bs found. reads)))
        (λ over. reads)
      where
        elif_behind : {x : Expr × Stmts} {us q : Tokens} (ts : Tokens) → first ts ≡ kind.Elif → IsTested h c x (skip ts) us → Opens (Then Branches (ElifsAt h c) K) us q → Opens (Then Branches (ElifsAt h c) K) ts q
        elif_behind {q = q} ts is front o =
            let (f, w, test) = tested_again o.dedents front o.until in
            let (x, w, is, l) = word (Until q o.dedents) (until_step q o.dedents) ts is refl w in
            again_opens o (x ∷ f) w (λ tail. elif_made is (test (closing o.dedents tail)) (o.spelled tail))
