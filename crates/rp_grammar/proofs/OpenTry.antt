-- The places within `try` are open, but for those of its first block, which no reader tells.
use Rattle.std.proofs.Common.{◌≡◌, ℕ, zero, suc, ◌≤◌, Bool, true, false, not, ◌&&◌, ◌∷◌, Some, None, Ok, refl, sym, subst, arith}
use Rattle.rp_base.specs.declared.value.Name.{Name}
use Rattle.rp_token.specs.declared.token.TokenKind.{TokenKind}
use Rattle.rp_token.specs.declared.token.TokenKind.TheVariants as kind
use Rattle.rp_tree.specs.Expressions.{Expr}
use Rattle.rp_tree.specs.Heights.{expr_height, stmts_height, except_height, excepts_height}
use Rattle.rp_tree.specs.Statements as stmt_tree
use Rattle.rp_tree.specs.Statements.{StmtForm, Stmts, MaybeStmts, Except, Excepts}
use Rattle.rp_grammar.specs.Expressions as grammar
use Rattle.rp_grammar.specs.Expressions.{named}
use Rattle.rp_grammar.specs.Kinds.{Tokens, first, skip}
use Rattle.rp_grammar.specs.ExpressionReading as reading
use Rattle.rp_grammar.specs.ExpressionReading.{Readers}
use Rattle.rp_grammar.proofs.ExpressionSound.{AreSound, expr_sound}
use Rattle.rp_grammar.specs.Statements as stmt_grammar
use Rattle.rp_grammar.specs.Statements.{Context, in_handler}
use Rattle.rp_grammar.specs.StatementReading as stmt_reading
use Rattle.rp_grammar.specs.StatementReading.{Found, ◌>>>◌}
use Rattle.rp_grammar.proofs.Again.{Again}
use Rattle.rp_grammar.proofs.Founds.{bind_ok, from_ok, got_ok, within_ok, hidden_ok}
use Rattle.rp_grammar.proofs.StatementMarks.{except_is}
use Rattle.rp_grammar.proofs.Parts.{word, expr_again, suite_again, handlers_again}
use Rattle.rp_grammar.proofs.StatementSound.{Further, suite_sound, else_sound, handlers_sound}
use Rattle.rp_grammar.proofs.Opens.{Until, until_step, Opens, again_opens, behind, behind_word, closing, Any, Tail, tail_here, Then, then, tail_then, statements_tail, Tells, reads, silent, tells, bind_tells, map_tells, from_tells, cond_tells, within_tells, hidden_tells}
use Rattle.rp_grammar.proofs.OpenTails.{SomeSuite, BlockTells, BlockReads, suite_tells, ElseAt, FinallyAt, else_tail, finally_tail, else_behind, else_tells, finally_tells}
use Rattle.rp_grammar.proofs.OpenCompounds.{End, CompoundThen, compound_then}

-- a handler, and whether it handles all
data HandlerAt (c : Context) : Except × Bool → Tokens → Tokens → Type 0 where
  every : {b : Stmts} {ts us : Tokens} → first ts ≡ kind.Except → stmt_grammar.IsSuite (in_handler c) b (skip ts) us → HandlerAt c (stmt_tree.an_except None None b, true) ts us
  plain : {e : Expr} {b : Stmts} {ts us vs : Tokens} → first ts ≡ kind.Except → grammar.IsExpr e (skip ts) us → stmt_grammar.IsSuite (in_handler c) b us vs → HandlerAt c (stmt_tree.an_except (Some e) None b, false) ts vs
  with_name : {e : Expr} {n : Name} {b : Stmts} {ts us vs : Tokens} → first ts ≡ kind.Except → grammar.IsExpr e (skip ts) us → first us ≡ kind.As → first (skip us) ≡ kind.Name n → stmt_grammar.IsSuite (in_handler c) b (skip (skip us)) vs
      → HandlerAt c (stmt_tree.an_except (Some e) (Some (named n (skip us))) b, false) ts vs

abbrev LowHandlerAt : ℕ → Context → Except × Bool → Tokens → Tokens → Type 0
LowHandlerAt h c x ts us = HandlerAt c x ts us × (except_height x.0 ≤ h)

handler_again : {c : Context} {x : Except × Bool} {ts us b q : Tokens} (n : ℕ) → HandlerAt c x ts us → Until q n us b → Again (Until q n) (HandlerAt c x) ts b
handler_again {ts = ts} {q = q} n (every h p) w =
    let (f, w, p) = suite_again (Until q n) (until_step q n) p w in
    let (x, w, h, l) = word (Until q n) (until_step q n) ts h refl w in
    (x ∷ f, w, λ vs. every h (p vs))
handler_again {ts = ts} {q = q} n (plain h p r) w =
    let (f, w, r) = suite_again (Until q n) (until_step q n) r w in
    let (f, w, p) = expr_again (Until q n) (until_step q n) p w in
    let (x, w, h, l) = word (Until q n) (until_step q n) ts h refl w in
    (x ∷ f, w, λ vs. plain h (p vs) (r vs))
handler_again {ts = ts} {q = q} n (with_name {us = us} h p i j r) w =
    let (f, w, r) = suite_again (Until q n) (until_step q n) r w in
    let (z, w, j, m) = word (Until q n) (until_step q n) (skip us) j refl w in
    let (y, w, i, l) = word (Until q n) (until_step q n) us i refl w in
    let (f, w, p) = expr_again (Until q n) (until_step q n) p w in
    let (x, w, h, l) = word (Until q n) (until_step q n) ts h refl w in
    (x ∷ f, w, λ vs. rw (← m) (with_name h (p vs) i j (r vs)))

further_again : (c : Context) (xs : Excepts) {ts us b q : Tokens} (n : ℕ) (all : Bool) → Further c all xs ts us → Until q n us b → Again (Until q n) (Further c all xs) ts b
further_again c xs {b = b} {q = q} n true (none, here) w = (b, subst (λ (z : Tokens). Until q n z b) (sym here) w, λ vs. (none, refl))
further_again c xs {q = q} n false p w = handlers_again (Until q n) (until_step q n) p w

further_none : (c : Context) (all : Bool) (us : Tokens) → Further c all stmt_tree.no_excepts us us
further_none c true us = (refl, refl)
further_none c false us = stmt_grammar.no_handler

-- a handler, and others behind it
handlers_made : {c : Context} {x : Except × Bool} {xs : Excepts} {ts us vs : Tokens} → HandlerAt c x ts us → Further c x.1 xs us vs → stmt_grammar.IsHandlers c (stmt_tree.except x.0 xs) ts vs
handlers_made {c} {x} {xs} {ts} {us} {vs} p further = by p further
  where
    by : {x : Except × Bool} {us : Tokens} → HandlerAt c x ts us → Further c x.1 xs us vs → stmt_grammar.IsHandlers c (stmt_tree.except x.0 xs) ts vs
    by (every {b = b} h p) (none, here) =
        subst (λ (z : Excepts). stmt_grammar.IsHandlers c (stmt_tree.except (stmt_tree.an_except None None b) z) ts vs) (sym none) (subst (λ (z : Tokens). stmt_grammar.IsHandlers c (stmt_tree.except (stmt_tree.an_except None None b) stmt_tree.no_excepts) ts z) here (stmt_grammar.handles_all h p))
    by (plain h p r) further = stmt_grammar.handles h p r further
    by (with_name h p k l r) further = stmt_grammar.handles_named h p k l r further

abbrev FurtherAt : ℕ → Context → Bool → Excepts → Tokens → Tokens → Type 0
FurtherAt h c all xs ts us = Further c all xs ts us × (excepts_height xs ≤ h)

-- what may stand behind the handlers, and behind the first of them
abbrev BehindHandlers : ℕ → Context → Tokens → Tokens → Type 0
BehindHandlers h c = Then MaybeStmts (ElseAt h c) (Then MaybeStmts (FinallyAt h c) (End h c))

abbrev BehindHandler : ℕ → Context → Bool → Tokens → Tokens → Type 0
BehindHandler h c all = Then Excepts (FurtherAt h c all) (BehindHandlers h c)

last_tail : (h : ℕ) (c : Context) → Tail (Then MaybeStmts (FinallyAt h c) (End h c))
last_tail h c = finally_tail h c (statements_tail h c false)

handlers_tail : (h : ℕ) (c : Context) → Tail (BehindHandlers h c)
handlers_tail h c = else_tail h c (last_tail h c)

further_tail : (h : ℕ) (c : Context) (all : Bool) → Tail (BehindHandler h c all)
further_tail h c all = tail_then stmt_tree.no_excepts (λ ts. (further_none c all ts, omega arith)) (handlers_tail h c)

further_behind : {K : Tokens → Tokens → Type 0} (h : ℕ) (c : Context) (xs : Excepts) {ts us q : Tokens} (all : Bool) → FurtherAt h c all xs ts us → Opens K us q → Opens (Then Excepts (FurtherAt h c all) K) ts q
further_behind h c xs all (p, low) o = behind o (λ n b w. further_again c xs n all p w) (λ ts us vs p k. then (p, low) k)

try_made : {h : ℕ} {c : Context} {b : Stmts} {x : Except × Bool} {ts us vs ws : Tokens} → first ts ≡ kind.Try → stmt_grammar.IsSuite c b (skip ts) us → stmts_height b ≤ h → LowHandlerAt h c x us vs → BehindHandler h c x.1 vs ws
    → CompoundThen h c ts ws
try_made is body low (p, p_low) (then (further, further_low) (then (other, other_low) (then (last, last_low) end))) = compound_then (stmt_grammar.is_try is body (handlers_made p further) other last, omega arith) end

try_finally_made : {h : ℕ} {c : Context} {b : Stmts} {ts us vs : Tokens} → first ts ≡ kind.Try → stmt_grammar.IsSuite c b (skip ts) us → stmts_height b ≤ h → first us ≡ kind.Finally → SomeSuite h c false (skip us) vs → CompoundThen h c ts vs
try_finally_made {h} {c} {vs = vs} is body low comes (l, read) =
    let last_low = read.low in
    compound_then (stmt_grammar.is_try_finally is body (stmt_grammar.a_finally comes read.spelled), omega arith) ((statements_tail h c false).none vs)

module _ (h : ℕ) (c : Context) {b : Stmts} (ts : Tokens) {us : Tokens} (is : first ts ≡ kind.Try) (body : stmt_grammar.IsSuite c b (skip ts) us) (low : stmts_height b ≤ h) where
  -- within the first handler
  try_opens : {q : Tokens} → Opens (Any (LowHandlerAt h c)) us q → Opens (CompoundThen h c) ts q
  try_opens {q} o =
      let (f, w, body) = suite_again (Until q o.dedents) (until_step q o.dedents) body o.until in
      let (x, w, is, l) = word (Until q o.dedents) (until_step q o.dedents) ts is refl w in
      again_opens o (x ∷ f) w (λ tail. let (y, p) = o.spelled tail in try_made is (body (closing o.dedents tail)) low p ((further_tail h c y.1).none tail))

  -- behind the first handler
  try_behind : {x : Except × Bool} {vs q : Tokens} → LowHandlerAt h c x us vs → Opens (BehindHandler h c x.1) vs q → Opens (CompoundThen h c) ts q
  try_behind {q = q} (p, p_low) o =
      let (f, w, p) = handler_again o.dedents p o.until in
      let (f, w, body) = suite_again (Until q o.dedents) (until_step q o.dedents) body w in
      let (x, w, is, l) = word (Until q o.dedents) (until_step q o.dedents) ts is refl w in
      again_opens o (x ∷ f) w (λ tail. try_made is (body (closing o.dedents tail)) low (p (closing o.dedents tail), p_low) (o.spelled tail))

  -- within the last block, where no handler stands
  try_finally_opens : {q : Tokens} → first us ≡ kind.Finally → Opens (SomeSuite h c false) (skip us) q → Opens (CompoundThen h c) ts q
  try_finally_opens {q} comes o =
      let (y, w, comes, m) = word (Until q o.dedents) (until_step q o.dedents) us comes refl o.until in
      let (f, w, body) = suite_again (Until q o.dedents) (until_step q o.dedents) body w in
      let (x, w, is, l) = word (Until q o.dedents) (until_step q o.dedents) ts is refl w in
      again_opens o (x ∷ f) w (λ tail. try_finally_made is (body (closing o.dedents tail)) low comes (o.spelled tail))

module _ (rs : Readers) (inner : AreSound rs) (h : ℕ) (c : Context) (handling : Tokens → Found Stmts) (sound : BlockReads h (in_handler c) handling) (t : BlockTells h (in_handler c) false handling) where
  -- ---- handlers are read

  named_handler_read : (k l : TokenKind) (e : Expr) (ts us : Tokens) (y : (Except × Bool) × Tokens) → first ts ≡ kind.Except → grammar.IsExpr e (skip ts) us → expr_height e ≤ h → first us ≡ k → first (skip us) ≡ l
      → stmt_reading.named_handler k l handling e us ≡ Ok y → LowHandlerAt h c y.0 ts y.1
  named_handler_read kind.As (kind.Name n) e ts us y is q small comes name read =
      let (b, found, all) = bind_ok _ _ _ read in
      let (spelled, low) = suite_sound h (in_handler c) handling sound (skip (skip us)) b found in
      got_ok (LowHandlerAt h c) ts all (with_name is q comes name spelled, omega arith)
  named_handler_read kind.As _ e ts us y is q small comes name read = absurd cc
  named_handler_read _ l e ts us y is q small comes name read =
      let (b, found, all) = bind_ok _ _ _ read in
      let (spelled, low) = suite_sound h (in_handler c) handling sound us b found in
      got_ok (LowHandlerAt h c) ts all (plain is q spelled, omega arith)

  handler_by_read : (k : TokenKind) (ts : Tokens) (y : (Except × Bool) × Tokens) → first ts ≡ kind.Except → stmt_reading.handler_by k rs h handling (skip ts) ≡ Ok y → LowHandlerAt h c y.0 ts y.1
  handler_by_read kind.Colon ts y is e =
      let (b, found, all) = bind_ok _ _ _ e in
      let (spelled, low) = suite_sound h (in_handler c) handling sound (skip ts) b found in
      got_ok (LowHandlerAt h c) ts all (every is spelled, omega arith)
  handler_by_read _ ts y is e =
      let (v, found, more) = bind_ok _ _ _ e in
      let (read, small) = within_ok expr_height h _ v found in
      named_handler_read (first v.1) (first (skip v.1)) v.0 ts v.1 y is (expr_sound rs inner (skip ts) v read) small refl refl more

  handler_read : (ts : Tokens) (y : (Except × Bool) × Tokens) → first ts ≡ kind.Except → stmt_reading.handler rs h handling (skip ts) ≡ Ok y → LowHandlerAt h c y.0 ts y.1
  unfolding stmt_reading.handler
  handler_read ts y is e = handler_by_read (first (skip ts)) ts y is e

  -- ---- and their places are open

  every_made : {ts us : Tokens} → first ts ≡ kind.Except → SomeSuite h (in_handler c) false (skip ts) us → Any (LowHandlerAt h c) ts us
  every_made is (b, read) = let low = read.low in ((stmt_tree.an_except None None b, true), (every is read.spelled, omega arith))

  plain_made : {e : Expr} {ts us vs : Tokens} → first ts ≡ kind.Except → grammar.IsExpr e (skip ts) us → expr_height e ≤ h → SomeSuite h (in_handler c) false us vs → Any (LowHandlerAt h c) ts vs
  plain_made {e = e} is q small (b, read) = let low = read.low in ((stmt_tree.an_except (Some e) None b, false), (plain is q read.spelled, omega arith))

  with_name_made : {e : Expr} {n : Name} {ts us vs : Tokens} → first ts ≡ kind.Except → grammar.IsExpr e (skip ts) us → expr_height e ≤ h → first us ≡ kind.As → first (skip us) ≡ kind.Name n
      → SomeSuite h (in_handler c) false (skip (skip us)) vs → Any (LowHandlerAt h c) ts vs
  with_name_made {e = e} {n = n} {us = us} is q small comes name (b, read) =
      let low = read.low in
      ((stmt_tree.an_except (Some e) (Some (named n (skip us))) b, false), (with_name is q comes name read.spelled, omega arith))

  plain_opens : {e : Expr} {us q : Tokens} (ts : Tokens) → first ts ≡ kind.Except → grammar.IsExpr e (skip ts) us → expr_height e ≤ h → Opens (SomeSuite h (in_handler c) false) us q → Opens (Any (LowHandlerAt h c)) ts q
  plain_opens {q = q} ts is p small o =
      let (f, w, p) = expr_again (Until q o.dedents) (until_step q o.dedents) p o.until in
      let (x, w, is, l) = word (Until q o.dedents) (until_step q o.dedents) ts is refl w in
      again_opens o (x ∷ f) w (λ tail. plain_made is (p (closing o.dedents tail)) small (o.spelled tail))

  with_name_opens : {e : Expr} {n : Name} {us q : Tokens} (ts : Tokens) → first ts ≡ kind.Except → grammar.IsExpr e (skip ts) us → expr_height e ≤ h → first us ≡ kind.As → first (skip us) ≡ kind.Name n
      → Opens (SomeSuite h (in_handler c) false) (skip (skip us)) q → Opens (Any (LowHandlerAt h c)) ts q
  with_name_opens {us = us} {q = q} ts is p small comes name o =
      let (z, w, name, m) = word (Until q o.dedents) (until_step q o.dedents) (skip us) name refl o.until in
      let (y, w, comes, l) = word (Until q o.dedents) (until_step q o.dedents) us comes refl w in
      let (f, w, p) = expr_again (Until q o.dedents) (until_step q o.dedents) p w in
      let (x, w, is, l) = word (Until q o.dedents) (until_step q o.dedents) ts is refl w in
      again_opens o (x ∷ f) w (λ tail. with_name_made is (p (closing o.dedents tail)) small comes name (o.spelled tail))

  named_handler_tells : (k l : TokenKind) (e : Expr) (ts us : Tokens) → first ts ≡ kind.Except → grammar.IsExpr e (skip ts) us → expr_height e ≤ h → first us ≡ k → first (skip us) ≡ l
      → Tells (Opens (Any (LowHandlerAt h c)) ts) (stmt_reading.named_handler k l handling e us)
  named_handler_tells kind.As (kind.Name n) e ts us is q small comes name =
      bind_tells _ _ (map_tells (suite_tells h (in_handler c) false handling t (skip (skip us))) (λ place o. with_name_opens ts is q small comes name o)) (λ b found. reads)
  named_handler_tells kind.As _ e ts us is q small comes name = silent
  named_handler_tells _ l e ts us is q small comes name = bind_tells _ _ (map_tells (suite_tells h (in_handler c) false handling t us) (λ place o. plain_opens ts is q small o)) (λ b found. reads)

  handler_by_tells : (k : TokenKind) (ts : Tokens) → first ts ≡ kind.Except → Tells (Opens (Any (LowHandlerAt h c)) ts) (stmt_reading.handler_by k rs h handling (skip ts))
  handler_by_tells kind.Colon ts is = bind_tells _ _ (map_tells (suite_tells h (in_handler c) false handling t (skip ts)) (λ q o. behind_word ts is refl o (λ us vs is l x. every_made is x))) (λ b found. reads)
  handler_by_tells _ ts is =
      bind_tells _ _ (within_tells expr_height h (reading.expr rs (skip ts))) (λ v found.
      let (read, small) = within_ok expr_height h _ v found in
      named_handler_tells (first v.1) (first (skip v.1)) v.0 ts v.1 is (expr_sound rs inner (skip ts) v read) small refl refl)

  handler_tells : (ts : Tokens) → first ts ≡ kind.Except → Tells (Opens (Any (LowHandlerAt h c)) ts) (stmt_reading.handler rs h handling (skip ts))
  unfolding stmt_reading.handler
  handler_tells ts is = handler_by_tells (first (skip ts)) ts is

  -- further handlers: where one could begin a statement could begin too
  one_more_made : {all : Bool} {x : Except × Bool} {ts us vs : Tokens} → all ≡ false → LowHandlerAt h c x ts us → BehindHandler h c x.1 us vs → BehindHandler h c all ts vs
  one_more_made {x = x} {ts = ts} {vs = vs} none (p, p_low) (then {x = xs} {us = ws} (further, low) k) =
      subst (λ (z : Bool). BehindHandler h c z ts vs) (sym none) (then (handlers_made p further, omega arith) k)

  one_more_opens : {all : Bool} {ts q : Tokens} → all ≡ false → Opens (Any (LowHandlerAt h c)) ts q → Opens (BehindHandler h c all) ts q
  one_more_opens none o = record { dedents = o.dedents; front = o.front; until = o.until; spelled = λ tail. let (x, p) = o.spelled tail in one_more_made none p ((further_tail h c x.1).none tail) }

  one_more_behind : {all : Bool} {x : Except × Bool} {ts us q : Tokens} → all ≡ false → LowHandlerAt h c x ts us → Opens (BehindHandler h c x.1) us q → Opens (BehindHandler h c all) ts q
  one_more_behind none (p, low) o = behind o (λ n b w. handler_again n p w) (λ ts us vs p k. one_more_made none (p, low) k)

  first_of : (a b : Bool) → (not a && b) ≡ true → (a ≡ false) × (b ≡ true)
  first_of true b e = absurd cc
  first_of false b e = (refl, e)

  handlers_tells : (n : ℕ) (all : Bool) (ts : Tokens) → Tells (Opens (BehindHandler h c all) ts) (stmt_reading.handlers_by n rs h handling all ts)
  unfolding stmt_reading.handlers_by
  handlers_tells zero all ts = tells (tail_here (further_tail h c all) ts)
  handlers_tells (suc n) all ts =
      cond_tells (not all && stmt_reading.is_except (first ts)) _ _ (λ more.
      let (none, comes) = first_of all (stmt_reading.is_except (first ts)) more in
      let is = except_is (first ts) comes in
      bind_tells _ _ (from_tells ts _ (map_tells (handler_tells ts is) (λ q o. one_more_opens none o)) (tail_here (further_tail h c all) ts)) (λ x found.
      let front = handler_read ts x is (from_ok ts _ _ found) in
      bind_tells _ _ (map_tells (handlers_tells n x.0.1 x.1) (λ q o. one_more_behind none front o)) (λ xs found. reads)))
      (λ over. reads)

  -- ---- try

  module _ (block : Tokens → Found Stmts) (block_sound : BlockReads h c block) (u : BlockTells h c false block) where
    behind_try_tells : (k : TokenKind) (b : Stmts) (ts us : Tokens) → first ts ≡ kind.Try → stmt_grammar.IsSuite c b (skip ts) us → stmts_height b ≤ h → first us ≡ k → Tells (Opens (CompoundThen h c) ts) (stmt_reading.behind_try k rs h block handling b us)
    behind_try_tells kind.Except b ts us is body low comes =
        bind_tells _ _ (map_tells (handler_tells us comes) (λ q o. try_opens h c ts is body low o)) (λ x found.
        let front = handler_read us x comes found in
        bind_tells _ _ (map_tells (handlers_tells _ x.0.1 x.1) (λ q o. try_behind h c ts is body low front o)) (λ xs found.
        let further = handlers_sound rs inner h c block block_sound handling sound _ x.0.1 x.1 xs found in
        bind_tells _ _ (map_tells (else_tells h c block u _ (last_tail h c) xs.1) (λ q o. try_behind h c ts is body low front (further_behind h c xs.0 x.0.1 further o))) (λ o found.
        let other = else_sound h c block block_sound xs.1 o found in
        bind_tells _ _ (map_tells (finally_tells h c block u _ (statements_tail h c false) o.1) (λ q l. try_behind h c ts is body low front (further_behind h c xs.0 x.0.1 further (else_behind other l)))) (λ l found. reads))))
    behind_try_tells kind.Finally b ts us is body low comes = bind_tells _ _ (map_tells (suite_tells h c false block u (skip us)) (λ q o. try_finally_opens h c ts is body low comes o)) (λ l found. reads)
    behind_try_tells _ b ts us is body low comes = silent

    pub try_tells : (ts : Tokens) → first ts ≡ kind.Try → Tells (Opens (CompoundThen h c) ts) (stmt_reading.try_statement rs h block handling (skip ts))
    unfolding stmt_reading.try_statement
    try_tells ts is =
        bind_tells _ _ (hidden_tells (stmt_reading.suite block (skip ts))) (λ b found.
        let (body, low) = suite_sound h c block block_sound (skip ts) b (hidden_ok _ _ found) in
        behind_try_tells (first b.1) b.0 ts b.1 is body low refl)
