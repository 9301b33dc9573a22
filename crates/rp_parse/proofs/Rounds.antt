-- What each loop over statements keeps: all that is read from its start is what it has found, and then what is read from the rest.
use Rattle.std.proofs.Common.{◌≡◌, ℕ, zero, suc, ◌-◌, Bool, true, false, not, ◌&&◌, List, [], ◌∷◌, ◌++◌, map, Some, None, Ok, Err, refl, sym, ap, ◌∙◌, arith}
use Rattle.std.proofs.lemmas.List.{map_push}
use Rattle.rp_tree.specs.declared.stmt.Branch.{Branch}
use Rattle.rp_tree.specs.declared.stmt.Except as program
use Rattle.rp_tree.specs.Expressions.{Expr}
use Rattle.rp_tree.specs.Statements as stmt_tree
use Rattle.rp_tree.specs.Statements.{Stmt, Stmts, Branches, Except, Excepts}
use Rattle.rp_tree.specs.StatementViews as stmt_views
use Rattle.rp_grammar.specs.Kinds.{Tokens, first, skip}
use Rattle.rp_grammar.proofs.Loops.{front, front_more}
use Rattle.rp_grammar.specs.Statements.{Context, joined, one}
use Rattle.rp_grammar.specs.StatementReading as stmt_reading
use Rattle.rp_grammar.specs.StatementReading.{Found, Blocks, ◌>>>◌, from}
use Rattle.rp_parse.specs.Gives.{Fails, ahead, deep, told, placed, with_branch}
use Rattle.rp_parse.specs.declared.fault.Stop.{Stop}
use Rattle.rp_parse.proofs.Turns.{joined_none, joined_joined}
use Rattle.rp_parse.proofs.Stops.{bind_fails, whole_fails, ahead_fails, from_fails, ahead_ok}

-- what was read
abbrev pub answered : {A : Type 0} → A → Tokens → Found A
answered x ts = Ok (x, ts)

-- ---- the statements of a line

one_more : (xs : Stmts) (x : Stmt) (o : Found Stmts) → ahead (joined xs) (o >>> λ ys. Ok (stmt_tree.stmt x ys.0, ys.1)) ≡ ahead (joined (joined xs (one x))) o
one_more xs x (Err q) = refl
one_more xs x (Ok ys) = ap (λ (l : Stmts). answered l ys.1) (sym (joined_joined xs (one x) ys.0))

pub line_ends : (whole : Found Stmts) (n h : ℕ) (c : Context) (m : Bool) (xs new : Stmts) (x : Stmt) (ts us : Tokens) → whole ≡ ahead (joined xs) (stmt_reading.line_by n deep h c m ts) → (n ≡ 0 → ⊥)
    → stmt_reading.item_at deep h c m ts ≡ Ok ((x, false), us) → new ≡ joined xs (one x) → whole ≡ Ok (new, us)
unfolding stmt_reading.line_by
line_ends whole zero h c m xs new x ts us so_far more is made = absurd (more refl)
line_ends whole (suc n) h c m xs new x ts us so_far more is made = so_far ∙ rw (is, made) refl

pub line_keeps : (whole : Found Stmts) (n h : ℕ) (c : Context) (m : Bool) (xs new : Stmts) (x : Stmt) (ts us : Tokens) → whole ≡ ahead (joined xs) (stmt_reading.line_by n deep h c m ts) → (n ≡ 0 → ⊥)
    → stmt_reading.item_at deep h c m ts ≡ Ok ((x, true), us) → new ≡ joined xs (one x) → whole ≡ ahead (joined new) (stmt_reading.line_by (n - 1) deep h c m us)
unfolding stmt_reading.line_by
line_keeps whole zero h c m xs new x ts us so_far more is made = absurd (more refl)
line_keeps whole (suc n) h c m xs new x ts us so_far more is made =
    let less : suc n - 1 ≡ n = omega arith in
    so_far ∙ rw (is, made, less) (one_more xs x (stmt_reading.line_by n deep h c m us))

pub line_fails : (e e' : Stop) (whole : Found Stmts) (n h : ℕ) (c : Context) (m : Bool) (xs : Stmts) (ts : Tokens) → whole ≡ ahead (joined xs) (stmt_reading.line_by n deep h c m ts) → (n ≡ 0 → ⊥)
    → told e' ≡ placed ts (told e) → Fails e (stmt_reading.item_at deep h c m ts) → Fails e' whole
unfolding stmt_reading.line_by
line_fails e e' whole zero h c m xs ts so_far more at bad = absurd (more refl)
line_fails e e' whole (suc n) h c m xs ts so_far more at bad =
    whole_fails e' whole _ so_far (bind_fails e' _ _ (bind_fails e' _ _ (from_fails e e' ts (stmt_reading.item_at deep h c m ts) at bad)))

pub line_over : (whole : Found Stmts) (n h : ℕ) (c : Context) (m : Bool) (xs : Stmts) (ts : Tokens) → whole ≡ ahead (joined xs) (stmt_reading.line_by n deep h c m ts) → n ≡ 0 → whole ≡ Err (Some ts)
unfolding stmt_reading.line_by
line_over whole zero h c m xs ts so_far over = so_far
line_over whole (suc n) h c m xs ts so_far over = absurd (omega arith)

-- ---- the statements of a block

some_more : (xs ys : Stmts) (o : Found Stmts) → ahead (joined xs) (o >>> λ zs. Ok (joined ys zs.0, zs.1)) ≡ ahead (joined (joined xs ys)) o
some_more xs ys (Err q) = refl
some_more xs ys (Ok zs) = ap (λ (l : Stmts). answered l zs.1) (sym (joined_joined xs ys zs.0))

pub block_ends : (whole : Found Stmts) (n h : ℕ) (c : Context) (m : Bool) (b : Blocks) (xs : Stmts) (ts : Tokens) → whole ≡ ahead (joined xs) (stmt_reading.statements_by n deep h c m b ts) → (n ≡ 0 → ⊥)
    → stmt_reading.ends (first ts) ≡ true → whole ≡ Ok (xs, ts)
unfolding stmt_reading.statements_by
block_ends whole zero h c m b xs ts so_far more over = absurd (more refl)
block_ends whole (suc n) h c m b xs ts so_far more over = so_far ∙ rw (over, joined_none xs) refl

block_step : (n h : ℕ) (c : Context) (m : Bool) (b : Blocks) (xs ys : Stmts) (ts us : Tokens) → stmt_reading.ends (first ts) ≡ false → stmt_reading.statement_at deep h c m b ts ≡ Ok (ys, us)
    → ahead (joined xs) (stmt_reading.statements_by (suc n) deep h c m b ts) ≡ ahead (joined (joined xs ys)) (stmt_reading.statements_by n deep h c m b us)
unfolding stmt_reading.statements_by
block_step n h c m b xs ys ts us goes_on is = rw (goes_on, is) (some_more xs ys (stmt_reading.statements_by n deep h c m b us))

pub block_keeps : (whole : Found Stmts) (n h : ℕ) (c : Context) (m : Bool) (b : Blocks) (xs new : Stmts) (ts us : Tokens) → whole ≡ ahead (joined xs) (stmt_reading.statements_by n deep h c m b ts) → (n ≡ 0 → ⊥)
    → stmt_reading.ends (first ts) ≡ false → ahead (joined xs) (stmt_reading.statement_at deep h c m b ts) ≡ Ok (new, us) → whole ≡ ahead (joined new) (stmt_reading.statements_by (n - 1) deep h c m b us)
block_keeps whole zero h c m b xs new ts us so_far more goes_on is = absurd (more refl)
block_keeps whole (suc n) h c m b xs new ts us so_far more goes_on is =
    let (ys, read, made, rest) = ahead_ok (joined xs) (stmt_reading.statement_at deep h c m b ts) (new, us) is in
    let less : suc n - 1 ≡ n = omega arith in
    rw less
    (so_far ∙ block_step n h c m b xs ys.0 ts ys.1 goes_on read
    ∙ ap (λ (l : Stmts). ahead (joined l) (stmt_reading.statements_by n deep h c m b ys.1)) made ∙ ap (λ (vs : Tokens). ahead (joined new) (stmt_reading.statements_by n deep h c m b vs)) rest)

pub block_fails : (e e' : Stop) (whole : Found Stmts) (n h : ℕ) (c : Context) (m : Bool) (b : Blocks) (xs : Stmts) (ts : Tokens) → whole ≡ ahead (joined xs) (stmt_reading.statements_by n deep h c m b ts) → (n ≡ 0 → ⊥)
    → stmt_reading.ends (first ts) ≡ false → told e' ≡ placed ts (told e) → Fails e (ahead (joined xs) (stmt_reading.statement_at deep h c m b ts)) → Fails e' whole
unfolding stmt_reading.statements_by
block_fails e e' whole zero h c m b xs ts so_far more goes_on at bad = absurd (more refl)
block_fails e e' whole (suc n) h c m b xs ts so_far more goes_on at bad =
    let inside = bind_fails e' _ (λ ys. stmt_reading.statements_by n deep h c m b ys.1 >>> λ zs. Ok (joined ys.0 zs.0, zs.1)) (from_fails e e' ts (stmt_reading.statement_at deep h c m b ts) at (ahead_fails e (joined xs) _ bad)) in
    let turn : Fails e' (stmt_reading.statements_by (suc n) deep h c m b ts) = rw goes_on inside in
    whole_fails e' whole _ so_far (bind_fails e' _ _ turn)

pub block_over : (whole : Found Stmts) (n h : ℕ) (c : Context) (m : Bool) (b : Blocks) (xs : Stmts) (ts : Tokens) → whole ≡ ahead (joined xs) (stmt_reading.statements_by n deep h c m b ts) → n ≡ 0 → whole ≡ Err (Some ts)
unfolding stmt_reading.statements_by
block_over whole zero h c m b xs ts so_far over = so_far
block_over whole (suc n) h c m b xs ts so_far over = absurd (omega arith)

-- ---- further branches of `if`

pub front_branches : (bs : List (Expr × Stmts)) → front with_branch bs stmt_tree.no_branches ≡ stmt_views.branches_of bs
front_branches [] = refl
front_branches (b ∷ bs) = ap (stmt_tree.branch b.0 b.1) (front_branches bs)

branch_more : (bs : List (Expr × Stmts)) (b : Expr × Stmts) (o : Found Branches) → ahead (front with_branch bs) (o >>> λ cs. Ok (stmt_tree.branch b.0 b.1 cs.0, cs.1)) ≡ ahead (front with_branch (bs ++ b ∷ [])) o
branch_more bs b (Err q) = refl
branch_more bs b (Ok cs) = ap (λ (l : Branches). answered l cs.1) (sym (front_more with_branch bs b cs.0))

pub elifs_begin : (first : Branch) (items new : List Branch) (o : Found Branches) → new ≡ items ++ first ∷ [] → items ≡ [] → ahead (with_branch (stmt_views.view_branch first)) o ≡ ahead (front with_branch (map stmt_views.view_branch new)) o
elifs_begin b items new o made none = ap (λ (l : List Branch). ahead (front with_branch (map stmt_views.view_branch l)) o) (sym (made ∙ ap (λ (l : List Branch). l ++ b ∷ []) none))

pub elifs_end : (whole : Found Branches) (n h : ℕ) (block : Tokens → Found Stmts) (bs : List (Expr × Stmts)) (ts : Tokens) → whole ≡ ahead (front with_branch bs) (stmt_reading.elifs_by n deep h block ts) → (n ≡ 0 → ⊥)
    → stmt_reading.is_elif (first ts) ≡ false → whole ≡ Ok (stmt_views.branches_of bs, ts)
unfolding stmt_reading.elifs_by
elifs_end whole zero h block bs ts so_far more over = absurd (more refl)
elifs_end whole (suc n) h block bs ts so_far more over = so_far ∙ rw (over, front_branches bs) refl

pub elifs_keep : (whole : Found Branches) (n h : ℕ) (block : Tokens → Found Stmts) (items new : List Branch) (b : Branch) (ts us : Tokens) → whole ≡ ahead (front with_branch (map stmt_views.view_branch items)) (stmt_reading.elifs_by n deep h block ts) → (n ≡ 0 → ⊥)
    → stmt_reading.is_elif (first ts) ≡ true → stmt_reading.tested deep h block (skip ts) ≡ Ok (stmt_views.view_branch b, us) → new ≡ items ++ b ∷ []
    → whole ≡ ahead (front with_branch (map stmt_views.view_branch new)) (stmt_reading.elifs_by (n - 1) deep h block us)
unfolding stmt_reading.elifs_by
elifs_keep whole zero h block items new b ts us so_far more comes is made = absurd (more refl)
elifs_keep whole (suc n) h block items new b ts us so_far more comes is made =
    let less : suc n - 1 ≡ n = omega arith in
    so_far ∙ rw (comes, is, less, made, map_push stmt_views.view_branch items b) (branch_more (map stmt_views.view_branch items) (stmt_views.view_branch b) (stmt_reading.elifs_by n deep h block us))

pub elifs_fail : (e e' : Stop) (whole : Found Branches) (n h : ℕ) (block : Tokens → Found Stmts) (bs : List (Expr × Stmts)) (ts : Tokens) → whole ≡ ahead (front with_branch bs) (stmt_reading.elifs_by n deep h block ts) → (n ≡ 0 → ⊥)
    → stmt_reading.is_elif (first ts) ≡ true → told e' ≡ placed ts (told e) → Fails e (stmt_reading.tested deep h block (skip ts)) → Fails e' whole
unfolding stmt_reading.elifs_by
elifs_fail e e' whole zero h block bs ts so_far more comes at bad = absurd (more refl)
elifs_fail e e' whole (suc n) h block bs ts so_far more comes at bad =
    let inside = bind_fails e' _ (λ x. stmt_reading.elifs_by n deep h block x.1 >>> λ cs. Ok (stmt_tree.branch x.0.0 x.0.1 cs.0, cs.1)) (from_fails e e' ts (stmt_reading.tested deep h block (skip ts)) at bad) in
    let turn : Fails e' (stmt_reading.elifs_by (suc n) deep h block ts) = rw comes inside in
    whole_fails e' whole _ so_far (bind_fails e' _ _ turn)

pub elifs_over : (whole : Found Branches) (n h : ℕ) (block : Tokens → Found Stmts) (bs : List (Expr × Stmts)) (ts : Tokens) → whole ≡ ahead (front with_branch bs) (stmt_reading.elifs_by n deep h block ts) → n ≡ 0 → whole ≡ Err (Some ts)
unfolding stmt_reading.elifs_by
elifs_over whole zero h block bs ts so_far over = so_far
elifs_over whole (suc n) h block bs ts so_far over = absurd (omega arith)

-- ---- further handlers of `try`

pub front_excepts : (xs : List Except) → front stmt_tree.except xs stmt_tree.no_excepts ≡ stmt_views.excepts_of xs
front_excepts [] = refl
front_excepts (x ∷ xs) = ap (stmt_tree.except x) (front_excepts xs)

except_more : (xs : List Except) (x : Except) (o : Found Excepts) → ahead (front stmt_tree.except xs) (o >>> λ ys. Ok (stmt_tree.except x ys.0, ys.1)) ≡ ahead (front stmt_tree.except (xs ++ x ∷ [])) o
except_more xs x (Err q) = refl
except_more xs x (Ok ys) = ap (λ (l : Excepts). answered l ys.1) (sym (front_more stmt_tree.except xs x ys.0))

pub handlers_begin : (first : program.Except) (items new : List program.Except) (o : Found Excepts) → new ≡ items ++ first ∷ [] → items ≡ [] → ahead (stmt_tree.except (stmt_views.view_except first)) o ≡ ahead (front stmt_tree.except (map stmt_views.view_except new)) o
handlers_begin x items new o made none = ap (λ (l : List program.Except). ahead (front stmt_tree.except (map stmt_views.view_except l)) o) (sym (made ∙ ap (λ (l : List program.Except). l ++ x ∷ []) none))

-- whether a further handler comes
pub all_handled : (all b : Bool) → all ≡ true → not all && b ≡ false
all_handled all b e = rw e refl

pub none_comes : (all b : Bool) → b ≡ false → not all && b ≡ false
none_comes true b e = refl
none_comes false b e = e

pub one_comes : (all b : Bool) → all ≡ false → b ≡ true → not all && b ≡ true
one_comes all b e h = rw (e, h) refl

pub handlers_end : (whole : Found Excepts) (n h : ℕ) (block : Tokens → Found Stmts) (all : Bool) (xs : List Except) (ts : Tokens) → whole ≡ ahead (front stmt_tree.except xs) (stmt_reading.handlers_by n deep h block all ts) → (n ≡ 0 → ⊥)
    → not all && stmt_reading.is_except (first ts) ≡ false → whole ≡ Ok (stmt_views.excepts_of xs, ts)
unfolding stmt_reading.handlers_by
handlers_end whole zero h block all xs ts so_far more over = absurd (more refl)
handlers_end whole (suc n) h block all xs ts so_far more over = so_far ∙ rw (over, front_excepts xs) refl

pub handlers_keep : (whole : Found Excepts) (n h : ℕ) (block : Tokens → Found Stmts) (all last : Bool) (items new : List program.Except) (x : program.Except) (ts us : Tokens)
    → whole ≡ ahead (front stmt_tree.except (map stmt_views.view_except items)) (stmt_reading.handlers_by n deep h block all ts) → (n ≡ 0 → ⊥)
    → not all && stmt_reading.is_except (first ts) ≡ true → stmt_reading.handler deep h block (skip ts) ≡ Ok ((stmt_views.view_except x, last), us) → new ≡ items ++ x ∷ []
    → whole ≡ ahead (front stmt_tree.except (map stmt_views.view_except new)) (stmt_reading.handlers_by (n - 1) deep h block last us)
unfolding stmt_reading.handlers_by
handlers_keep whole zero h block all last items new x ts us so_far more comes is made = absurd (more refl)
handlers_keep whole (suc n) h block all last items new x ts us so_far more comes is made =
    let less : suc n - 1 ≡ n = omega arith in
    so_far ∙ rw (comes, is, less, made, map_push stmt_views.view_except items x) (except_more (map stmt_views.view_except items) (stmt_views.view_except x) (stmt_reading.handlers_by n deep h block last us))

pub handlers_fail : (e e' : Stop) (whole : Found Excepts) (n h : ℕ) (block : Tokens → Found Stmts) (all : Bool) (xs : List Except) (ts : Tokens) → whole ≡ ahead (front stmt_tree.except xs) (stmt_reading.handlers_by n deep h block all ts) → (n ≡ 0 → ⊥)
    → not all && stmt_reading.is_except (first ts) ≡ true → told e' ≡ placed ts (told e) → Fails e (stmt_reading.handler deep h block (skip ts)) → Fails e' whole
unfolding stmt_reading.handlers_by
handlers_fail e e' whole zero h block all xs ts so_far more comes at bad = absurd (more refl)
handlers_fail e e' whole (suc n) h block all xs ts so_far more comes at bad =
    let inside = bind_fails e' _ (λ x. stmt_reading.handlers_by n deep h block x.0.1 x.1 >>> λ ys. Ok (stmt_tree.except x.0.0 ys.0, ys.1)) (from_fails e e' ts (stmt_reading.handler deep h block (skip ts)) at bad) in
    let turn : Fails e' (stmt_reading.handlers_by (suc n) deep h block all ts) = rw comes inside in
    whole_fails e' whole _ so_far (bind_fails e' _ _ turn)

pub handlers_over : (whole : Found Excepts) (n h : ℕ) (block : Tokens → Found Stmts) (all : Bool) (xs : List Except) (ts : Tokens) → whole ≡ ahead (front stmt_tree.except xs) (stmt_reading.handlers_by n deep h block all ts) → n ≡ 0 → whole ≡ Err (Some ts)
unfolding stmt_reading.handlers_by
handlers_over whole zero h block all xs ts so_far over = so_far
handlers_over whole (suc n) h block all xs ts so_far over = absurd (omega arith)

-- ---- a block, by the reader of what stands in it

pub block_none : (h : ℕ) (c : Context) (m : Bool) (ts : Tokens) → h ≡ 0 → stmt_reading.block_at deep h c m ts ≡ Err None
unfolding stmt_reading.block_at
block_none zero c m ts e = refl
block_none (suc h) c m ts e = absurd (omega arith)

abbrev inside : ℕ → Context → Bool → Tokens → Found Stmts
inside h c m ts = stmt_reading.block_by (first ts) deep h c m (stmt_reading.block_at deep h) ts

block_some : (h k : ℕ) (c d : Context) (m n : Bool) (ts : Tokens) → (h ≡ 0 → ⊥) → k ≡ h - 1 → d ≡ c → n ≡ m → stmt_reading.block_at deep h c m ts ≡ from ts (inside k d n ts)
unfolding stmt_reading.block_at
block_some zero k c d m n ts more below same alike = absurd (more refl)
block_some (suc h) k c d m n ts more below same alike =
    let less : k ≡ h = omega (arith, below) in
    rw (less, same, alike) refl

pub block_read : (h k : ℕ) (c d : Context) (m n : Bool) (ts : Tokens) (x : Stmts × Tokens) → (h ≡ 0 → ⊥) → k ≡ h - 1 → d ≡ c → n ≡ m → inside k d n ts ≡ Ok x → stmt_reading.block_at deep h c m ts ≡ Ok x
block_read h k c d m n ts x more below same alike is = block_some h k c d m n ts more below same alike ∙ ap (from ts) is

pub block_unread : (e e' : Stop) (h k : ℕ) (c d : Context) (m n : Bool) (ts : Tokens) → (h ≡ 0 → ⊥) → k ≡ h - 1 → d ≡ c → n ≡ m → told e' ≡ placed ts (told e) → Fails e (inside k d n ts) → Fails e' (stmt_reading.block_at deep h c m ts)
block_unread e e' h k c d m n ts more below same alike at bad = whole_fails e' _ _ (block_some h k c d m n ts more below same alike) (from_fails e e' ts (inside k d n ts) at bad)
