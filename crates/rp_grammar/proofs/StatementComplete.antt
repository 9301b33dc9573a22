-- What is spelled as statements is read, where it is not too high and its tokens do not stand in too many brackets.
use Rattle.std.proofs.Common.{◌≡◌, ℕ, zero, suc, ◌+◌, ◌<◌, ◌≤◌, ◌==◌, Bool, true, false, not, ◌&&◌, length, Option, Some, None, Ok, Err, refl, sym, ap, ◌∙◌, arith}
use Rattle.std.proofs.lemmas.Bool.{and_parts, le-leb}
use Rattle.rp_base.specs.declared.value.Line.{Line}
use Rattle.rp_base.specs.declared.value.Name.{Name}
use Rattle.rp_token.specs.declared.token.TokenKind.{TokenKind}
use Rattle.rp_token.specs.declared.token.TokenKind.TheVariants as kind
use Rattle.rp_tree.specs.Expressions as tree
use Rattle.rp_tree.specs.Expressions.{Expr, Params, Target}
use Rattle.rp_tree.specs.Heights.{expr_height, target_height, params_height, stmt_height, stmt_form_height, stmts_height, maybe_stmts_height, branches_height, excepts_height}
use Rattle.rp_tree.specs.Statements as stmt_tree
use Rattle.rp_tree.specs.Statements.{Stmt, StmtForm, Stmts, MaybeStmts, Branches, Except, Excepts}
use Rattle.rp_grammar.specs.Brackets.{IsShallow}
use Rattle.rp_grammar.specs.Kinds.{Tokens, first, line_at, skip}
use Rattle.rp_grammar.specs.Expressions as grammar
use Rattle.rp_grammar.specs.Expressions.{named, distinct, parameter_names, any}
use Rattle.rp_grammar.specs.Front.{is_colon}
use Rattle.rp_grammar.specs.ExpressionReading as reading
use Rattle.rp_grammar.specs.ExpressionReading.{Read, Readers}
use Rattle.rp_grammar.proofs.Follow.{at, expr_begins}
use Rattle.rp_grammar.proofs.ExpressionTakes.{skip_within, expr_takes}
use Rattle.rp_grammar.proofs.ExpressionComplete.{AreComplete, name_is, readers_complete}
use Rattle.rp_grammar.proofs.Depth.{target_stays, params_stays}
use Rattle.rp_grammar.specs.Statements as stmt_grammar
use Rattle.rp_grammar.specs.Statements.{Context, in_loop, in_handler, in_class, in_function, is_member, are_members, joined, one}
use Rattle.rp_grammar.specs.StatementReading as stmt_reading
use Rattle.rp_grammar.specs.StatementReading.{Found, ◌>>>◌, Blocks, from, within, ends}
use Rattle.rp_grammar.proofs.Begins.{Rests, newline_closes, semicolon_closes, Closes, line_begins, statement_begins, begun_no_newline, begun_rests, statements_rest, line_by_kind, block_by_kind}
use Rattle.rp_grammar.specs.Program.{Spells}
use Rattle.rp_grammar.proofs.Founds.{ok_is}
use Rattle.rp_grammar.proofs.Low.{always_shallow, down, expr_low, exprs_low, simple_low, bases_low, statement_low, suite_low, elifs_low, else_low, handlers_low}
use Rattle.rp_grammar.proofs.StatementSound.{IsProgram, joined_height}
use Rattle.rp_grammar.proofs.SimpleComplete.{expr_read, exprs_read, target_read, params_read, simple_complete}
use Rattle.rp_grammar.proofs.StatementTakes.{simple_takes, statement_takes, suite_takes}

-- ---- tools

within_is : {A : Type 0} (height : A → ℕ) (h : ℕ) (o : Read A) (x : A × Tokens) → o ≡ Some x → height x.0 ≤ h → within height h o ≡ Ok x
within_is height h o x is low = rw (is, le-leb (height x.0) h low) refl

no_stranger : (members member : Bool) → (members ≡ true → member ≡ true) → (members && not member) ≡ false
no_stranger true true h = refl
no_stranger true false h = absurd (let e = h refl in cc)
no_stranger false member h = refl

-- where no member is spelled, none is wanted
none_wanted : (members : Bool) → (members ≡ true → false ≡ true) → members ≡ false
none_wanted true h = absurd (let e = h refl in cc)
none_wanted false h = refl

pub split_members : (xs ys : Stmts) → are_members (joined xs ys) ≡ true → (are_members xs ≡ true) × (are_members ys ≡ true)
split_members stmt_tree.no_stmts ys h = (refl, h)
split_members (stmt_tree.stmt x xs) ys h =
    let (head, tail) = and_parts (is_member x) (are_members (joined xs ys)) h in
    let (left, right) = split_members xs ys tail in
    (rw (head, left) refl, right)

-- a reader of blocks reads the blocks that are spelled, not higher than h
abbrev pub BlocksComplete : ℕ → ℕ → Blocks → Type 0
BlocksComplete most h block = (c : Context) (members : Bool) (xs : Stmts) (ts us : Tokens) → stmt_grammar.IsBlock c xs ts us → stmts_height xs ≤ h → (members ≡ true → are_members xs ≡ true) → IsShallow most 0 ts → block c members ts ≡ Ok (xs, us)

abbrev pub BlockComplete : ℕ → ℕ → Context → (Tokens → Found Stmts) → Type 0
BlockComplete most h c block = (xs : Stmts) (ts us : Tokens) → stmt_grammar.IsBlock c xs ts us → stmts_height xs ≤ h → IsShallow most 0 ts → block ts ≡ Ok (xs, us)

pub in_one : (most h : ℕ) (block : Blocks) → BlocksComplete most h block → (c : Context) → BlockComplete most h c (block c false)
in_one most h block complete c xs ts us b low w = complete c false xs ts us b low (λ m. absurd cc) w

-- ---- lines

module _ (most d : ℕ) (rs : Readers) (inner : AreComplete d rs) (h : ℕ) (enough : most + suc h ≤ d) where
  simple_at_complete : {c : Context} {x : Stmt} {ts us : Tokens} (members : Bool) → stmt_grammar.IsSimple c x ts us → Closes (first us) → stmt_height x ≤ suc h → (members ≡ true → is_member x ≡ true) → IsShallow most 0 ts → stmt_reading.simple_at rs h c members ts ≡ Ok (x, us)
  unfolding stmt_reading.simple_at
  simple_at_complete {c} {x} {ts} {us} members q over low member w =
      rw (within_is stmt_height (suc h) (stmt_reading.simple rs c ts) (x, us) (simple_complete most d rs inner h enough q over low w) low, no_stranger members (is_member x) member) refl

  pub line_complete : {c : Context} {xs : Stmts} {ts us : Tokens} (members : Bool) → stmt_grammar.IsLine c xs ts us → stmts_height xs ≤ suc h → (members ≡ true → are_members xs ≡ true) → IsShallow most 0 ts → (n : ℕ) → length ts < n → stmt_reading.line_by n rs h c members ts ≡ Ok (xs, us)
  unfolding stmt_reading.line_by stmt_reading.item_at
  line_complete members l low member w zero lt = absurd (omega arith)
  line_complete members (stmt_grammar.line_end {x = x} {us = us} q newline) low member w (suc n) lt =
      rw (simple_at_complete members q (newline_closes us newline) (omega arith) (λ m. (and_parts (is_member x) true (member m)).0) w, newline) refl
  line_complete members (stmt_grammar.line_semicolon {x = x} {us = us} q semicolon newline) low member w (suc n) lt =
      rw (simple_at_complete members q (semicolon_closes us semicolon) (omega arith) (λ m. (and_parts (is_member x) true (member m)).0) w, semicolon, newline) refl
  line_complete members (stmt_grammar.line_more {x = x} {xs = xs} {us = us} q semicolon l) low member w (suc n) lt =
      let more = line_complete members l (omega arith) (λ m. (and_parts (is_member x) (are_members xs) (member m)).1) (down most us (simple_low most q w)) n (omega (arith, simple_takes q, skip_within us)) in
      rw (simple_at_complete members q (semicolon_closes us semicolon) (omega arith) (λ m. (and_parts (is_member x) (are_members xs) (member m)).0) w, semicolon, begun_no_newline (first (skip us)) (line_begins l), more) refl

-- ---- what stands behind the parts of a compound statement

else_no_elif : {c : Context} {o : MaybeStmts} {ts us : Tokens} → stmt_grammar.IsElse c o ts us → stmt_reading.is_elif (first us) ≡ false → stmt_reading.is_elif (first ts) ≡ false
else_no_elif stmt_grammar.no_else h = h
else_no_elif (stmt_grammar.an_else is b) h = ap stmt_reading.is_elif is

else_no_except : {c : Context} {o : MaybeStmts} {ts us : Tokens} → stmt_grammar.IsElse c o ts us → stmt_reading.is_except (first us) ≡ false → stmt_reading.is_except (first ts) ≡ false
else_no_except stmt_grammar.no_else h = h
else_no_except (stmt_grammar.an_else is b) h = ap stmt_reading.is_except is

finally_no_except : {c : Context} {o : MaybeStmts} {ts us : Tokens} → stmt_grammar.IsFinally c o ts us → stmt_reading.is_except (first us) ≡ false → stmt_reading.is_except (first ts) ≡ false
finally_no_except stmt_grammar.no_finally h = h
finally_no_except (stmt_grammar.a_finally is b) h = ap stmt_reading.is_except is

finally_no_else : {c : Context} {o : MaybeStmts} {ts us : Tokens} → stmt_grammar.IsFinally c o ts us → stmt_reading.is_else (first us) ≡ false → stmt_reading.is_else (first ts) ≡ false
finally_no_else stmt_grammar.no_finally h = h
finally_no_else (stmt_grammar.a_finally is b) h = ap stmt_reading.is_else is

handler_by_kind : (k : TokenKind) (rs : Readers) (h : ℕ) (block : Tokens → Found Stmts) (ts : Tokens) → is_colon k ≡ false
    → stmt_reading.handler_by k rs h block ts ≡ (within expr_height h (reading.expr rs ts) >>> λ e. stmt_reading.named_handler (first e.1) (first (skip e.1)) block e.0 e.1)
handler_by_kind kind.Colon rs h block ts e = absurd cc
handler_by_kind _ rs h block ts e = refl

bases_complete : {ts us : Tokens} → stmt_grammar.IsEmptyBases ts us → first us ≡ kind.Colon → stmt_reading.bases ts ≡ Ok (tt, us)
unfolding stmt_reading.bases
bases_complete stmt_grammar.no_bases colon = rw colon refl
bases_complete (stmt_grammar.empty_bases opens closes) colon = rw (opens, closes) refl

-- ---- blocks that may be missing

module _ (most h : ℕ) (c : Context) (block : Tokens → Found Stmts) (complete : (xs : Stmts) (ts us : Tokens) → stmt_grammar.IsBlock c xs ts us → stmts_height xs ≤ h → IsShallow most 0 ts → block ts ≡ Ok (xs, us)) where
  pub suite_complete : {xs : Stmts} {ts us : Tokens} → stmt_grammar.IsSuite c xs ts us → stmts_height xs ≤ h → IsShallow most 0 ts → stmt_reading.suite block ts ≡ Ok (xs, us)
  suite_complete {xs} {ts} {us} (stmt_grammar.suite colon b) low w = rw (colon, complete xs (skip ts) us b low (down most ts w)) refl

  pub else_complete : {o : MaybeStmts} {ts us : Tokens} → stmt_grammar.IsElse c o ts us → stmt_reading.is_else (first us) ≡ false → maybe_stmts_height o ≤ h → IsShallow most 0 ts → stmt_reading.maybe_suite stmt_reading.is_else block ts ≡ Ok (o, us)
  unfolding stmt_reading.maybe_suite
  else_complete stmt_grammar.no_else over low w = rw over refl
  else_complete {ts = ts} (stmt_grammar.an_else is b) over low w = rw (is, suite_complete b low (down most ts w)) refl

  pub finally_complete : {o : MaybeStmts} {ts us : Tokens} → stmt_grammar.IsFinally c o ts us → stmt_reading.is_finally (first us) ≡ false → maybe_stmts_height o ≤ h → IsShallow most 0 ts → stmt_reading.maybe_suite stmt_reading.is_finally block ts ≡ Ok (o, us)
  unfolding stmt_reading.maybe_suite
  finally_complete stmt_grammar.no_finally over low w = rw over refl
  finally_complete {ts = ts} (stmt_grammar.a_finally is b) over low w = rw (is, suite_complete b low (down most ts w)) refl

-- ---- compound statements

colon_binds : {c : Context} {xs : Stmts} {ts us : Tokens} → stmt_grammar.IsSuite c xs ts us → first ts ≡ kind.Colon
colon_binds (stmt_grammar.suite colon b) = colon

module _ (most d : ℕ) (rs : Readers) (inner : AreComplete d rs) (h : ℕ) (enough : most + suc h ≤ d) where
  expr_within : {e : Expr} {ts us : Tokens} → grammar.IsExpr e ts us → first us ≡ kind.Colon → expr_height e ≤ h → IsShallow most 0 ts → within expr_height h (reading.expr rs ts) ≡ Ok (e, us)
  expr_within {e} {ts} {us} q colon low w = within_is expr_height h (reading.expr rs ts) (e, us) (expr_read most d rs inner h enough q (at 12 kind.Colon us colon (omega arith)) low w) low

  module _ (c : Context) (block : Tokens → Found Stmts) (complete : (xs : Stmts) (ts us : Tokens) → stmt_grammar.IsBlock c xs ts us → stmts_height xs ≤ h → IsShallow most 0 ts → block ts ≡ Ok (xs, us)) where
    pub tested_complete : {e : Expr} {b : Stmts} {ts us vs : Tokens} → grammar.IsExpr e ts us → stmt_grammar.IsSuite c b us vs → expr_height e ≤ h → stmts_height b ≤ h → IsShallow most 0 ts → stmt_reading.tested rs h block ts ≡ Ok ((e, b), vs)
    unfolding stmt_reading.tested
    tested_complete q b low small w = rw (expr_within q (colon_binds b) low w, suite_complete most h c block complete b small (expr_low most q w)) refl

    pub elifs_complete : {bs : Branches} {ts us : Tokens} → stmt_grammar.IsElifs c bs ts us → stmt_reading.is_elif (first us) ≡ false → branches_height bs ≤ h → IsShallow most 0 ts → (n : ℕ) → length ts < n → stmt_reading.elifs_by n rs h block ts ≡ Ok (bs, us)
    unfolding stmt_reading.elifs_by
    elifs_complete q over low w zero lt = absurd (omega arith)
    elifs_complete stmt_grammar.no_elif over low w (suc n) lt = rw over refl
    elifs_complete {ts = ts} (stmt_grammar.an_elif is e b bs) over low w (suc n) lt =
        rw (
          is,
          tested_complete e b (omega arith) (omega arith) (down most ts w),
          elifs_complete bs over (omega arith) (suite_low most b (expr_low most e (down most ts w))) n (omega (arith, skip_within ts, expr_takes e, suite_takes b)),
        ) refl

    pub if_complete : {e : Expr} {b : Stmts} {bs : Branches} {o : MaybeStmts} {ts us vs ws xs : Tokens} → grammar.IsExpr e ts us → stmt_grammar.IsSuite c b us vs → stmt_grammar.IsElifs c bs vs ws → stmt_grammar.IsElse c o ws xs → Rests (first xs)
        → stmt_form_height (stmt_tree.choose (stmt_tree.branch e b bs) o) ≤ h → IsShallow most 0 ts → stmt_reading.if_statement rs h block ts ≡ Ok (stmt_tree.choose (stmt_tree.branch e b bs) o, xs)
    unfolding stmt_reading.if_statement
    if_complete {vs = vs} e b bs o rests low w =
        let behind = suite_low most b (expr_low most e w) in
        rw (
          tested_complete e b (omega arith) (omega arith) w,
          elifs_complete bs (else_no_elif o rests.no_elif) (omega arith) behind (suc (length vs)) (omega arith),
          else_complete most h c block complete o rests.no_else (omega arith) (elifs_low most bs behind),
        ) refl

    -- ---- handlers

    module _ (handling : Tokens → Found Stmts) (complete_handling : (xs : Stmts) (ts us : Tokens) → stmt_grammar.IsBlock (in_handler c) xs ts us → stmts_height xs ≤ h → IsShallow most 0 ts → handling ts ≡ Ok (xs, us)) where
      all_read : {b : Stmts} {ts us : Tokens} → stmt_grammar.IsSuite (in_handler c) b ts us → stmts_height b ≤ h → IsShallow most 0 ts → stmt_reading.handler rs h handling ts ≡ Ok ((stmt_tree.an_except None None b, true), us)
      unfolding stmt_reading.handler
      all_read q low w = rw (colon_binds q, suite_complete most h (in_handler c) handling complete_handling q low w) refl

      plain_read : {e : Expr} {b : Stmts} {ts us vs : Tokens} → grammar.IsExpr e ts us → stmt_grammar.IsSuite (in_handler c) b us vs → expr_height e ≤ h → stmts_height b ≤ h → IsShallow most 0 ts → stmt_reading.handler rs h handling ts ≡ Ok ((stmt_tree.an_except (Some e) None b, false), vs)
      unfolding stmt_reading.handler
      plain_read {ts = ts} e q low small w =
          handler_by_kind (first ts) rs h handling ts (expr_begins e).no_colon ∙ rw (expr_within e (colon_binds q) low w, colon_binds q, suite_complete most h (in_handler c) handling complete_handling q small (expr_low most e w)) refl

      named_read : {e : Expr} {n : Name} {b : Stmts} {ts us vs : Tokens} → grammar.IsExpr e ts us → first us ≡ kind.As → first (skip us) ≡ kind.Name n → stmt_grammar.IsSuite (in_handler c) b (skip (skip us)) vs → expr_height e ≤ h → stmts_height b ≤ h → IsShallow most 0 ts
          → stmt_reading.handler rs h handling ts ≡ Ok ((stmt_tree.an_except (Some e) (Some (named n (skip us))) b, false), vs)
      unfolding stmt_reading.handler
      named_read {e = f} {ts = ts} {us = us} e comes name b low small w =
          let read = within_is expr_height h (reading.expr rs ts) (f, us) (expr_read most d rs inner h enough e (at 12 kind.As us comes (omega arith)) low w) low in
          handler_by_kind (first ts) rs h handling ts (expr_begins e).no_colon
          ∙ rw (read, comes, name, suite_complete most h (in_handler c) handling complete_handling b small (down most (skip us) (down most us (expr_low most e w)))) refl

      handlers_complete : {xs : Excepts} {ts us : Tokens} → stmt_grammar.IsHandlers c xs ts us → stmt_reading.is_except (first us) ≡ false → excepts_height xs ≤ h → IsShallow most 0 ts → (n : ℕ) → length ts < n → stmt_reading.handlers_by n rs h handling false ts ≡ Ok (xs, us)
      unfolding stmt_reading.handlers_by
      handlers_complete q over low w zero lt = absurd (omega arith)
      handlers_complete stmt_grammar.no_handler over low w (suc n) lt = rw over refl
      handlers_complete {ts = ts} (stmt_grammar.handles_all is b) over low w (suc zero) lt = absurd (omega (arith, skip_within ts, suite_takes b))
      handlers_complete {ts = ts} (stmt_grammar.handles_all is b) over low w (suc (suc n)) lt = rw (is, all_read b (omega arith) (down most ts w)) refl
      handlers_complete {ts = ts} (stmt_grammar.handles is e b xs) over low w (suc n) lt =
          rw (
            is,
            plain_read e b (omega arith) (omega arith) (down most ts w),
            handlers_complete xs over (omega arith) (suite_low most b (expr_low most e (down most ts w))) n (omega (arith, skip_within ts, expr_takes e, suite_takes b)),
          ) refl
      handlers_complete {ts = ts} (stmt_grammar.handles_named {us = us} is e comes name b xs) over low w (suc n) lt =
          rw (
            is,
            named_read e comes name b (omega arith) (omega arith) (down most ts w),
            handlers_complete xs over (omega arith) (suite_low most b (down most (skip us) (down most us (expr_low most e (down most ts w))))) n (omega (arith, skip_within ts, expr_takes e, skip_within us, skip_within (skip us), suite_takes b)),
          ) refl

      -- the first handler, and those behind it
      behind_except : {x : Except} {xs : Excepts} {o l : MaybeStmts} {ts us vs ws : Tokens} (b : Stmts) → stmt_grammar.IsHandlers c (stmt_tree.except x xs) ts us → stmt_grammar.IsElse c o us vs → stmt_grammar.IsFinally c l vs ws → Rests (first ws)
          → excepts_height (stmt_tree.except x xs) ≤ h → maybe_stmts_height o ≤ h → maybe_stmts_height l ≤ h → IsShallow most 0 ts → stmt_reading.behind_try (first ts) rs h block handling b ts ≡ Ok (stmt_tree.try b (stmt_tree.except x xs) o l, ws)
      unfolding stmt_reading.handlers_by
      behind_except {ts = ts} {us = us} b (stmt_grammar.handles_all is q) o l rests low small last w =
          let behind = suite_low most q (down most ts w) in
          rw (
            is,
            all_read q (omega arith) (down most ts w),
            else_complete most h c block complete o (finally_no_else l rests.no_else) small behind,
            finally_complete most h c block complete l rests.no_finally last (else_low most o behind),
          ) refl
      behind_except {ts = ts} b (stmt_grammar.handles {vs = vs} is e q xs) o l rests low small last w =
          let behind = suite_low most q (expr_low most e (down most ts w)) in
          let after = handlers_low most xs behind in
          rw (
            is,
            plain_read e q (omega arith) (omega arith) (down most ts w),
            handlers_complete xs (else_no_except o (finally_no_except l rests.no_except)) (omega arith) behind (suc (length vs)) (omega arith),
            else_complete most h c block complete o (finally_no_else l rests.no_else) small after,
            finally_complete most h c block complete l rests.no_finally last (else_low most o after),
          ) refl
      behind_except {ts = ts} b (stmt_grammar.handles_named {us = us} {vs = vs} is e comes name q xs) o l rests low small last w =
          let behind = suite_low most q (down most (skip us) (down most us (expr_low most e (down most ts w)))) in
          let after = handlers_low most xs behind in
          rw (
            is,
            named_read e comes name q (omega arith) (omega arith) (down most ts w),
            handlers_complete xs (else_no_except o (finally_no_except l rests.no_except)) (omega arith) behind (suc (length vs)) (omega arith),
            else_complete most h c block complete o (finally_no_else l rests.no_else) small after,
            finally_complete most h c block complete l rests.no_finally last (else_low most o after),
          ) refl

      pub try_complete : {b : Stmts} {x : Except} {xs : Excepts} {o l : MaybeStmts} {ts us vs ws zs : Tokens} → stmt_grammar.IsSuite c b ts us → stmt_grammar.IsHandlers c (stmt_tree.except x xs) us vs → stmt_grammar.IsElse c o vs ws → stmt_grammar.IsFinally c l ws zs → Rests (first zs)
          → stmt_form_height (stmt_tree.try b (stmt_tree.except x xs) o l) ≤ h → IsShallow most 0 ts → stmt_reading.try_statement rs h block handling ts ≡ Ok (stmt_tree.try b (stmt_tree.except x xs) o l, zs)
      unfolding stmt_reading.try_statement
      try_complete {b = body} b xs o l rests low w =
          rw (suite_complete most h c block complete b (omega arith) w) (behind_except body xs o l rests (omega arith) (omega arith) (omega arith) (suite_low most b w))

      pub try_finally_complete : {b l : Stmts} {ts us vs : Tokens} → stmt_grammar.IsSuite c b ts us → stmt_grammar.IsFinally c (stmt_tree.some l) us vs → stmt_form_height (stmt_tree.try b stmt_tree.no_excepts stmt_tree.none (stmt_tree.some l)) ≤ h → IsShallow most 0 ts
          → stmt_reading.try_statement rs h block handling ts ≡ Ok (stmt_tree.try b stmt_tree.no_excepts stmt_tree.none (stmt_tree.some l), vs)
      unfolding stmt_reading.try_statement
      try_finally_complete {us = us} b (stmt_grammar.a_finally is l) low w =
          rw (suite_complete most h c block complete b (omega arith) w, is, suite_complete most h c block complete l (omega arith) (down most us (suite_low most b w))) refl

  pub while_complete : (c : Context) {e : Expr} {b : Stmts} {ts us vs : Tokens} (block : Tokens → Found Stmts) → BlockComplete most h (in_loop c) block → grammar.IsExpr e ts us → stmt_grammar.IsSuite (in_loop c) b us vs → stmt_form_height (stmt_tree.while e b) ≤ h → IsShallow most 0 ts
      → stmt_reading.while_statement rs h block ts ≡ Ok (stmt_tree.while e b, vs)
  unfolding stmt_reading.while_statement
  while_complete c block complete e b low w = rw (tested_complete (in_loop c) block complete e b (omega arith) (omega arith) w) refl

  pub for_complete : (c : Context) {x : Target} {line : Line} {e : Expr} {b : Stmts} {ts us vs ws : Tokens} (block : Tokens → Found Stmts) → BlockComplete most h (in_loop c) block → grammar.IsTarget x line ts us → first us ≡ kind.In → grammar.IsExprs e (skip us) vs
      → stmt_grammar.IsSuite (in_loop c) b vs ws → stmt_form_height (stmt_tree.for (tree.a_walk x e None) b) ≤ h → IsShallow most 0 ts → stmt_reading.for_statement rs h block ts ≡ Ok (stmt_tree.for (tree.a_walk x e None) b, ws)
  unfolding stmt_reading.for_statement
  for_complete c {x} {e = f} {ts = ts} {us = us} {vs = vs} block complete q comes e b low w =
      let middle = down most us (target_stays most q 0 w) in
      let target = within_is target_height h (reading.target rs ts) (x, us) (target_read most d rs inner h enough q comes (omega arith) w) (omega arith) in
      let walked = within_is expr_height h (reading.expr_list rs (skip us)) (f, vs) (exprs_read most d rs inner h enough e (at 20 kind.Colon vs (colon_binds b) (omega arith)) (omega arith) middle) (omega arith) in
      rw (target, comes, walked, suite_complete most h (in_loop c) block complete b (omega arith) (exprs_low most e middle)) refl

  parameters_complete : {ps : Params} {ts us : Tokens} → grammar.IsParams any ps ts us → distinct (parameter_names ps) ≡ true → first us ≡ kind.RightParen → params_height ps ≤ h → IsShallow most 0 ts → stmt_reading.parameters rs ts ≡ Some (ps, us)
  unfolding stmt_reading.parameters
  parameters_complete q differ closes low w = rw (params_read most d rs inner h enough q closes low w, differ) refl

  pub def_complete : (c : Context) (ts : Tokens) {n : Name} {ps : Params} {b : Stmts} {us vs : Tokens} (block : Params → Tokens → Found Stmts) → ((ps : Params) → BlockComplete most h (in_function ps c) (block ps)) → first ts ≡ kind.Name n → first (skip ts) ≡ kind.LeftParen
      → grammar.IsParams any ps (skip (skip ts)) us → distinct (parameter_names ps) ≡ true → first us ≡ kind.RightParen → stmt_grammar.IsSuite (in_function ps c) b (skip us) vs → stmt_form_height (stmt_tree.define 0 (named n ts) ps b) ≤ h → IsShallow most 0 ts
      → stmt_reading.def_statement rs h block ts ≡ Ok (stmt_tree.define 0 (named n ts) ps b, vs)
  unfolding stmt_reading.def_statement
  def_complete c ts {n} {ps} {us = us} block complete name opens q differ closes b low w =
      let front = down most (skip ts) (down most ts w) in
      let read = within_is params_height h (stmt_reading.parameters rs (skip (skip ts))) (ps, us) (parameters_complete q differ closes (omega arith) front) (omega arith) in
      rw (name_is n ts name, opens, read, closes, suite_complete most h (in_function ps c) (block ps) (complete ps) b (omega arith) (down most us (params_stays most q 0 front))) refl

-- behind `class`
pub class_complete : (most h : ℕ) (c : Context) (ts : Tokens) {n : Name} {b : Stmts} {us vs : Tokens} (block : Tokens → Found Stmts)
    → ((xs : Stmts) (ts us : Tokens) → stmt_grammar.IsBlock (in_class c) xs ts us → stmts_height xs ≤ h → are_members xs ≡ true → IsShallow most 0 ts → block ts ≡ Ok (xs, us)) → first ts ≡ kind.Name n → stmt_grammar.IsEmptyBases (skip ts) us → stmt_grammar.IsSuite (in_class c) b us vs
    → are_members b ≡ true → stmts_height b ≤ h → IsShallow most 0 ts → stmt_reading.class_statement block ts ≡ Ok (stmt_tree.class (named n ts) b, vs)
unfolding stmt_reading.class_statement
class_complete most h c ts {n} {b} {us} {vs} block complete name empty (stmt_grammar.suite colon q) members low w =
    rw (name_is n ts name, bases_complete empty colon, colon, complete b (skip us) vs q low members (down most us (bases_low most empty (down most ts w)))) refl

-- ---- statements

module _ (most d : ℕ) (rs : Readers) (inner : AreComplete d rs) (h : ℕ) (enough : most + suc h ≤ d) (block : Blocks) (complete : (c : Context) (members : Bool) (xs : Stmts) (ts us : Tokens) → stmt_grammar.IsBlock c xs ts us → stmts_height xs ≤ h → (members ≡ true → are_members xs ≡ true) → IsShallow most 0 ts → block c members ts ≡ Ok (xs, us)) where
  -- a compound statement that is spelled, and no member unless it is a definition
  compound_complete : {c : Context} {form : StmtForm} {ts us : Tokens} (members : Bool) → stmt_grammar.IsCompound c form ts us → Rests (first us) → stmt_form_height form ≤ h → (members ≡ true → is_member (stmt_tree.a_stmt (line_at ts) form) ≡ true) → IsShallow most 0 ts
      → stmt_reading.statement_by (first ts) rs h c members block ts ≡ Ok (one (stmt_tree.a_stmt (line_at ts) form), us)
  compound_complete {c} {ts = ts} members (stmt_grammar.is_if is e b bs o) rests low member w =
      rw (is, none_wanted members member, if_complete most d rs inner h enough c (block c false) (in_one most h block complete c) e b bs o rests low (down most ts w)) refl
  compound_complete {c} {ts = ts} members (stmt_grammar.is_while is e b) rests low member w =
      rw (is, none_wanted members member, while_complete most d rs inner h enough c (block (in_loop c) false) (in_one most h block complete (in_loop c)) e b low (down most ts w)) refl
  compound_complete {c} {ts = ts} members (stmt_grammar.is_for is q comes e b) rests low member w =
      rw (is, none_wanted members member, for_complete most d rs inner h enough c (block (in_loop c) false) (in_one most h block complete (in_loop c)) q comes e b low (down most ts w)) refl
  compound_complete {c} {ts = ts} members (stmt_grammar.is_try is b hs o l) rests low member w =
      rw (
        is,
        none_wanted members member,
        try_complete most d rs inner h enough c (block c false) (in_one most h block complete c) (block (in_handler c) false) (in_one most h block complete (in_handler c)) b hs o l rests low (down most ts w),
      ) refl
  compound_complete {c} {ts = ts} members (stmt_grammar.is_try_finally is b l) rests low member w =
      rw (
        is,
        none_wanted members member,
        try_finally_complete most d rs inner h enough c (block c false) (in_one most h block complete c) (block (in_handler c) false) (in_one most h block complete (in_handler c)) b l low (down most ts w),
      ) refl
  compound_complete {c} {ts = ts} members (stmt_grammar.is_def is name opens q differ closes b) rests low member w =
      rw (is, def_complete most d rs inner h enough c (skip ts) (λ ps. block (in_function ps c) false) (λ ps. in_one most h block complete (in_function ps c)) name opens q differ closes b low (down most ts w)) refl
  compound_complete {c} {ts = ts} members (stmt_grammar.is_class is name empty b are) rests low member w =
      rw (is, none_wanted members member, class_complete most h c (skip ts) (block (in_class c) true) (λ xs ts us q low are w. complete (in_class c) true xs ts us q low (λ m. are) w) name empty b are low (down most ts w)) refl

  pub statement_complete : {c : Context} {xs : Stmts} {ts us : Tokens} (members : Bool) → stmt_grammar.IsStatement c xs ts us → Rests (first us) → stmts_height xs ≤ suc h → (members ≡ true → are_members xs ≡ true) → IsShallow most 0 ts → stmt_reading.statement_at rs h c members block ts ≡ Ok (xs, us)
  unfolding stmt_reading.statement_at
  statement_complete {c} {ts = ts} members (stmt_grammar.a_line l) rests low member w =
      line_by_kind (first ts) rs h c members block ts (line_begins l) ∙ line_complete most d rs inner h enough members l low member w (suc (length ts)) (omega arith)
  statement_complete {ts = ts} members (stmt_grammar.a_compound {form = form} q) rests low member w =
      compound_complete members q rests (omega arith) (λ m. (and_parts (is_member (stmt_tree.a_stmt (line_at ts) form)) true (member m)).0) w

  pub statements_complete : {c : Context} {xs : Stmts} {ts us : Tokens} (members : Bool) → stmt_grammar.IsStatements c xs ts us → ends (first us) ≡ true → stmts_height xs ≤ suc h → (members ≡ true → are_members xs ≡ true) → IsShallow most 0 ts → (n : ℕ) → length ts < n
      → stmt_reading.statements_by n rs h c members block ts ≡ Ok (xs, us)
  unfolding stmt_reading.statements_by
  statements_complete members q over low member w zero lt = absurd (omega arith)
  statements_complete members stmt_grammar.no_statement over low member w (suc n) lt = rw over refl
  statements_complete {ts = ts} members (stmt_grammar.more_statements {xs = xs} {ys = ys} x q) over low member w (suc n) lt =
      rw (
        (begun_rests (first ts) (statement_begins x)).0,
        statement_complete members x (statements_rest q over) (omega (arith, joined_height xs ys)) (λ m. (split_members xs ys (member m)).0) w,
        statements_complete members q over (omega (arith, joined_height xs ys)) (λ m. (split_members xs ys (member m)).1) (statement_low most x w) n (omega (arith, statement_takes x)),
      ) refl

  block_by_complete : {c : Context} {xs : Stmts} {ts us : Tokens} (members : Bool) → stmt_grammar.IsBlock c xs ts us → stmts_height xs ≤ suc h → (members ≡ true → are_members xs ≡ true) → IsShallow most 0 ts → stmt_reading.block_by (first ts) rs h c members block ts ≡ Ok (xs, us)
  unfolding stmt_reading.indented
  block_by_complete {c} {ts = ts} members (stmt_grammar.one_line l) low member w =
      block_by_kind (first ts) rs h c members block ts (line_begins l) ∙ line_complete most d rs inner h enough members l low member w (suc (length ts)) (omega arith)
  block_by_complete {ts = ts} members (stmt_grammar.indented {xs = xs} {ys = ys} {us = us} newline indent x q dedent) low member w =
      let front = down most (skip ts) (down most ts w) in
      rw (
        newline,
        indent,
        statement_complete members x (statements_rest q (ap ends dedent)) (omega (arith, joined_height xs ys)) (λ m. (split_members xs ys (member m)).0) front,
        statements_complete members q (ap ends dedent) (omega (arith, joined_height xs ys)) (λ m. (split_members xs ys (member m)).1) (statement_low most x front) (suc (length us)) (omega arith),
        dedent,
      ) refl

-- ---- blocks and programs

-- a block has a statement, whose height is at least 1
stmt_high : (x : Stmt) → 1 ≤ stmt_height x
stmt_high (stmt_tree.a_stmt line form) = omega arith

line_high : {c : Context} {xs : Stmts} {ts us : Tokens} → stmt_grammar.IsLine c xs ts us → 1 ≤ stmts_height xs
line_high (stmt_grammar.line_end {x = x} q newline) = omega (arith, stmt_high x)
line_high (stmt_grammar.line_semicolon {x = x} q semicolon newline) = omega (arith, stmt_high x)
line_high (stmt_grammar.line_more {x = x} q semicolon l) = omega (arith, stmt_high x)

statement_high : {c : Context} {xs : Stmts} {ts us : Tokens} → stmt_grammar.IsStatement c xs ts us → 1 ≤ stmts_height xs
statement_high (stmt_grammar.a_line l) = line_high l
statement_high (stmt_grammar.a_compound q) = omega arith

pub block_high : {c : Context} {xs : Stmts} {ts us : Tokens} → stmt_grammar.IsBlock c xs ts us → 1 ≤ stmts_height xs
block_high (stmt_grammar.one_line l) = line_high l
block_high (stmt_grammar.indented {xs = xs} {ys = ys} newline indent x q dedent) = omega (arith, joined_height xs ys, statement_high x)

pub block_complete : (most d : ℕ) (rs : Readers) → AreComplete d rs → (h : ℕ) → most + h ≤ d → BlocksComplete most h (stmt_reading.block_at rs h)
unfolding stmt_reading.block_at
block_complete most d rs inner zero enough c members xs ts us q low member w = absurd (let high = block_high q in omega arith)
block_complete most d rs inner (suc h) enough c members xs ts us q low member w =
    ap (from ts) (block_by_complete most d rs inner h enough (stmt_reading.block_at rs h) (block_complete most d rs inner h (omega arith)) members q low member w)

pub program_read : (most d : ℕ) (rs : Readers) → AreComplete d rs → (h : ℕ) → most + suc h ≤ d → (xs : Stmts) (ts us : Tokens) → IsProgram (suc h) xs ts us → IsShallow most 0 ts → stmt_reading.program_at rs h ts ≡ Ok (xs, us)
unfolding stmt_reading.program_at
program_read most d rs inner h enough xs ts us program w =
    let one : (length us == 1) ≡ true = rw program.alone refl in
    let read = statements_complete most d rs inner h enough (stmt_reading.block_at rs h) (block_complete most d rs inner h (omega arith)) false program.spelled (ap ends program.ends) program.low (λ m. absurd cc) w (suc (length ts)) (omega arith) in
    rw (read, program.ends, one) refl

-- a tree that is spelled is read, where no place of the tokens stands in more than so many brackets
pub program_complete : (most d : ℕ) → most + 200 ≤ d → {tree : Stmts} {ts : Tokens} (spelled : Spells tree ts) → IsShallow most 0 ts → stmt_reading.program_at (reading.readers d) 199 ts ≡ Ok (tree, spelled.rest)
program_complete most d enough {tree} {ts} spelled w =
    program_read most d (reading.readers d) (readers_complete d) 199 enough tree ts spelled.rest (record { spelled = spelled.statements; ends = spelled.ends; alone = spelled.alone; low = spelled.low }) w

-- no tokens have two trees
pub one_tree : {a b : Stmts} {ts : Tokens} → Spells a ts → Spells b ts → a ≡ b
one_tree {a} {b} {ts} p q =
    let most = length ts in
    let shallow = always_shallow 0 ts most (omega arith) in
    let first_read = program_complete most (most + 200) (omega arith) p shallow in
    let other_read = program_complete most (most + 200) (omega arith) q shallow in
    ap (λ (z : Stmts × Tokens). z.0) (ok_is (sym first_read ∙ other_read))

-- where nothing is read, no tree is spelled
pub none_spelled : (most d : ℕ) → most + 200 ≤ d → (ts : Tokens) (q : Option Tokens) → stmt_reading.program_at (reading.readers d) 199 ts ≡ Err q → IsShallow most 0 ts → (tree : Stmts) → Spells tree ts → ⊥
none_spelled most d enough ts q refused w tree spelled = let read = sym refused ∙ program_complete most d enough spelled w in cc
