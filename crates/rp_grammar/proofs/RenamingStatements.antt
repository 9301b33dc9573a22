-- Reading statements, blocks and programs at renamed tokens gives the renamed tree and the renamed tokens behind it, or the renamed
-- tokens from the place that is told.
use Rattle.std.proofs.Common.{◌≡◌, ℕ, zero, suc, ◌==◌, Bool, true, false, not, ◌&&◌, length, Some, None, refl, ap}
use Rattle.rp_base.specs.declared.value.Line.{Line}
use Rattle.rp_base.specs.declared.value.Name.{Name}
use Rattle.rp_token.specs.declared.token.TokenKind.{TokenKind}
use Rattle.rp_token.specs.declared.token.TokenKind.TheVariants as kind
use Rattle.rp_tree.specs.Expressions.{Named, Expr, Params}
use Rattle.rp_tree.specs.Heights.{expr_height, target_height, params_height, stmt_height}
use Rattle.rp_tree.specs.Maps.{names_by}
use Rattle.rp_tree.specs.Statements.{Stmt, StmtForm, Stmts, Except}
use Rattle.rp_grammar.specs.Kinds.{Tokens, first, line_at, skip}
use Rattle.rp_grammar.specs.Front.{is_colon, is_in, is_right_paren}
use Rattle.rp_grammar.specs.ExpressionReading as reading
use Rattle.rp_grammar.specs.ExpressionReading.{Read, Readers}
use Rattle.rp_grammar.specs.Statements.{Context, in_loop, in_handler, in_class, in_function, joined, top}
use Rattle.rp_grammar.specs.StatementReading as stmt_reading
use Rattle.rp_grammar.specs.StatementReading.{Found, Blocks}
use Rattle.rp_grammar.proofs.Renamed.{IsInjective, renamed_kind, renamed_tokens, renamed_named, renamed_expr, renamed_target, renamed_params, renamed_stmt, renamed_stmt_form, renamed_stmts, renamed_maybe_stmts, renamed_branches, renamed_except, renamed_excepts}
use Rattle.rp_grammar.proofs.RenamingBasics.{length_renamed, first_renamed, line_at_renamed, skip_renamed, front_kept, moved, Renames, bound, chosen, branched}
use Rattle.rp_grammar.proofs.RenamingNames.{name_renamed}
use Rattle.rp_grammar.proofs.RenamingExpressions.{AreRenamed, params_renamed, differ_renamed, target_renamed, expr_renamed, expr_list_renamed}
use Rattle.rp_grammar.proofs.MapHeights.{expr_height_mapped, target_height_mapped, params_height_mapped, stmt_height_mapped}
use Rattle.rp_grammar.proofs.RenamingFounds.{told, Tells, found_then, from_told, hidden_told, within_told, expected_told, no_member_told}
use Rattle.rp_grammar.proofs.RenamingSimple.{renamed_context, in_function_renamed, member_renamed, joined_renamed, simple_renamed}

module _ (f : Name → Name) where
  separated_renamed : (k : TokenKind) (x : Stmt) (us : Tokens) → stmt_reading.separated (renamed_kind f k) (renamed_stmt f x) (renamed_tokens f us) ≡ told f (λ (y : Stmt × Bool). (renamed_stmt f y.0, y.1)) (stmt_reading.separated k x us)
  separated_renamed kind.Newline x us = rw (skip_renamed f us) refl
  separated_renamed kind.Semicolon x us = rw (skip_renamed f us) (branched f (told f (λ (y : Stmt × Bool). (renamed_stmt f y.0, y.1))) stmt_reading.is_newline (λ m n. refl) (skip us) _ _ _ _ (rw (skip_renamed f (skip us)) refl) refl)
  separated_renamed _ x us = refl

  with_name_renamed : {A B : Type 0} (w : A → B) (more : Named → Tokens → Found A) (more' : Named → Tokens → Found B) (n : Read Named) (n' : Read Named) → ((x : Named) → Tells f w (more x) (more' (renamed_named f x)))
      → n' ≡ moved f (renamed_named f) n → stmt_reading.with_name more' n' ≡ told f w (stmt_reading.with_name more n)
  with_name_renamed w more more' None n' h e = rw e refl
  with_name_renamed w more more' (Some n) n' h e = rw e (h n.0 n.1)

  bases_renamed : Tells f (λ (u : Unit {0}). u) stmt_reading.bases stmt_reading.bases
  unfolding stmt_reading.bases
  bases_renamed ts = branched f (told f (λ (u : Unit {0}). u)) stmt_reading.is_left_paren (λ m n. refl) ts _ _ _ _
      (rw (skip_renamed f ts) (branched f (told f (λ (u : Unit {0}). u)) is_right_paren (λ m n. refl) (skip ts) _ _ _ _ (rw (skip_renamed f (skip ts)) refl) refl))
      refl

  compound_renamed : (line : Line) (x : Found StmtForm) (x' : Found StmtForm) → x' ≡ told f (renamed_stmt_form f) x → stmt_reading.compound line x' ≡ told f (renamed_stmts f) (stmt_reading.compound line x)
  compound_renamed line x x' e = found_then f _ _ _ _ _ _ e (λ y. refl)

  dedented_renamed : (k : TokenKind) (xs : Stmts) (us : Tokens) → stmt_reading.dedented (renamed_kind f k) (renamed_stmts f xs) (renamed_tokens f us) ≡ told f (renamed_stmts f) (stmt_reading.dedented k xs us)
  dedented_renamed kind.Dedent xs us = rw (skip_renamed f us) refl
  dedented_renamed _ xs us = refl

  ended_renamed : (k : TokenKind) (xs : Stmts) (us : Tokens) → stmt_reading.ended (renamed_kind f k) (renamed_stmts f xs) (renamed_tokens f us) ≡ told f (renamed_stmts f) (stmt_reading.ended k xs us)
  ended_renamed kind.End xs us = chosen (told f (renamed_stmts f)) _ _ _ _ _ _ (ap (λ n. n == 1) (length_renamed f us)) refl refl
  ended_renamed _ xs us = refl

  module _ (block block' : Tokens → Found Stmts) (blocks : Tells f (renamed_stmts f) block block') where
    suite_renamed : Tells f (renamed_stmts f) (stmt_reading.suite block) (stmt_reading.suite block')
    suite_renamed ts = expected_told f (renamed_stmts f) is_colon (λ m n. refl) block block' ts blocks

    maybe_suite_renamed : (is : TokenKind → Bool) → ((m n : Name) → is (kind.Name m) ≡ is (kind.Name n)) → Tells f (renamed_maybe_stmts f) (stmt_reading.maybe_suite is block) (stmt_reading.maybe_suite is block')
    unfolding stmt_reading.maybe_suite
    maybe_suite_renamed is same ts = branched f (told f (renamed_maybe_stmts f)) is same ts _ _ _ _
        (rw (skip_renamed f ts) (found_then f (renamed_stmts f) _ _ _ _ _ (from_told f (renamed_stmts f) ts _ _ (suite_renamed (skip ts))) (λ b. refl)))
        refl

    class_renamed : Tells f (renamed_stmt_form f) (stmt_reading.class_statement block) (stmt_reading.class_statement block')
    unfolding stmt_reading.class_statement
    class_renamed ts = with_name_renamed (renamed_stmt_form f) _ _ _ _ (λ n us. found_then f _ _ _ _ _ _ (bases_renamed us) (λ x. found_then f (renamed_stmts f) _ _ _ _ _ (suite_renamed x.1) (λ b. refl))) (name_renamed f ts)

module _ (f : Name → Name) (injective : IsInjective f) (rs : Readers) (inner : AreRenamed f rs) (h : ℕ) where
  low_expr : (ts : Tokens) → stmt_reading.within expr_height h (reading.expr rs (renamed_tokens f ts)) ≡ told f (renamed_expr f) (stmt_reading.within expr_height h (reading.expr rs ts))
  low_expr ts = within_told f (renamed_expr f) expr_height expr_height h _ _ (expr_height_mapped (names_by f)) (expr_renamed f injective rs inner ts)

  low_exprs : (ts : Tokens) → stmt_reading.within expr_height h (reading.expr_list rs (renamed_tokens f ts)) ≡ told f (renamed_expr f) (stmt_reading.within expr_height h (reading.expr_list rs ts))
  low_exprs ts = within_told f (renamed_expr f) expr_height expr_height h _ _ (expr_height_mapped (names_by f)) (expr_list_renamed f injective rs inner ts)

  parameters_renamed : Renames f (renamed_params f) (stmt_reading.parameters rs) (stmt_reading.parameters rs)
  unfolding stmt_reading.parameters
  parameters_renamed ts = bound _ _ _ _ _ _ (params_renamed f injective rs inner ts) (λ ps. chosen (moved f (renamed_params f)) _ _ _ _ _ _ (differ_renamed f injective rs inner ps.0) refl refl)

  simple_at_renamed : (c : Context) (members : Bool) → Tells f (renamed_stmt f) (stmt_reading.simple_at rs h c members) (stmt_reading.simple_at rs h (renamed_context f c) members)
  unfolding stmt_reading.simple_at
  simple_at_renamed c members ts = found_then f (renamed_stmt f) _ _ _ _ _ (within_told f (renamed_stmt f) stmt_height stmt_height (suc h) _ _ (stmt_height_mapped (names_by f)) (simple_renamed f injective rs inner c ts))
      (λ x. chosen (told f (renamed_stmt f)) _ _ _ _ _ _ (ap (λ b. members && not b) (member_renamed f x.0)) refl refl)

  item_at_renamed : (c : Context) (members : Bool) → Tells f (λ (y : Stmt × Bool). (renamed_stmt f y.0, y.1)) (stmt_reading.item_at rs h c members) (stmt_reading.item_at rs h (renamed_context f c) members)
  unfolding stmt_reading.item_at
  item_at_renamed c members ts = found_then f (renamed_stmt f) _ _ _ _ _ (simple_at_renamed c members ts) (λ x. rw (first_renamed f x.1) (separated_renamed f (first x.1) x.0 x.1))

  line_by_renamed : (n : ℕ) (c : Context) (members : Bool) → Tells f (renamed_stmts f) (stmt_reading.line_by n rs h c members) (stmt_reading.line_by n rs h (renamed_context f c) members)
  unfolding stmt_reading.line_by
  line_by_renamed zero c members ts = refl
  line_by_renamed (suc n) c members ts = found_then f (λ (y : Stmt × Bool). (renamed_stmt f y.0, y.1)) _ _ _ _ _ (from_told f (λ (y : Stmt × Bool). (renamed_stmt f y.0, y.1)) ts _ _ (item_at_renamed c members ts))
      (λ x. chosen (told f (renamed_stmts f)) x.0.1 x.0.1 _ _ _ _ refl (found_then f (renamed_stmts f) _ _ _ _ _ (line_by_renamed n c members x.1) (λ xs. refl)) refl)

  line_renamed : (c : Context) (members : Bool) → Tells f (renamed_stmts f) (stmt_reading.line rs h c members) (stmt_reading.line rs h (renamed_context f c) members)
  line_renamed c members ts = rw (length_renamed f ts) (line_by_renamed (suc (length ts)) c members ts)

  module _ (block block' : Tokens → Found Stmts) (blocks : Tells f (renamed_stmts f) block block') where
    abbrev renamed_tested : Expr × Stmts → Expr × Stmts
    renamed_tested x = (renamed_expr f x.0, renamed_stmts f x.1)

    abbrev renamed_handler : Except × Bool → Except × Bool
    renamed_handler x = (renamed_except f x.0, x.1)

    tested_renamed : Tells f renamed_tested (stmt_reading.tested rs h block) (stmt_reading.tested rs h block')
    unfolding stmt_reading.tested
    tested_renamed ts = found_then f (renamed_expr f) _ _ _ _ _ (low_expr ts) (λ e. found_then f (renamed_stmts f) _ _ _ _ _ (suite_renamed f block block' blocks e.1) (λ b. refl))

    elifs_by_renamed : (n : ℕ) → Tells f (renamed_branches f) (stmt_reading.elifs_by n rs h block) (stmt_reading.elifs_by n rs h block')
    unfolding stmt_reading.elifs_by
    elifs_by_renamed zero ts = refl
    elifs_by_renamed (suc n) ts = branched f (told f (renamed_branches f)) stmt_reading.is_elif (λ m n. refl) ts _ _ _ _
        (rw (skip_renamed f ts) (found_then f renamed_tested _ _ _ _ _ (from_told f renamed_tested ts _ _ (tested_renamed (skip ts))) (λ x. found_then f (renamed_branches f) _ _ _ _ _ (elifs_by_renamed n x.1) (λ bs. refl))))
        refl

    elifs_renamed : Tells f (renamed_branches f) (stmt_reading.elifs rs h block) (stmt_reading.elifs rs h block')
    elifs_renamed ts = rw (length_renamed f ts) (elifs_by_renamed (suc (length ts)) ts)

    if_renamed : Tells f (renamed_stmt_form f) (stmt_reading.if_statement rs h block) (stmt_reading.if_statement rs h block')
    unfolding stmt_reading.if_statement
    if_renamed ts = found_then f renamed_tested _ _ _ _ _ (tested_renamed ts) (λ x. found_then f (renamed_branches f) _ _ _ _ _ (elifs_renamed x.1)
        (λ bs. found_then f (renamed_maybe_stmts f) _ _ _ _ _ (maybe_suite_renamed f block block' blocks stmt_reading.is_else (λ m n. refl) bs.1) (λ o. refl)))

    while_renamed : Tells f (renamed_stmt_form f) (stmt_reading.while_statement rs h block) (stmt_reading.while_statement rs h block')
    unfolding stmt_reading.while_statement
    while_renamed ts = found_then f renamed_tested _ _ _ _ _ (tested_renamed ts) (λ x. refl)

    for_renamed : Tells f (renamed_stmt_form f) (stmt_reading.for_statement rs h block) (stmt_reading.for_statement rs h block')
    unfolding stmt_reading.for_statement
    for_renamed ts = found_then f (renamed_target f) _ _ _ _ _ (within_told f (renamed_target f) target_height target_height h _ _ (target_height_mapped (names_by f)) (target_renamed f injective rs inner ts))
        (λ x. branched f (told f (renamed_stmt_form f)) is_in (λ m n. refl) x.1 _ _ _ _
        (rw (skip_renamed f x.1) (found_then f (renamed_expr f) _ _ _ _ _ (low_exprs (skip x.1)) (λ e. found_then f (renamed_stmts f) _ _ _ _ _ (suite_renamed f block block' blocks e.1) (λ b. refl))))
        refl)

    named_handler_renamed : (k l : TokenKind) (e : Expr) (us : Tokens) → stmt_reading.named_handler (renamed_kind f k) (renamed_kind f l) block' (renamed_expr f e) (renamed_tokens f us) ≡ told f renamed_handler (stmt_reading.named_handler k l block e us)
    named_handler_renamed kind.As (kind.Name n) e us = rw (skip_renamed f us, skip_renamed f (skip us), line_at_renamed f (skip us)) (found_then f (renamed_stmts f) _ _ _ _ _ (suite_renamed f block block' blocks (skip (skip us))) (λ b. refl))
    named_handler_renamed kind.As _ e us = refl
    named_handler_renamed _ l e us = found_then f (renamed_stmts f) _ _ _ _ _ (suite_renamed f block block' blocks us) (λ b. refl)

    handler_by_renamed : (k : TokenKind) (ts : Tokens) → stmt_reading.handler_by (renamed_kind f k) rs h block' (renamed_tokens f ts) ≡ told f renamed_handler (stmt_reading.handler_by k rs h block ts)
    handler_by_renamed kind.Colon ts = found_then f (renamed_stmts f) _ _ _ _ _ (suite_renamed f block block' blocks ts) (λ b. refl)
    handler_by_renamed _ ts = found_then f (renamed_expr f) _ _ _ _ _ (low_expr ts)
        (λ e. rw (skip_renamed f e.1, first_renamed f e.1, first_renamed f (skip e.1)) (named_handler_renamed (first e.1) (first (skip e.1)) e.0 e.1))

    handler_renamed : Tells f renamed_handler (stmt_reading.handler rs h block) (stmt_reading.handler rs h block')
    unfolding stmt_reading.handler
    handler_renamed ts = rw (first_renamed f ts) (handler_by_renamed (first ts) ts)

    handlers_by_renamed : (n : ℕ) (all : Bool) → Tells f (renamed_excepts f) (stmt_reading.handlers_by n rs h block all) (stmt_reading.handlers_by n rs h block' all)
    unfolding stmt_reading.handlers_by
    handlers_by_renamed zero all ts = refl
    handlers_by_renamed (suc n) all ts = chosen (told f (renamed_excepts f)) _ _ _ _ _ _ (ap (λ b. not all && b) (front_kept f stmt_reading.is_except (λ m n. refl) ts))
        (rw (skip_renamed f ts) (found_then f renamed_handler _ _ _ _ _ (from_told f renamed_handler ts _ _ (handler_renamed (skip ts))) (λ x. found_then f (renamed_excepts f) _ _ _ _ _ (handlers_by_renamed n x.0.1 x.1) (λ xs. refl))))
        refl

    handlers_renamed : (all : Bool) → Tells f (renamed_excepts f) (stmt_reading.handlers rs h block all) (stmt_reading.handlers rs h block' all)
    handlers_renamed all ts = rw (length_renamed f ts) (handlers_by_renamed (suc (length ts)) all ts)

  module _ (block block' handling handling' : Tokens → Found Stmts) (blocks : Tells f (renamed_stmts f) block block') (handles : Tells f (renamed_stmts f) handling handling') where
    behind_try_renamed : (k : TokenKind) (b : Stmts) (ts : Tokens) → stmt_reading.behind_try (renamed_kind f k) rs h block' handling' (renamed_stmts f b) (renamed_tokens f ts) ≡ told f (renamed_stmt_form f) (stmt_reading.behind_try k rs h block handling b ts)
    behind_try_renamed kind.Except b ts = rw (skip_renamed f ts) (found_then f _ _ _ _ _ _ (handler_renamed handling handling' handles (skip ts))
        (λ x. found_then f (renamed_excepts f) _ _ _ _ _ (handlers_renamed handling handling' handles x.0.1 x.1)
        (λ xs. found_then f (renamed_maybe_stmts f) _ _ _ _ _ (maybe_suite_renamed f block block' blocks stmt_reading.is_else (λ m n. refl) xs.1)
        (λ o. found_then f (renamed_maybe_stmts f) _ _ _ _ _ (maybe_suite_renamed f block block' blocks stmt_reading.is_finally (λ m n. refl) o.1) (λ l. refl)))))
    behind_try_renamed kind.Finally b ts = rw (skip_renamed f ts) (found_then f (renamed_stmts f) _ _ _ _ _ (suite_renamed f block block' blocks (skip ts)) (λ l. refl))
    behind_try_renamed _ b ts = refl

    try_renamed : Tells f (renamed_stmt_form f) (stmt_reading.try_statement rs h block handling) (stmt_reading.try_statement rs h block' handling')
    unfolding stmt_reading.try_statement
    try_renamed ts = found_then f (renamed_stmts f) _ _ _ _ _ (hidden_told f (renamed_stmts f) _ _ (suite_renamed f block block' blocks ts)) (λ b. rw (first_renamed f b.1) (behind_try_renamed (first b.1) b.0 b.1))

  def_renamed : (block block' : Params → Tokens → Found Stmts) → ((ps : Params) → Tells f (renamed_stmts f) (block ps) (block' (renamed_params f ps))) → Tells f (renamed_stmt_form f) (stmt_reading.def_statement rs h block) (stmt_reading.def_statement rs h block')
  unfolding stmt_reading.def_statement
  def_renamed block block' blocks ts = with_name_renamed f (renamed_stmt_form f) _ _ _ _
      (λ n us. branched f (told f (renamed_stmt_form f)) stmt_reading.is_left_paren (λ m n. refl) us _ _ _ _
      (rw (skip_renamed f us) (found_then f (renamed_params f) _ _ _ _ _ (within_told f (renamed_params f) params_height params_height h _ _ (params_height_mapped (names_by f)) (parameters_renamed (skip us)))
      (λ ps. found_then f (renamed_stmts f) _ _ _ _ _
      (expected_told f (renamed_stmts f) is_right_paren (λ m n. refl) (stmt_reading.suite (block ps.0)) (stmt_reading.suite (block' (renamed_params f ps.0))) ps.1 (suite_renamed f (block ps.0) (block' (renamed_params f ps.0)) (blocks ps.0)))
      (λ b. refl))))
      refl)
      (name_renamed f ts)

  module _ (block : Blocks) (blocks : (c : Context) (members : Bool) → Tells f (renamed_stmts f) (block c members) (block (renamed_context f c) members)) where
    statement_by_renamed : (k : TokenKind) (c : Context) (members : Bool) (ts : Tokens) → stmt_reading.statement_by (renamed_kind f k) rs h (renamed_context f c) members block (renamed_tokens f ts) ≡ told f (renamed_stmts f) (stmt_reading.statement_by k rs h c members block ts)
    statement_by_renamed kind.If c members ts = rw (line_at_renamed f ts, skip_renamed f ts) (no_member_told f (renamed_stmts f) members _ _ (compound_renamed f (line_at ts) _ _ (if_renamed (block c false) (block (renamed_context f c) false) (blocks c false) (skip ts))))
    statement_by_renamed kind.While c members ts =
        rw (line_at_renamed f ts, skip_renamed f ts) (no_member_told f (renamed_stmts f) members _ _ (compound_renamed f (line_at ts) _ _ (while_renamed (block (in_loop c) false) (block (renamed_context f (in_loop c)) false) (blocks (in_loop c) false) (skip ts))))
    statement_by_renamed kind.For c members ts =
        rw (line_at_renamed f ts, skip_renamed f ts) (no_member_told f (renamed_stmts f) members _ _ (compound_renamed f (line_at ts) _ _ (for_renamed (block (in_loop c) false) (block (renamed_context f (in_loop c)) false) (blocks (in_loop c) false) (skip ts))))
    statement_by_renamed kind.Try c members ts =
        rw (line_at_renamed f ts, skip_renamed f ts) (no_member_told f (renamed_stmts f) members _ _ (compound_renamed f (line_at ts) _ _
        (try_renamed (block c false) (block (renamed_context f c) false) (block (in_handler c) false) (block (renamed_context f (in_handler c)) false) (blocks c false) (blocks (in_handler c) false) (skip ts))))
    statement_by_renamed kind.Def c members ts =
        rw (line_at_renamed f ts, skip_renamed f ts) (compound_renamed f (line_at ts) _ _
        (def_renamed (λ ps. block (in_function ps c) false) (λ ps. block (in_function ps (renamed_context f c)) false) (λ ps us. rw (in_function_renamed f ps c) (blocks (in_function ps c) false us)) (skip ts)))
    statement_by_renamed kind.Class c members ts =
        rw (line_at_renamed f ts, skip_renamed f ts) (no_member_told f (renamed_stmts f) members _ _ (compound_renamed f (line_at ts) _ _ (class_renamed f (block (in_class c) true) (block (renamed_context f (in_class c)) true) (blocks (in_class c) true) (skip ts))))
    statement_by_renamed _ c members ts = line_renamed c members ts

    statement_at_renamed : (c : Context) (members : Bool) → Tells f (renamed_stmts f) (stmt_reading.statement_at rs h c members block) (stmt_reading.statement_at rs h (renamed_context f c) members block)
    unfolding stmt_reading.statement_at
    statement_at_renamed c members ts = rw (first_renamed f ts) (statement_by_renamed (first ts) c members ts)

    statements_by_renamed : (n : ℕ) (c : Context) (members : Bool) → Tells f (renamed_stmts f) (stmt_reading.statements_by n rs h c members block) (stmt_reading.statements_by n rs h (renamed_context f c) members block)
    unfolding stmt_reading.statements_by
    statements_by_renamed zero c members ts = refl
    statements_by_renamed (suc n) c members ts = branched f (told f (renamed_stmts f)) stmt_reading.ends (λ m n. refl) ts _ _ _ _
        refl
        (found_then f (renamed_stmts f) _ _ _ _ _ (from_told f (renamed_stmts f) ts _ _ (statement_at_renamed c members ts))
        (λ xs. found_then f (renamed_stmts f) _ _ _ _ _ (statements_by_renamed n c members xs.1) (λ ys. rw (joined_renamed f xs.0 ys.0) refl)))

    statements_renamed : (c : Context) (members : Bool) → Tells f (renamed_stmts f) (stmt_reading.statements rs h c members block) (stmt_reading.statements rs h (renamed_context f c) members block)
    statements_renamed c members ts = rw (length_renamed f ts) (statements_by_renamed (suc (length ts)) c members ts)

    indented_renamed : (c : Context) (members : Bool) → Tells f (renamed_stmts f) (stmt_reading.indented rs h c members block) (stmt_reading.indented rs h (renamed_context f c) members block)
    unfolding stmt_reading.indented
    indented_renamed c members ts = found_then f (renamed_stmts f) _ _ _ _ _ (from_told f (renamed_stmts f) ts _ _ (statement_at_renamed c members ts))
        (λ xs. found_then f (renamed_stmts f) _ _ _ _ _ (statements_renamed c members xs.1)
        (λ ys. rw (first_renamed f ys.1, joined_renamed f xs.0 ys.0) (dedented_renamed f (first ys.1) (joined xs.0 ys.0) ys.1)))

    block_by_renamed : (k : TokenKind) (c : Context) (members : Bool) (ts : Tokens) → stmt_reading.block_by (renamed_kind f k) rs h (renamed_context f c) members block (renamed_tokens f ts) ≡ told f (renamed_stmts f) (stmt_reading.block_by k rs h c members block ts)
    block_by_renamed kind.Newline c members ts = rw (skip_renamed f ts) (expected_told f (renamed_stmts f) stmt_reading.is_indent (λ m n. refl) (stmt_reading.indented rs h c members block) (stmt_reading.indented rs h (renamed_context f c) members block) (skip ts) (indented_renamed c members))
    block_by_renamed _ c members ts = line_renamed c members ts

    block_front_renamed : (c : Context) (members : Bool) (ts : Tokens)
        → stmt_reading.block_by (first (renamed_tokens f ts)) rs h (renamed_context f c) members block (renamed_tokens f ts) ≡ told f (renamed_stmts f) (stmt_reading.block_by (first ts) rs h c members block ts)
    block_front_renamed c members ts = rw (first_renamed f ts) (block_by_renamed (first ts) c members ts)

module _ (f : Name → Name) (injective : IsInjective f) (rs : Readers) (inner : AreRenamed f rs) where
  pub block_renamed : (h : ℕ) (c : Context) (members : Bool) → Tells f (renamed_stmts f) (stmt_reading.block_at rs h c members) (stmt_reading.block_at rs h (renamed_context f c) members)
  unfolding stmt_reading.block_at
  block_renamed zero c members ts = refl
  block_renamed (suc h) c members ts = from_told f (renamed_stmts f) ts _ _ (block_front_renamed f injective rs inner h (stmt_reading.block_at rs h) (block_renamed h) c members ts)

  pub program_at_renamed : (h : ℕ) → Tells f (renamed_stmts f) (stmt_reading.program_at rs h) (stmt_reading.program_at rs h)
  unfolding stmt_reading.program_at
  program_at_renamed h ts = found_then f (renamed_stmts f) _ _ _ _ _ (statements_renamed f injective rs inner h (stmt_reading.block_at rs h) (block_renamed h) top false ts)
      (λ xs. rw (first_renamed f xs.1) (ended_renamed f (first xs.1) xs.0 xs.1))
