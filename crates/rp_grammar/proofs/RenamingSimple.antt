-- Reading simple statements at renamed tokens gives the renamed statement, and the renamed tokens behind it.
use Rattle.std.proofs.Common.{◌≡◌, ℕ, zero, suc, Bool, not, List, [], ◌∷◌, length, map, Option, Some, None, option_map, refl, ap}
use Rattle.std.specs.List.{list_all}
use Rattle.rp_base.specs.declared.operator.BinOp.{BinOp}
use Rattle.rp_base.specs.declared.value.Line.{Line}
use Rattle.rp_base.specs.declared.value.Name.{Name}
use Rattle.rp_token.specs.declared.token.TokenKind.{TokenKind}
use Rattle.rp_token.specs.declared.token.TokenKind.TheVariants as kind
use Rattle.rp_tree.specs.Expressions as tree
use Rattle.rp_tree.specs.Expressions.{Named, Expr, Place, Target, Params}
use Rattle.rp_tree.specs.Statements as stmt_tree
use Rattle.rp_tree.specs.Statements.{Stmt, Stmts}
use Rattle.rp_grammar.specs.Kinds.{Tokens, first, line_at, skip, augmented_of}
use Rattle.rp_grammar.specs.Expressions.{line_of}
use Rattle.rp_grammar.specs.Front.{is_comma, is_equal, starts}
use Rattle.rp_grammar.specs.ExpressionReading as reading
use Rattle.rp_grammar.specs.ExpressionReading.{Readers, alike, at}
use Rattle.rp_grammar.specs.Statements.{Context, in_function, is_in_function, is_free, is_member, joined}
use Rattle.rp_grammar.specs.StatementReading as stmt_reading
use Rattle.rp_grammar.proofs.Renamed.{IsInjective, renamed_kind, renamed_tokens, renamed_named, renamed_expr, renamed_place, renamed_target, renamed_params, renamed_stmt, renamed_stmts}
use Rattle.rp_grammar.proofs.RenamingBasics.{length_renamed, first_renamed, line_at_renamed, skip_renamed, front_kept, moved, Renames, bound, chosen, branched, all_many_renamed, all_listed_renamed, alike_renamed}
use Rattle.rp_grammar.proofs.RenamingNames.{line_of_renamed, name_renamed, parameter_names_renamed, as_place_renamed, as_target_renamed, any_same_renamed}
use Rattle.rp_grammar.proofs.RenamingExpressions.{AreRenamed, primary_renamed, expr_renamed, expr_list_renamed}

-- a context with its parameters renamed
abbrev pub renamed_context : (Name → Name) → Context → Context
renamed_context f c = record c { function = option_map (map f) c.function }

module _ (f : Name → Name) where
  function_kept : (loop handler class : Bool) (function : Option (List Name))
      → is_in_function (record { loop = loop; handler = handler; class = class; function = option_map (map f) function }) ≡ is_in_function (record { loop = loop; handler = handler; class = class; function = function })
  function_kept loop handler class None = refl
  function_kept loop handler class (Some ns) = refl

  in_function_kept : (c : Context) → is_in_function (renamed_context f c) ≡ is_in_function c
  in_function_kept c = function_kept c.loop c.handler c.class c.function

  pub in_function_renamed : (ps : Params) (c : Context) → in_function (renamed_params f ps) (renamed_context f c) ≡ renamed_context f (in_function ps c)
  in_function_renamed ps c = rw (parameter_names_renamed f ps) refl

  pub member_renamed : (x : Stmt) → is_member (renamed_stmt f x) ≡ is_member x
  member_renamed (stmt_tree.a_stmt line (stmt_tree.define k n ps b)) = refl
  member_renamed (stmt_tree.a_stmt line stmt_tree.pass) = refl
  member_renamed (stmt_tree.a_stmt line (stmt_tree.evaluate (tree.node l (tree.text cs)))) = refl
  member_renamed x = refl

  pub joined_renamed : (xs ys : Stmts) → joined (renamed_stmts f xs) (renamed_stmts f ys) ≡ renamed_stmts f (joined xs ys)
  joined_renamed stmt_tree.no_stmts ys = refl
  joined_renamed (stmt_tree.stmt x xs) ys = ap (stmt_tree.stmt (renamed_stmt f x)) (joined_renamed xs ys)

  comma_name_renamed : Renames f (renamed_named f) (λ us. reading.name_by (first (skip us)) (skip us)) (λ us. reading.name_by (first (skip us)) (skip us))
  comma_name_renamed ts = rw (skip_renamed f ts) (name_renamed f (skip ts))

  names_renamed : Renames f (map (renamed_named f)) stmt_reading.names stmt_reading.names
  unfolding stmt_reading.names
  names_renamed ts = bound _ _ _ _ _ _ (name_renamed f ts) (λ n. bound _ _ _ _ _ _
      (all_many_renamed f (renamed_named f) (map (renamed_named f)) [] (λ n ns. n ∷ ns) (at is_comma) (λ us. reading.name_by (first (skip us)) (skip us)) refl (λ x xs. refl) (front_kept f is_comma (λ m n. refl)) comma_name_renamed n.1)
      (λ ns. refl))

  raised_renamed : (c : Context) (line : Line) (e : Option Expr × Tokens) → stmt_reading.raised (renamed_context f c) line (option_map (renamed_expr f) e.0, renamed_tokens f e.1) ≡ moved f (renamed_stmt f) (stmt_reading.raised c line e)
  raised_renamed c line (Some e, us) = refl
  raised_renamed c line (None, us) = chosen (moved f (renamed_stmt f)) c.handler c.handler _ _ _ _ refl refl refl

  abbrev renamed_assigned : List Place × Expr → List Place × Expr
  renamed_assigned x = (map (renamed_place f) x.0, renamed_expr f x.1)

module _ (f : Name → Name) (injective : IsInjective f) where
  free_renamed : (function : Option (List Name)) (n : Named) → is_free (option_map (map f) function) (renamed_named f n) ≡ is_free function n
  free_renamed None n = refl
  free_renamed (Some ns) n = ap not (any_same_renamed f injective n.name ns)

  all_free_renamed : (function : Option (List Name)) (ns : List Named) → list_all (is_free (option_map (map f) function)) (map (renamed_named f) ns) ≡ list_all (is_free function) ns
  all_free_renamed function [] = refl
  all_free_renamed function (n ∷ ns) = rw (free_renamed function n, all_free_renamed function ns) refl

  global_renamed : (c : Context) (line : Line) → Renames f (renamed_stmt f) (stmt_reading.global c line) (stmt_reading.global (renamed_context f c) line)
  unfolding stmt_reading.global
  global_renamed c line ts = chosen (moved f (renamed_stmt f)) c.class c.class _ _ _ _ refl refl
      (bound _ _ _ _ _ _ (names_renamed f ts) (λ ns. chosen (moved f (renamed_stmt f)) _ _ _ _ _ _ (all_free_renamed c.function ns.0) refl refl))

module _ (f : Name → Name) (injective : IsInjective f) (rs : Readers) (inner : AreRenamed f rs) where
  exprs : Renames f (renamed_expr f) (reading.expr_list rs) (reading.expr_list rs)
  exprs = expr_list_renamed f injective rs inner

  place_renamed : Renames f (renamed_place f) (stmt_reading.place rs) (stmt_reading.place rs)
  unfolding stmt_reading.place
  place_renamed ts = bound _ _ _ _ _ _ (primary_renamed f injective rs inner ts) (λ e. bound _ _ _ _ _ _ (as_place_renamed f e.0) (λ x. refl))

  places_renamed : Renames f (map (renamed_place f)) (stmt_reading.places rs) (stmt_reading.places rs)
  unfolding stmt_reading.places
  places_renamed ts = bound _ _ _ _ _ _ (place_renamed ts) (λ x. branched f (moved f (map (renamed_place f))) is_comma (λ m n. refl) x.1 _ _ _ _
      (rw (skip_renamed f x.1) (bound _ _ _ _ _ _
      (all_listed_renamed f (renamed_place f) (map (renamed_place f)) [] [] (λ x xs. x ∷ xs) starts (alike (stmt_reading.place rs)) refl refl (λ x xs. refl) (λ m n. refl) (alike_renamed f (renamed_place f) (stmt_reading.place rs) place_renamed) tt (skip x.1))
      (λ xs. refl)))
      refl)

  maybe_exprs_renamed : Renames f (option_map (renamed_expr f)) (stmt_reading.maybe_exprs rs) (stmt_reading.maybe_exprs rs)
  unfolding stmt_reading.maybe_exprs
  maybe_exprs_renamed ts = branched f (moved f (option_map (renamed_expr f))) starts (λ m n. refl) ts _ _ _ _ (bound _ _ _ _ _ _ (exprs ts) (λ e. refl)) refl

  maybe_expr_renamed : Renames f (option_map (renamed_expr f)) (stmt_reading.maybe_expr rs) (stmt_reading.maybe_expr rs)
  unfolding stmt_reading.maybe_expr
  maybe_expr_renamed ts = branched f (moved f (option_map (renamed_expr f))) starts (λ m n. refl) ts _ _ _ _ (bound _ _ _ _ _ _ (expr_renamed f injective rs inner ts) (λ e. refl)) refl

  return_renamed : (c : Context) (line : Line) → Renames f (renamed_stmt f) (stmt_reading.return rs c line) (stmt_reading.return rs (renamed_context f c) line)
  unfolding stmt_reading.return
  return_renamed c line ts = chosen (moved f (renamed_stmt f)) _ _ _ _ _ _ (in_function_kept f c) (bound _ _ _ _ _ _ (maybe_exprs_renamed ts) (λ e. refl)) refl

  raise_renamed : (c : Context) (line : Line) → Renames f (renamed_stmt f) (stmt_reading.raise rs c line) (stmt_reading.raise rs (renamed_context f c) line)
  unfolding stmt_reading.raise
  raise_renamed c line ts = bound _ _ _ _ _ _ (maybe_expr_renamed ts) (raised_renamed f c line)

  assert_renamed : (line : Line) → Renames f (renamed_stmt f) (stmt_reading.assert rs line) (stmt_reading.assert rs line)
  unfolding stmt_reading.assert
  assert_renamed line ts = bound _ _ _ _ _ _ (expr_renamed f injective rs inner ts) (λ e. branched f (moved f (renamed_stmt f)) is_comma (λ m n. refl) e.1 _ _ _ _
      (rw (skip_renamed f e.1) (bound _ _ _ _ _ _ (expr_renamed f injective rs inner (skip e.1)) (λ x. refl)))
      refl)

  assigned_by_renamed : (n : ℕ) → Renames f (renamed_assigned f) (stmt_reading.assigned_by n rs) (stmt_reading.assigned_by n rs)
  unfolding stmt_reading.assigned_by
  assigned_by_renamed zero ts = refl
  assigned_by_renamed (suc n) ts = bound _ _ _ _ _ _ (exprs ts) (λ e. branched f (moved f (renamed_assigned f)) is_equal (λ m n. refl) e.1 _ _ _ _
      (rw (skip_renamed f e.1) (bound _ _ _ _ _ _ (as_place_renamed f e.0) (λ x. bound _ _ _ _ _ _ (assigned_by_renamed n (skip e.1)) (λ y. refl))))
      refl)

  assigned_renamed : Renames f (renamed_assigned f) (stmt_reading.assigned rs) (stmt_reading.assigned rs)
  assigned_renamed ts = rw (length_renamed f ts) (assigned_by_renamed (suc (length ts)) ts)

  assignment_to_renamed : (line : Line) (g : Target) → Renames f (renamed_stmt f) (stmt_reading.assignment_to rs line g) (stmt_reading.assignment_to rs line (renamed_target f g))
  assignment_to_renamed line (tree.to_place x) ts = bound _ _ _ _ _ _ (assigned_renamed ts) (λ y. refl)
  assignment_to_renamed line (tree.group xs) ts = bound _ _ _ _ _ _ (exprs ts) (λ e. refl)

  assignment_renamed : (e : Expr) → Renames f (renamed_stmt f) (stmt_reading.assignment rs e) (stmt_reading.assignment rs (renamed_expr f e))
  unfolding stmt_reading.assignment
  assignment_renamed e ts = rw (line_of_renamed f e) (bound _ _ _ _ _ _ (as_target_renamed f e) (λ g. assignment_to_renamed (line_of e) g ts))

  augmented_renamed : (o : BinOp) (e : Expr) → Renames f (renamed_stmt f) (stmt_reading.augmented rs o e) (stmt_reading.augmented rs o (renamed_expr f e))
  unfolding stmt_reading.augmented
  augmented_renamed o e ts = rw (line_of_renamed f e, line_at_renamed f ts, skip_renamed f ts) (bound _ _ _ _ _ _ (as_place_renamed f e) (λ x. bound _ _ _ _ _ _ (exprs (skip ts)) (λ y. refl)))

  behind_exprs_renamed : (k : TokenKind) (o : Option BinOp) (e : Expr) (ts : Tokens) → stmt_reading.behind_exprs (renamed_kind f k) o rs (renamed_expr f e) (renamed_tokens f ts) ≡ moved f (renamed_stmt f) (stmt_reading.behind_exprs k o rs e ts)
  behind_exprs_renamed k (Some o) e ts = augmented_renamed o e ts
  behind_exprs_renamed kind.Equal None e ts = rw (skip_renamed f ts) (assignment_renamed e (skip ts))
  behind_exprs_renamed k None e ts = rw (line_of_renamed f e) refl

  expression_statement_renamed : Renames f (renamed_stmt f) (stmt_reading.expression_statement rs) (stmt_reading.expression_statement rs)
  unfolding stmt_reading.expression_statement
  expression_statement_renamed ts = bound _ _ _ _ _ _ (exprs ts) (λ e. rw (front_kept f augmented_of (λ m n. refl) e.1, first_renamed f e.1) (behind_exprs_renamed (first e.1) (augmented_of (first e.1)) e.0 e.1))

  simple_by_renamed : (k : TokenKind) (c : Context) (ts : Tokens) → stmt_reading.simple_by (renamed_kind f k) rs (renamed_context f c) (renamed_tokens f ts) ≡ moved f (renamed_stmt f) (stmt_reading.simple_by k rs c ts)
  simple_by_renamed kind.Pass c ts = rw (line_at_renamed f ts, skip_renamed f ts) refl
  simple_by_renamed kind.Break c ts = rw (line_at_renamed f ts, skip_renamed f ts) (chosen (moved f (renamed_stmt f)) c.loop c.loop _ _ _ _ refl refl refl)
  simple_by_renamed kind.Continue c ts = rw (line_at_renamed f ts, skip_renamed f ts) (chosen (moved f (renamed_stmt f)) c.loop c.loop _ _ _ _ refl refl refl)
  simple_by_renamed kind.Return c ts = rw (line_at_renamed f ts, skip_renamed f ts) (return_renamed c (line_at ts) (skip ts))
  simple_by_renamed kind.Raise c ts = rw (line_at_renamed f ts, skip_renamed f ts) (raise_renamed c (line_at ts) (skip ts))
  simple_by_renamed kind.Assert c ts = rw (line_at_renamed f ts, skip_renamed f ts) (assert_renamed (line_at ts) (skip ts))
  simple_by_renamed kind.Global c ts = rw (line_at_renamed f ts, skip_renamed f ts) (global_renamed f injective c (line_at ts) (skip ts))
  simple_by_renamed kind.Del c ts = rw (line_at_renamed f ts, skip_renamed f ts) (bound _ _ _ _ _ _ (places_renamed (skip ts)) (λ x. refl))
  simple_by_renamed _ c ts = expression_statement_renamed ts

  pub simple_renamed : (c : Context) → Renames f (renamed_stmt f) (stmt_reading.simple rs c) (stmt_reading.simple rs (renamed_context f c))
  unfolding stmt_reading.simple
  simple_renamed c ts = rw (first_renamed f ts) (simple_by_renamed (first ts) c ts)
