-- The functions in what is spelled as statements have parameters that differ, and none that their own `global`
-- statements name (Python Language Reference, Function definitions; The global statement).
use Rattle.std.proofs.Common.{List}
use Rattle.rp_base.specs.declared.value.Line.{Line}
use Rattle.rp_tree.specs.Expressions.{Expr, Place, Target}
use Rattle.rp_tree.specs.Statements as stmt_tree
use Rattle.rp_tree.specs.Statements.{Stmt, StmtForm, Stmts, MaybeStmts, Branches, Excepts}
use Rattle.rp_grammar.specs.Kinds.{Tokens}
use Rattle.rp_grammar.specs.Expressions as grammar
use Rattle.rp_grammar.specs.Statements as stmt_grammar
use Rattle.rp_grammar.specs.Statements.{Context, joined}
use Rattle.rp_scope.specs.Bindings.{branches_mentions, excepts_mentions, form_mentions, maybe_mentions}
use Rattle.rp_scope.specs.Bindings.{stmt_mentions, stmts_mentions}
use Rattle.rp_meaning.specs.Blocks.{of_branches, of_excepts, of_expr, of_maybe_stmts, of_places, of_stmt, of_stmt_form}
use Rattle.rp_meaning.specs.Blocks.{of_stmts, of_target}
use Rattle.rp_layout_laws.specs.Layout.{EachSpelledDiffers}
use Rattle.rp_layout_laws.proofs.Expressions as spelled
use Rattle.rp_layout_laws.proofs.Functions.{Differ, Spare, a_def, above, both, bound, defined, free, front, listed}
use Rattle.rp_layout_laws.proofs.Functions.{listed_front, listed_rest, none, rest, silent}

-- ---- statements that are joined

joined_differ : (xs ys : Stmts) → Differ (of_stmts xs) → Differ (of_stmts ys) → Differ (of_stmts (joined xs ys))
joined_differ stmt_tree.no_stmts ys h k = k
joined_differ (stmt_tree.stmt x xs) ys h k =
    both (front (of_stmt x) (of_stmts xs) h) (joined_differ xs ys (rest (of_stmt x) (of_stmts xs) h) k)

joined_spare : (c : Context) (xs ys : Stmts) → Spare c.function (stmts_mentions xs)
    → Spare c.function (stmts_mentions ys) → Spare c.function (stmts_mentions (joined xs ys))
joined_spare c stmt_tree.no_stmts ys h k = k
joined_spare c (stmt_tree.stmt x xs) ys h k =
    listed (listed_front (stmt_mentions x) (stmts_mentions xs) h)
    (joined_spare c xs ys (listed_rest (stmt_mentions x) (stmts_mentions xs) h) k)

-- ---- parts of statements

places_differ : {ps : List Place} {ts us : Tokens} → stmt_grammar.IsPlaces ps ts us → Differ (of_places ps)
places_differ (stmt_grammar.last_place p) = both (spelled.place_differs p) none
places_differ (stmt_grammar.last_comma p comma) = both (spelled.place_differs p) none
places_differ (stmt_grammar.more_places p comma q) = both (spelled.place_differs p) (places_differ q)

assigned_differ : {ps : List Place} {ts us : Tokens} → stmt_grammar.Assigned ps ts us → Differ (of_places ps)
assigned_differ (stmt_grammar.last_assigned p equal) = both (spelled.place_differs p) none
assigned_differ (stmt_grammar.more_assigned p equal q) = both (spelled.place_differs p) (assigned_differ q)

unpacked_differs : {p : Target} {line : Line} {ts us : Tokens} → stmt_grammar.IsUnpacked p line ts us
    → Differ (of_target p)
unpacked_differs (stmt_grammar.a_group p) = spelled.group_differs p
unpacked_differs (stmt_grammar.some_parts p) = spelled.parts_differ p

exprs_differ : {e : Expr} {ts us : Tokens} → grammar.IsExprs e ts us → Differ (of_expr e)
exprs_differ (grammar.an_expr p) = spelled.expr_differs p
exprs_differ (grammar.several p h q) = both (spelled.expr_differs p) (spelled.listed_differ q)

-- ---- statements: their functions, and what they say of names to the function that they stand in

simple_good : {c : Context} {x : Stmt} {ts us : Tokens} → stmt_grammar.IsSimple c x ts us
    → Differ (of_stmt x) × Spare c.function (stmt_mentions x)
simple_good (stmt_grammar.is_pass h) = (none, silent)
simple_good (stmt_grammar.is_break inside h) = (none, silent)
simple_good (stmt_grammar.is_continue inside h) = (none, silent)
simple_good (stmt_grammar.is_return inside h) = (none, silent)
simple_good (stmt_grammar.returns_value inside h p) = (exprs_differ p, silent)
simple_good (stmt_grammar.raises_again inside h) = (none, silent)
simple_good (stmt_grammar.is_raise h p) = (spelled.expr_differs p, silent)
simple_good (stmt_grammar.is_assert h p) = (both (spelled.expr_differs p) none, silent)
simple_good (stmt_grammar.asserts_with_text h p comma q) =
    (both (spelled.expr_differs p) (spelled.expr_differs q), silent)
simple_good (stmt_grammar.is_global {c = c} {ns = ns} outside apart h p) = (none, free c.function ns apart)
simple_good (stmt_grammar.is_del h p) = (places_differ p, bound _)
simple_good (stmt_grammar.is_value p) = (exprs_differ p, silent)
simple_good (stmt_grammar.is_augmented p sign q) = (both (spelled.place_differs p) (exprs_differ q), bound _)
simple_good (stmt_grammar.is_assignment p q) = (both (assigned_differ p) (exprs_differ q), bound _)
simple_good (stmt_grammar.is_unpacking p equal q) = (both (unpacked_differs p) (exprs_differ q), bound _)

line_good : {c : Context} {xs : Stmts} {ts us : Tokens} → stmt_grammar.IsLine c xs ts us
    → Differ (of_stmts xs) × Spare c.function (stmts_mentions xs)
line_good (stmt_grammar.line_end x h) = let a = simple_good x in (both a.0 none, listed a.1 silent)
line_good (stmt_grammar.line_semicolon x h newline) = let a = simple_good x in (both a.0 none, listed a.1 silent)
line_good (stmt_grammar.line_more x h xs) =
    let a = simple_good x in let b = line_good xs in (both a.0 b.0, listed a.1 b.1)

mutual
  statement_good : {c : Context} {xs : Stmts} {ts us : Tokens} → stmt_grammar.IsStatement c xs ts us
      → Differ (of_stmts xs) × Spare c.function (stmts_mentions xs)
  statement_good (stmt_grammar.a_line x) = line_good x
  statement_good (stmt_grammar.a_compound x) = let a = compound_good x in (both a.0 none, listed a.1 silent)

  compound_good : {c : Context} {form : StmtForm} {ts us : Tokens} → stmt_grammar.IsCompound c form ts us
      → Differ (of_stmt_form form) × Spare c.function (form_mentions form)
  compound_good (stmt_grammar.is_if h e b bs o) =
      let x = spelled.expr_differs e in let y = suite_good b in let z = elifs_good bs in let w = else_good o in
      (both (both (both x y.0) z.0) w.0, listed (listed y.1 z.1) w.1)
  compound_good (stmt_grammar.is_while h e b) =
      let x = spelled.expr_differs e in let y = suite_good b in (both x y.0, y.1)
  compound_good (stmt_grammar.is_for h p comes e b) =
      let x = spelled.target_differs p in let y = exprs_differ e in let z = suite_good b in
      (both (both x y) z.0, listed (bound _) z.1)
  compound_good (stmt_grammar.is_try h b hs o last) =
      let x = suite_good b in let y = handlers_good hs in let z = else_good o in let w = finally_good last in
      (both (both (both x.0 y.0) z.0) w.0, listed (listed (listed x.1 y.1) z.1) w.1)
  compound_good (stmt_grammar.is_try_finally h b last) =
      let x = suite_good b in let w = finally_good last in
      (both (both (both x.0 none) none) w.0, listed (listed (listed x.1 silent) silent) w.1)
  compound_good (stmt_grammar.is_def {ps = ps} {b = b} h name opens p differ closes s) =
      let y = suite_good s in
      (a_def 0 ps b differ y.1 (both (spelled.params_differ p) y.0), defined (stmts_mentions b))
  compound_good (stmt_grammar.is_class {b = b} h name empty s members) =
      let y = suite_good s in (y.0, defined (stmts_mentions b))

  elifs_good : {c : Context} {bs : Branches} {ts us : Tokens} → stmt_grammar.IsElifs c bs ts us
      → Differ (of_branches bs) × Spare c.function (branches_mentions bs)
  elifs_good stmt_grammar.no_elif = (none, silent)
  elifs_good (stmt_grammar.an_elif h e b bs) =
      let x = spelled.expr_differs e in let y = suite_good b in let z = elifs_good bs in
      (both (both x y.0) z.0, listed y.1 z.1)

  else_good : {c : Context} {o : MaybeStmts} {ts us : Tokens} → stmt_grammar.IsElse c o ts us
      → Differ (of_maybe_stmts o) × Spare c.function (maybe_mentions o)
  else_good stmt_grammar.no_else = (none, silent)
  else_good (stmt_grammar.an_else h b) = suite_good b

  finally_good : {c : Context} {o : MaybeStmts} {ts us : Tokens} → stmt_grammar.IsFinally c o ts us
      → Differ (of_maybe_stmts o) × Spare c.function (maybe_mentions o)
  finally_good stmt_grammar.no_finally = (none, silent)
  finally_good (stmt_grammar.a_finally h b) = suite_good b

  handlers_good : {c : Context} {hs : Excepts} {ts us : Tokens} → stmt_grammar.IsHandlers c hs ts us
      → Differ (of_excepts hs) × Spare c.function (excepts_mentions hs)
  handlers_good stmt_grammar.no_handler = (none, silent)
  handlers_good (stmt_grammar.handles_all h b) = let x = suite_good b in (both x.0 none, listed x.1 silent)
  handlers_good (stmt_grammar.handles h e b hs) =
      let x = spelled.expr_differs e in let y = suite_good b in let z = handlers_good hs in
      (both (both x y.0) z.0, listed y.1 z.1)
  handlers_good (stmt_grammar.handles_named h e comes name b hs) =
      let x = spelled.expr_differs e in let y = suite_good b in let z = handlers_good hs in
      (both (both x y.0) z.0, above (listed y.1 z.1))

  suite_good : {c : Context} {xs : Stmts} {ts us : Tokens} → stmt_grammar.IsSuite c xs ts us
      → Differ (of_stmts xs) × Spare c.function (stmts_mentions xs)
  suite_good (stmt_grammar.suite h b) = block_good b

  block_good : {c : Context} {xs : Stmts} {ts us : Tokens} → stmt_grammar.IsBlock c xs ts us
      → Differ (of_stmts xs) × Spare c.function (stmts_mentions xs)
  block_good (stmt_grammar.one_line x) = line_good x
  block_good (stmt_grammar.indented {c = c} {xs = xs} {ys = ys} newline indent x more dedent) =
      let a = statement_good x in let b = statements_good more in
      (joined_differ xs ys a.0 b.0, joined_spare c xs ys a.1 b.1)

  statements_good : {c : Context} {xs : Stmts} {ts us : Tokens} → stmt_grammar.IsStatements c xs ts us
      → Differ (of_stmts xs) × Spare c.function (stmts_mentions xs)
  statements_good stmt_grammar.no_statement = (none, silent)
  statements_good (stmt_grammar.more_statements {c = c} {xs = xs} {ys = ys} x more) =
      let a = statement_good x in let b = statements_good more in
      (joined_differ xs ys a.0 b.0, joined_spare c xs ys a.1 b.1)

pub each_spelled_differs : EachSpelledDiffers
each_spelled_differs body tokens spells = let good = (statements_good spells.statements).0 in good.each
