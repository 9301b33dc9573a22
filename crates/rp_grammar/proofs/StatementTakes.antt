-- What is spelled as a statement takes at least one token, and what may be empty none or more.
use Rattle.std.proofs.Common.{◌<◌, ◌≤◌, List, length, arith}
use Rattle.rp_base.specs.declared.value.Line.{Line}
use Rattle.rp_tree.specs.Expressions.{Named, Expr, Place, Target}
use Rattle.rp_tree.specs.Statements.{Stmt, StmtForm, Stmts, MaybeStmts, Branches, Excepts}
use Rattle.rp_grammar.specs.Kinds.{Tokens, skip}
use Rattle.rp_grammar.specs.Expressions as grammar
use Rattle.rp_grammar.proofs.ExpressionTakes.{skip_within, takes, place_takes, group_takes, parts_take, target_takes, expr_takes, listed_takes, params_take}
use Rattle.rp_grammar.specs.Statements as stmt_grammar
use Rattle.rp_grammar.specs.Statements.{Context}

pub exprs_take : {e : Expr} {ts us : Tokens} → grammar.IsExprs e ts us → length us < length ts
exprs_take (grammar.an_expr p) = expr_takes p
exprs_take (grammar.several {us = us} p h q) = omega (arith, expr_takes p, skip_within us, listed_takes q)

pub names_take : {ns : List Named} {ts us : Tokens} → stmt_grammar.IsNames ns ts us → length us < length ts
names_take {ts = ts} (stmt_grammar.last_name h) = takes ts _ h (λ e. cc)
names_take {ts = ts} (stmt_grammar.more_names h comma q) = omega (arith, takes ts _ h (λ e. cc), skip_within (skip ts), names_take q)

pub places_take : {ps : List Place} {ts us : Tokens} → stmt_grammar.IsPlaces ps ts us → length us < length ts
places_take (stmt_grammar.last_place p) = place_takes p
places_take (stmt_grammar.last_comma {us = us} p comma) = omega (arith, place_takes p, skip_within us)
places_take (stmt_grammar.more_places {us = us} p comma q) = omega (arith, place_takes p, skip_within us, places_take q)

pub assigned_take : {ps : List Place} {ts us : Tokens} → stmt_grammar.Assigned ps ts us → length us < length ts
assigned_take (stmt_grammar.last_assigned {us = us} p equal) = omega (arith, place_takes p, skip_within us)
assigned_take (stmt_grammar.more_assigned {us = us} p equal q) = omega (arith, place_takes p, skip_within us, assigned_take q)

pub unpacked_takes : {p : Target} {line : Line} {ts us : Tokens} → stmt_grammar.IsUnpacked p line ts us → length us < length ts
unpacked_takes (stmt_grammar.a_group p) = group_takes p
unpacked_takes (stmt_grammar.some_parts p) = parts_take p

pub simple_takes : {c : Context} {x : Stmt} {ts us : Tokens} → stmt_grammar.IsSimple c x ts us → length us < length ts
simple_takes {ts = ts} (stmt_grammar.is_pass h) = takes ts _ h (λ e. cc)
simple_takes {ts = ts} (stmt_grammar.is_break inside h) = takes ts _ h (λ e. cc)
simple_takes {ts = ts} (stmt_grammar.is_continue inside h) = takes ts _ h (λ e. cc)
simple_takes {ts = ts} (stmt_grammar.is_return inside h) = takes ts _ h (λ e. cc)
simple_takes {ts = ts} (stmt_grammar.returns_value inside h p) = omega (arith, skip_within ts, exprs_take p)
simple_takes {ts = ts} (stmt_grammar.raises_again inside h) = takes ts _ h (λ e. cc)
simple_takes {ts = ts} (stmt_grammar.is_raise h p) = omega (arith, skip_within ts, expr_takes p)
simple_takes {ts = ts} (stmt_grammar.is_assert h p) = omega (arith, skip_within ts, expr_takes p)
simple_takes {ts = ts} (stmt_grammar.asserts_with_text {us = us} h p comma q) = omega (arith, skip_within ts, expr_takes p, skip_within us, expr_takes q)
simple_takes {ts = ts} (stmt_grammar.is_global outside free h p) = omega (arith, skip_within ts, names_take p)
simple_takes {ts = ts} (stmt_grammar.is_del h p) = omega (arith, skip_within ts, places_take p)
simple_takes (stmt_grammar.is_value p) = exprs_take p
simple_takes (stmt_grammar.is_augmented {us = us} p mark q) = omega (arith, place_takes p, skip_within us, exprs_take q)
simple_takes (stmt_grammar.is_assignment p q) = omega (arith, assigned_take p, exprs_take q)
simple_takes (stmt_grammar.is_unpacking {us = us} p equal q) = omega (arith, unpacked_takes p, skip_within us, exprs_take q)

pub line_takes : {c : Context} {xs : Stmts} {ts us : Tokens} → stmt_grammar.IsLine c xs ts us → length us < length ts
line_takes (stmt_grammar.line_end {us = us} x h) = omega (arith, simple_takes x, skip_within us)
line_takes (stmt_grammar.line_semicolon {us = us} x h newline) = omega (arith, simple_takes x, skip_within us, skip_within (skip us))
line_takes (stmt_grammar.line_more {us = us} x h xs) = omega (arith, simple_takes x, skip_within us, line_takes xs)

pub bases_take : {ts us : Tokens} → stmt_grammar.IsEmptyBases ts us → length us ≤ length ts
bases_take stmt_grammar.no_bases = omega arith
bases_take {ts = ts} (stmt_grammar.empty_bases opens closes) = omega (arith, skip_within ts, skip_within (skip ts))

mutual
  pub statement_takes : {c : Context} {xs : Stmts} {ts us : Tokens} → stmt_grammar.IsStatement c xs ts us → length us < length ts
  statement_takes (stmt_grammar.a_line l) = line_takes l
  statement_takes (stmt_grammar.a_compound x) = compound_takes x

  pub compound_takes : {c : Context} {form : StmtForm} {ts us : Tokens} → stmt_grammar.IsCompound c form ts us → length us < length ts
  compound_takes {ts = ts} (stmt_grammar.is_if h e b bs o) = omega (arith, skip_within ts, expr_takes e, suite_takes b, elifs_take bs, else_takes o)
  compound_takes {ts = ts} (stmt_grammar.is_while h e b) = omega (arith, skip_within ts, expr_takes e, suite_takes b)
  compound_takes {ts = ts} (stmt_grammar.is_for {us = us} h p comes e b) = omega (arith, skip_within ts, target_takes p, skip_within us, exprs_take e, suite_takes b)
  compound_takes {ts = ts} (stmt_grammar.is_try h b hs o l) = omega (arith, skip_within ts, suite_takes b, handlers_take hs, else_takes o, finally_takes l)
  compound_takes {ts = ts} (stmt_grammar.is_try_finally h b l) = omega (arith, skip_within ts, suite_takes b, finally_takes l)
  compound_takes {ts = ts} (stmt_grammar.is_def {us = us} h name opens ps differ closes b) = omega (arith, skip_within ts, skip_within (skip ts), skip_within (skip (skip ts)), params_take ps, skip_within us, suite_takes b)
  compound_takes {ts = ts} (stmt_grammar.is_class h name empty b members) = omega (arith, skip_within ts, skip_within (skip ts), bases_take empty, suite_takes b)

  pub elifs_take : {c : Context} {bs : Branches} {ts us : Tokens} → stmt_grammar.IsElifs c bs ts us → length us ≤ length ts
  elifs_take stmt_grammar.no_elif = omega arith
  elifs_take {ts = ts} (stmt_grammar.an_elif h e b bs) = omega (arith, skip_within ts, expr_takes e, suite_takes b, elifs_take bs)

  pub else_takes : {c : Context} {o : MaybeStmts} {ts us : Tokens} → stmt_grammar.IsElse c o ts us → length us ≤ length ts
  else_takes stmt_grammar.no_else = omega arith
  else_takes {ts = ts} (stmt_grammar.an_else h b) = omega (arith, skip_within ts, suite_takes b)

  pub finally_takes : {c : Context} {o : MaybeStmts} {ts us : Tokens} → stmt_grammar.IsFinally c o ts us → length us ≤ length ts
  finally_takes stmt_grammar.no_finally = omega arith
  finally_takes {ts = ts} (stmt_grammar.a_finally h b) = omega (arith, skip_within ts, suite_takes b)

  pub handlers_take : {c : Context} {hs : Excepts} {ts us : Tokens} → stmt_grammar.IsHandlers c hs ts us → length us ≤ length ts
  handlers_take stmt_grammar.no_handler = omega arith
  handlers_take {ts = ts} (stmt_grammar.handles_all h b) = omega (arith, skip_within ts, suite_takes b)
  handlers_take {ts = ts} (stmt_grammar.handles h e b hs) = omega (arith, skip_within ts, expr_takes e, suite_takes b, handlers_take hs)
  handlers_take {ts = ts} (stmt_grammar.handles_named {us = us} h e comes name b hs) = omega (arith, skip_within ts, expr_takes e, skip_within us, skip_within (skip us), suite_takes b, handlers_take hs)

  pub suite_takes : {c : Context} {xs : Stmts} {ts us : Tokens} → stmt_grammar.IsSuite c xs ts us → length us < length ts
  suite_takes {ts = ts} (stmt_grammar.suite h b) = omega (arith, skip_within ts, block_takes b)

  pub block_takes : {c : Context} {xs : Stmts} {ts us : Tokens} → stmt_grammar.IsBlock c xs ts us → length us < length ts
  block_takes (stmt_grammar.one_line l) = line_takes l
  block_takes {ts = ts} (stmt_grammar.indented {vs = vs} newline indent x xs dedent) = omega (arith, skip_within ts, skip_within (skip ts), statement_takes x, statements_take xs, skip_within vs)

  pub statements_take : {c : Context} {xs : Stmts} {ts us : Tokens} → stmt_grammar.IsStatements c xs ts us → length us ≤ length ts
  statements_take stmt_grammar.no_statement = omega arith
  statements_take (stmt_grammar.more_statements x xs) = omega (arith, statement_takes x, statements_take xs)
